-- In reading order: lists and tests over the numbers below a bound, an order by numbers with the least of some numbers,
-- numbers in bytes, and decimal digits.
pub mod Lists
pub mod Order
pub mod Numbers
pub mod Digits

-- What a reader must believe, in reading order, S6: numbers in decimal, lines of numbers, what is printed for a
-- sheet. Then, in `means`, what only proofs and inner functions need.
pub mod Decimal
pub mod Lines
pub mod Printed
pub mod means

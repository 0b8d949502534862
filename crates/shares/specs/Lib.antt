-- What a reader must believe, in reading order: the pair test, the virtual deadline and the division behind it, a low
-- task's share, the search for the least critical share, a task's offer, the virtual deadline and the remainder at
-- either level, the worked cases, sums of shares, and how large the sides of the test get. Then, in `means`, what only
-- proofs and inner functions need.
pub mod Test
pub mod Low
pub mod Search
pub mod Offer
pub mod Deadline
pub mod Cases
pub mod Totals
pub mod Bound
pub mod means

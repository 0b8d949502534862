-- What a reader must believe, in reading order: the kept tasks by enumeration, the same in plain words, and the running
-- totals by which the code finds them; what holds of these. Then, in `means`, what only proofs and inner functions
-- need.
pub mod Kept
pub mod KeptSet
pub mod Running
pub mod Promise
pub mod means

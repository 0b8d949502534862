-- What only proofs and inner functions need: the way in which the code finds the kept tasks.
pub mod Keeping

-- What only proofs and inner functions need: the pass of a tick.
pub mod Passed

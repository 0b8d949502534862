-- What only proofs and inner functions need: the pair test with its products taken out.
pub mod Terms

-- The work and the span of times, and laws of them. Then, in `means`, what only proofs and inner functions need.
pub mod Chains
pub mod Laws
pub mod means

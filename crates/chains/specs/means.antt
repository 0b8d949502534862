-- What only proofs and inner functions need: times that stay within a word.
pub mod Bounds

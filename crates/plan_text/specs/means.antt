-- What only proofs and inner functions need: a text that grows in an array.
pub mod Growth

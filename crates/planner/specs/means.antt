-- What only proofs and inner functions need: a task's bytes in a buffer.
pub mod Writing

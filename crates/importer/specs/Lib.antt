-- In reading order: the task that a graph becomes, what import answers and writes, and laws of both. Then, in `means`, what only proofs
-- and inner functions need.
pub mod Task
pub mod Import
pub mod Laws
pub mod means

-- What only proofs and inner functions need: the task of a graph that is held by its nodes.
pub mod Nodes

-- In reading order: the numerals of a text, the graph that they say, and what is read of it. Then, in `means`, what only proofs and
-- inner functions need.
pub mod Text
pub mod Graph
pub mod Read
pub mod means

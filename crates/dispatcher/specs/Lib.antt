-- In reading order: the state and the model that it holds, soundness, the answers, the calls Release and Tick, Board,
-- and laws of these.
-- Then, in `means`, what only proofs and inner functions need.
pub mod Holds
pub mod Sound
pub mod Answers
pub mod Calls
pub mod Board
pub mod Laws
pub mod means

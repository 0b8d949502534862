-- What a reader must believe, in reading order: the choices and their order, the same in plain words, the blocks, what
-- is chosen for a task set and what is fixed for each task of a sheet; that nothing is lost in V and its remainder;
-- what keeping low tasks leaves and marks; the answers in plain words; what a task set from an accepted reading and its
-- shares keep; what the planner holds in bytes; a sheet and its wide form; and what holds of every task set and sheet.
-- Then, in `means`, what only proofs and inner functions need.
pub mod Choice
pub mod Way
pub mod Blocks
pub mod Allocation
pub mod Rounded
pub mod SetShares
pub mod Verdict
pub mod Lawful
pub mod Held
pub mod Wide
pub mod Promise
pub mod means

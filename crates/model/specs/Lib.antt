-- In reading order: one task, the calls on a model of all tasks, lists of calls, what a job's nodes may take, the model
-- that a task set and its shares make, the promises, those of a return, what is proved beside them, and one task seen
-- by itself.
pub mod Row
pub mod Step
pub mod Run
pub mod Budget
pub mod Plan
pub mod Claim
pub mod Return
pub mod Beside
pub mod Isolation

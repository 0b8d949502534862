-- What a reader must believe: the plan and its answers, and that a sheet and its wide form have the same. Then, in
-- `means`, what only proofs and inner functions need.
pub mod Plan
pub mod Wide
pub mod means

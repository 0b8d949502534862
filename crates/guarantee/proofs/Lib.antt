-- In reading order: a run on a sound state, the plan of an accepted sheet, its fresh state, the theorem (S10), that of two runs, and that
-- what they ask can be met; then Replay (S12).
pub mod Together
pub mod Planning
pub mod Freshness
pub mod Theorem
pub mod Isolation
pub mod Truths
pub mod WitnessSheets
pub mod Witness
pub mod IsolationWitness
pub mod Encodings
pub mod Records
pub mod Replays
pub mod ReplayModel

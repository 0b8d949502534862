-- In reading order: runs, what is promised of them (S10), of one run and of two, and that what this asks can be met; then logs of calls, the
-- records of a replay, and Replay (S12).
pub mod Runs
pub mod Guarantee
pub mod Isolation
pub mod Witness
pub mod IsolationWitness
pub mod Encoding
pub mod Record
pub mod Replay

-- The exported Replay: what it answers, and what it leaves where it wrote nothing.
pub mod Written

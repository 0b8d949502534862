-- In reading order: the entry and the row that it holds, soundness.
pub mod Entry
pub mod Sound

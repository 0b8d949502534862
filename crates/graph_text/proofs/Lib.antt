pub mod Numerals
pub mod Rests
pub mod Entries
pub mod Steps
pub mod Held
pub mod Bounds
pub mod Worked

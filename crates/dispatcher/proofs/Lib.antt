-- Laws that belong to no one function.
pub mod Soundness
pub mod Entries
pub mod Rows
pub mod Releases
pub mod Switches
pub mod Ticks
pub mod Boards
pub mod Laws
pub mod Shown
pub mod Worked

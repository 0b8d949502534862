pub mod Worked
pub mod Bits
pub mod Members
pub mod Whole
pub mod Rising
pub mod Parts
pub mod Trailing
pub mod Picks

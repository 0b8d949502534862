pub mod Greatest
pub mod Sums
pub mod Ends
pub mod Spans
pub mod Growth
pub mod Laws
pub mod Stores
pub mod Worked

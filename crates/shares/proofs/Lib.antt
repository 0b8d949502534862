-- Facts at literals first, then the laws that belong to no one function.
pub mod Cases
pub mod Worked
pub mod Division
pub mod Ticks
pub mod Ends
pub mod Least
pub mod Rounding
pub mod Walk
pub mod Offers
pub mod Levels
pub mod Totals
pub mod Bounds

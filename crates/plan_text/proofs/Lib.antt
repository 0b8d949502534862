-- Facts at literals first, then the laws that belong to no one function.
pub mod Worked
pub mod Sheets
pub mod Digits
pub mod Arrays
pub mod Growths
pub mod Lengths
pub mod Tasks
pub mod Fitting
pub mod Promises

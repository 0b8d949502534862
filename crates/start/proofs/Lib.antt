-- Laws that belong to no one function.
pub mod Starts
pub mod Worked
pub mod Wide

-- Laws that belong to no one function, and worked facts.
pub mod Places
pub mod Records
pub mod Readings
pub mod Worked

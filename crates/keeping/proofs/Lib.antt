-- Facts at literals first, then the laws that belong to no one function.
pub mod Worked
pub mod Parts
pub mod Greedy
pub mod Laws
pub mod Running
pub mod Front
pub mod Scan
pub mod Steps
pub mod Counted

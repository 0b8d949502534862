-- Facts at literals first, then the laws that belong to no one function.
pub mod Worked
pub mod Bytes
pub mod Parts
pub mod Plans
pub mod Wide
pub mod Forms

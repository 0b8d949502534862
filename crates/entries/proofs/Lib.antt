-- Laws that belong to no one function.
pub mod NodeSets
pub mod Soundness
pub mod Worked

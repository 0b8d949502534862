-- Laws that belong to no one function, and worked facts.
pub mod Logic
pub mod Cells
pub mod Faults
pub mod Masks
pub mod Encoding
pub mod Parts
pub mod Wide
pub mod Limits
pub mod Worked
pub mod Said
pub mod Zeros

-- Laws that belong to no one function. In `Codec`: words and states say the same. In `Refusals`: what a refused call
-- leaves, and that a line stays a state. The others are the functions' own.
pub mod Lines
pub mod Codec
pub mod Decoded
pub mod Read
pub mod Stored
pub mod Called
pub mod Refusals
pub mod Repeated

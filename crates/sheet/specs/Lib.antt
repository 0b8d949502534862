-- In reading order: the refusals and the answers, what a level says, the format, the rules of a record, a record and
-- a sheet written, the wide form, and laws of these.
pub mod Refusal
pub mod Level
pub mod Format
pub mod Rules
pub mod Encoding
pub mod Wide
pub mod Laws

-- What only proofs and inner functions need: numerals read one after the other, and entries read from them.
pub mod Scan
pub mod Entries

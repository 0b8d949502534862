-- In reading order: a reading as numbers, a state as words, a tick's answer as a number, the calls on lines; and calls
-- repeated, which only the benchmarks make.
pub mod Fields
pub mod Words
pub mod Ticks
pub mod Calls
pub mod Repeats

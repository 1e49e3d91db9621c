pub mod Entries
pub mod Bits
pub mod Ages
pub mod Turns
pub mod Counts

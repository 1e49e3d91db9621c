pub mod LineMap
pub mod Misses
pub mod OneLine

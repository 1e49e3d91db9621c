pub mod Firsts
pub mod Gaps
pub mod Entries
pub mod Waits
pub mod Wakes
pub mod Adds
pub mod Empty
pub mod Selects

pub mod Entries
pub mod Laws
pub mod Log
pub mod Slots
pub mod Spans

pub mod Apart
pub mod Caches
pub mod Empty
pub mod Layout
pub mod Lookups
pub mod Recency
pub mod Sound
pub mod Ways

-- The coherence protocol of one line of memory: its messages, its two tables, its events, and what they keep.
pub mod Messages
pub mod Lines
pub mod HomeTable
pub mod NodeTable
pub mod Events
pub mod Roles
pub mod Coherent
pub mod Content
pub mod Alike
pub mod Awaited
pub mod Walks
pub mod Laws
pub mod Promised

mod Accessing
pub mod Adding
mod Addresses
pub mod Alike
pub mod Awaiting
pub mod Beginning
pub mod Counting
mod Gone
pub mod HomeSteps
pub mod Keeping
pub mod Leaving
pub mod Lines
pub mod Lost
pub mod Fabrics
pub mod Kept
mod Meanings
pub mod Moving
pub mod NodeLaws
pub mod NodeRights
mod Memories
mod Messages
mod Nearness
mod PartRows
pub mod Places
pub mod Once
mod Posting
mod Saying
pub mod Quiet
pub mod Receiving
pub mod Rights
pub mod Rooms
pub mod Rows
mod Serving
pub mod Sides
mod Smallness
mod Soundness
mod Starting
pub mod Staying
mod Stored
mod Ticking
pub mod Turning
mod Values
pub mod Writing
mod Wishing
mod ReadStore
mod WriteStore
mod Making

pub mod Added
pub mod Bytes
pub mod Letters
pub mod Sending
pub mod Starting
pub mod Within

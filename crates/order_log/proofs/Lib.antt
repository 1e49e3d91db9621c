pub mod Kept
pub mod Listing
pub mod Lists
pub mod Marks
pub mod Places

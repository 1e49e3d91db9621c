pub mod Holders
pub mod InFlight
pub mod Insides
pub mod ReadingInFlight
pub mod Times

pub mod Finds
pub mod FirstFaults
pub mod Orders
pub mod Holders
pub mod Pairs
pub mod Layouts
pub mod Views

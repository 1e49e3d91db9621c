pub mod Held
pub mod Needs
pub mod Numbered
pub mod Queues
pub mod Tables
pub mod Units
pub mod Views
pub mod Words

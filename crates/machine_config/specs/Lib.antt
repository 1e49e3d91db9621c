pub mod Allowed
pub mod Faults
pub mod Keys
pub mod Reading
pub mod Sizes
pub mod Text

pub mod Bytes
pub mod Laws
pub mod Levels
pub mod Sizes
pub mod Slots
pub mod Sound

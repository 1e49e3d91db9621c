pub mod ConfigSizes
pub mod Copying
pub mod Empty
pub mod Putting
pub mod Standing

pub mod Digits
pub mod Doublewords
pub mod Writes

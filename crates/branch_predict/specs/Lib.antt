pub mod Guesses
pub mod Parts

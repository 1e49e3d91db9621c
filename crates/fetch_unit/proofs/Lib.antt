mod Guessing
mod Spots
mod Standing

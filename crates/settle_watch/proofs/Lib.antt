pub mod InOrder
pub mod Least
pub mod NoVictims
pub mod Performed

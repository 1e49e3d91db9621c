pub mod Laws
pub mod Names
pub mod Reading
pub mod ReadingLaws
pub mod Registers
pub mod Renaming
pub mod Start

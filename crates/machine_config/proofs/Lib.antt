pub mod Defaults
pub mod Lines
pub mod Meant
pub mod Numbers
pub mod Places
pub mod Table
pub mod Whole
pub mod Words

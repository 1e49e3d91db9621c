pub mod Filters
pub mod Least
pub mod Options
pub mod Places
pub mod Rising
pub mod Tests

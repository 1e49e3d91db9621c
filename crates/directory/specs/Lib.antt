pub mod Fresh
pub mod HomeViews
pub mod Homes
pub mod HomeParts
pub mod Bounds
pub mod NodeSets
pub mod Meanings
pub mod Start

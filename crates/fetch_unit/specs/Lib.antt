pub mod Laws
pub mod Path
pub mod SpotLaws
pub mod Spots

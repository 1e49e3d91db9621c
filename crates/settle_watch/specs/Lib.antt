pub mod Laws
pub mod Watches

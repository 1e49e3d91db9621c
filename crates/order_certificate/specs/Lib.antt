pub mod Certificate
pub mod FaultText
pub mod Fields
pub mod Hex
pub mod Laws
pub mod OrderText
pub mod Reading

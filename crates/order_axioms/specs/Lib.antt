pub mod Axioms
pub mod Counted
pub mod Laws

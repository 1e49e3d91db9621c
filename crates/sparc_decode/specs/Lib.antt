pub mod Effects
pub mod Facts
pub mod Fields
pub mod Forms
pub mod Instr
pub mod Kinds
pub mod Laws
pub mod Ranges

pub mod Elf
pub mod Faults
pub mod Image
pub mod Layout

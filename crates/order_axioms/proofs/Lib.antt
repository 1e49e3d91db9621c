pub mod MaskBits
pub mod Needed

pub mod Compared
pub mod FourCodes
pub mod Opposites
pub mod SameBits

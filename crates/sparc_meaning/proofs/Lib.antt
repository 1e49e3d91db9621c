pub mod ByForm
pub mod Computing
pub mod Keeping
pub mod Numbered
pub mod Parts
pub mod Running
mod Sound
pub mod Telling

-- That every event keeps a line coherent.
pub mod Cells
pub mod Nodes
pub mod Homes
pub mod Whole
pub mod Owners
pub mod Runs
pub mod Known
pub mod Rows
pub mod Alike
pub mod Awaited
pub mod Example
pub mod Walking
pub mod Walked

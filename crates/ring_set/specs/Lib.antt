pub mod Firsts
pub mod RowLaws
pub mod Rows
pub mod Sets

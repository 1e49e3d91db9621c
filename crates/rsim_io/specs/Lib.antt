pub mod Entries
pub mod Failures
pub mod Faults
pub mod Files
pub mod Memory
pub mod Transfers
pub mod Written

pub mod Laws
pub mod Numbers
pub mod Queues
pub mod Rows
pub mod Steps

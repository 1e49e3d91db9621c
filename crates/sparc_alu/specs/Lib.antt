pub mod Accesses
pub mod Codes
pub mod Conditions
pub mod Laws
pub mod Numbers
pub mod Results

pub mod Calls
pub mod Published

pub mod Recursion
pub mod Works

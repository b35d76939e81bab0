pub mod Branches
pub mod Works

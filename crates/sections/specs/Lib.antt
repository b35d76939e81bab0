pub mod Sections
pub mod Works

pub mod Inert
pub mod Steps

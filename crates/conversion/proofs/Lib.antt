pub mod Refusals
pub mod Putting
pub mod Editions

pub mod Regions
pub mod Floods

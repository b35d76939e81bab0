pub mod Regions
pub mod Gauging
pub mod Flooding
pub mod Turns
pub mod Whole

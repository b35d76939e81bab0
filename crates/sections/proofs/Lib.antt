pub mod Regions
pub mod Sweep
pub mod Passing
pub mod Marked

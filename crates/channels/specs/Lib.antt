pub mod Channels
pub mod Scales

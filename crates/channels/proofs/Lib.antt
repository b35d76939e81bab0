pub mod Channels
pub mod Quotients
pub mod Scales

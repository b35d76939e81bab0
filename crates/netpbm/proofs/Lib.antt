pub mod Refusals
pub mod Frames
pub mod Replies
pub mod Writing
pub mod RoundTrip
pub mod Examples
pub mod Uncommented

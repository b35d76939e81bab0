pub mod Reading
pub mod Uncommented
pub mod Frames
pub mod Writing
pub mod Examples

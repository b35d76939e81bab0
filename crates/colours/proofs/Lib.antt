pub mod Frames
pub mod Calls
pub mod Overwrite
pub mod Grey

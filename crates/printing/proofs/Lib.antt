pub mod Emitting
pub mod Enhancing

pub mod Ascii
pub mod Placing
pub mod Heading
pub mod Writing

pub mod Sound
pub mod Lines
pub mod Tables
pub mod Ends

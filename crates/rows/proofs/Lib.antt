pub mod Rows
pub mod Codes
pub mod Taken
pub mod Runs

pub mod Spreading
pub mod Columns
pub mod Around

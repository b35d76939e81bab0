pub mod Orders
pub mod Runs
pub mod Calls
pub mod Copies
pub mod Levels
pub mod Components

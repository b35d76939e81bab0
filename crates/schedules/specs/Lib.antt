pub mod Orders
pub mod Components
pub mod Copies

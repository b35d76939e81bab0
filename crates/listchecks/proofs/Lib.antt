pub mod First
pub mod Refusals
pub mod Examples
pub mod Records

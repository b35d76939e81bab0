pub mod Refusals
pub mod Runs
pub mod Lists
pub mod Chains
pub mod Recursion
pub mod Editions

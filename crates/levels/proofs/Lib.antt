pub mod Refusals
pub mod Widths
pub mod Numbers

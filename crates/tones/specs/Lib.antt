pub mod Tones
pub mod Tables
pub mod Lone
pub mod Refusals
pub mod Numbers
pub mod Before
pub mod Examples

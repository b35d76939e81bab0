pub mod Sound
pub mod Ends
pub mod Lone
pub mod Numbers
pub mod Before
pub mod Examples

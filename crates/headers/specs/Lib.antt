pub mod Grammar
pub mod Headers
pub mod Uncommented
pub mod Reading

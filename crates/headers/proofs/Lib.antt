pub mod Grammar
pub mod Numbers
pub mod Headers
pub mod Uncommented

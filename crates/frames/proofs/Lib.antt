pub mod Program
pub mod Examples

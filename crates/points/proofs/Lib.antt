pub mod Search
pub mod Sizes
pub mod Rising
pub mod Points
pub mod Ahead

pub mod ShapePreserving
pub mod Before
pub mod Claims
pub mod Enhancements
pub mod Parallel
pub mod CFunctions
pub mod Contracts
pub mod Named

pub mod Before
pub mod Claims
pub mod CFunctions
pub mod CallContracts

pub mod Decimal
pub mod Placing
pub mod Writing
pub mod Digits
pub mod Heading

pub mod Bytes
pub mod Parsers
pub mod Gaps
pub mod Comments

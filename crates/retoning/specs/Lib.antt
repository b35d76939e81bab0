pub mod Retoning

pub mod Affine

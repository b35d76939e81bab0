pub mod Values
pub mod Sound
pub mod Histograms
pub mod Sums
pub mod Tables

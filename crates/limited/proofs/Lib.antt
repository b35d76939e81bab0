pub mod Sound
pub mod Ends
pub mod Stores
pub mod Histograms

pub mod Sound
pub mod Ends
pub mod Histograms

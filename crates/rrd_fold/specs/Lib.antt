pub mod Parts
pub mod Bounds
pub mod Additions
pub mod Summaries

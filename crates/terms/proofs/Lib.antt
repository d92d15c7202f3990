pub mod Reading
pub mod Places
pub mod Scans
pub mod Parts
pub mod Sorts
pub mod Answers
pub mod Samples

pub mod Term
pub mod Prefix
pub mod Place
pub mod Side
pub mod Scan
pub mod Question
pub mod Theorems
pub mod Examples

pub mod Path
pub mod Grade
pub mod Laws
pub mod Theorems
pub mod Fence
pub mod Examples

pub mod Bindings
pub mod Writing
pub mod Stepping
pub mod Redexes
pub mod Subjects

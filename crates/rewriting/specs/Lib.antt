pub mod Relation
pub mod Rewrite
pub mod Unify
pub mod Order
pub mod Theorems
pub mod Examples

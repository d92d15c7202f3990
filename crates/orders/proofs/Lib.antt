pub mod PathBytes
pub mod FigurePlacing
pub mod Ranking
pub mod MonomialLists
pub mod Interpreting
pub mod Samples

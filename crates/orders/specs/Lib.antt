pub mod Figures
pub mod Ranks
pub mod PathFaults
pub mod FieldQuestions
pub mod Polynomials
pub mod PolynomialFaults
pub mod Examples

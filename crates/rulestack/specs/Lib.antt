pub mod AlgebraExamples
pub mod FileRules
pub mod Laid
pub mod Statements

pub mod Closure
pub mod Fillings
pub mod Listed
pub mod Meaning
pub mod SideBySide
pub mod Tree

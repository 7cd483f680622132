pub mod Knows
pub mod Lattice
pub mod Laws
pub mod Masks
pub mod Options
pub mod Precision
pub mod Size

pub mod ByMasks
pub mod Complement
pub mod FirstBits
pub mod FullMasks
pub mod Shifts

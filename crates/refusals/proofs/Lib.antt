pub mod Judged
pub mod Passing

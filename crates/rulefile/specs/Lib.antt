pub mod Codes
pub mod Held
pub mod Room
pub mod Views

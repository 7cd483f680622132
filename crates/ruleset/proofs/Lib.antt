pub mod ClosureLaws
pub mod FillingLaws
pub mod Finding
pub mod Fitting
pub mod Listings
pub mod TreeLaws

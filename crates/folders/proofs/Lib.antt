pub mod Builds
pub mod HiddenOptions
pub mod SameValues
pub mod Stacks

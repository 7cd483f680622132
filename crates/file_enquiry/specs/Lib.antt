pub mod FileListings
pub mod FileOpenings
pub mod Worked

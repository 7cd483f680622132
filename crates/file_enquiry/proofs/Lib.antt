pub mod FileLists
pub mod FileOpens
pub mod SampleListing

pub mod Entries
pub mod Folders
pub mod Lawful
pub mod Statements

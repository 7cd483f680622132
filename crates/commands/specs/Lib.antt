pub mod Commands
pub mod Laws
pub mod Lines
pub mod Numerals
pub mod Parsing
pub mod Replies
pub mod Splitting
pub mod ReplyLaws

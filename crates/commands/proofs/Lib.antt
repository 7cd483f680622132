pub mod Cuts
pub mod LineLaws
pub mod Lines
pub mod Numbers
pub mod Printing
pub mod ReplyLaws

pub mod Accepts
pub mod Drafts
pub mod Fields
pub mod Ops

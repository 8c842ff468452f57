pub mod Histories
pub mod Following

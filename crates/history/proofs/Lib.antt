pub mod Histories
pub mod Following
pub mod Fronts

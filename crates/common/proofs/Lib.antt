pub mod Sets
pub mod Refusals
pub mod Made

pub mod Steps
pub mod Efforts
pub mod Equality
pub mod Others

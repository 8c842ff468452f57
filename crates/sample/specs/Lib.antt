pub mod Flat
pub mod Lines
pub mod Trials

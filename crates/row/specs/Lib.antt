pub mod Rows
pub mod Laid
pub mod Tallies
pub mod Trials

pub mod Deciding
pub mod Lines
pub mod Rows
pub mod Answering

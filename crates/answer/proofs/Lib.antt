pub mod Bytes
pub mod Only
pub mod Showing
pub mod Streaming
pub mod Telling
pub mod Totals

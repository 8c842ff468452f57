pub mod Worked
pub mod Rows
pub mod Files
pub mod Answers

pub mod Laying
pub mod Judging
pub mod Firsts
pub mod Figures
pub mod Held

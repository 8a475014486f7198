pub mod Contents
pub mod Products
pub mod Tables
mod Parts
mod Rows
mod Answers

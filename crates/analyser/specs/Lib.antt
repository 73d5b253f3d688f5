pub mod Histories
pub mod Assurance
pub mod Reading
pub mod Comparing
pub mod Worst

pub mod Growing
pub mod Questions
pub mod Readings

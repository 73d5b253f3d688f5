pub mod Scaling
pub mod Rounding
pub mod Levels
pub mod Unique
pub mod Rows

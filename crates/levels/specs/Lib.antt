pub mod Rounding
pub mod Level
pub mod Scales
pub mod Conversion
pub mod Rows

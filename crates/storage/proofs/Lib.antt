pub mod Steps
pub mod Forms
pub mod RoundTrip
pub mod Spelling
pub mod Places
pub mod Outcomes
pub mod Turns
pub mod Rows

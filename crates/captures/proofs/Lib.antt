pub mod Counts
pub mod Shortfalls
pub mod Contradictions
pub mod Imports
pub mod Storing

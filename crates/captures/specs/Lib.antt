pub mod Tops
pub mod Captures
pub mod Calls
pub mod Promises
pub mod Views

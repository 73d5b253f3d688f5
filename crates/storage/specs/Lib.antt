pub mod Contents
pub mod Stored
pub mod Reading
pub mod Laws
pub mod Cursors
pub mod Calls

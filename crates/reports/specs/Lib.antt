pub mod Text
pub mod Report
pub mod Pages
pub mod Printed

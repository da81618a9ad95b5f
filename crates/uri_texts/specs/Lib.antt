pub mod Constants
pub mod Escapes
pub mod Parameters
pub mod Templates
pub mod Visible

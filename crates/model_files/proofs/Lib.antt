pub mod Each
pub mod Plurals
pub mod Rows
pub mod Steps
pub mod WholeRows

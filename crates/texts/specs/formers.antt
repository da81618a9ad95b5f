pub mod list
pub mod pairs

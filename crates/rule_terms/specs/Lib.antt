pub mod Attributes
pub mod Characters
pub mod Functions
pub mod Patterns
pub mod Seen
pub mod Templates

pub mod Attempts
pub mod Callers
pub mod Calls
pub mod Classes
pub mod Ends
pub mod Inside
pub mod Laws
pub mod Retries

pub mod FaultText
pub mod Faults
pub mod Names
pub mod Paginators
pub mod Reading
pub mod Waiters

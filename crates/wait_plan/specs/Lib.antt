pub mod FaultText
pub mod Inside
pub mod Matches
pub mod Plans

pub mod Dense
pub mod Documents
pub mod Inside
pub mod LostTimes
pub mod Quoted
pub mod Scalars
pub mod Slots
pub mod WholeNumbers

pub mod Contents
pub mod Due
pub mod Faults
pub mod Folders
pub mod Inside
pub mod Laws
pub mod Versions

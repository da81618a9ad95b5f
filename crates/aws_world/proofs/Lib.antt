pub mod Case
pub mod Causes
pub mod Folders
pub mod Last
pub mod Moments
pub mod Pieces
pub mod Told

pub mod Due
pub mod Each
pub mod Fielded
pub mod JsonLayers
pub mod JsonParts
pub mod Literals
pub mod Marked
pub mod Numerals
pub mod OneInstant
pub mod Refused
pub mod ShortLayers
pub mod ShortParts
mod Told

pub mod DenseParts
pub mod JsonParts
pub mod LostParts
pub mod Marking
pub mod SpotTables

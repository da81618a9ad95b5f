pub mod Adds
pub mod HeadBytes
pub mod Joins
pub mod PlainBytes
pub mod ReadHeads
pub mod Receipts

pub mod Appends
pub mod HttpDates
pub mod MarchYears
pub mod Parts
pub mod Spans

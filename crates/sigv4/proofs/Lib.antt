pub mod HeaderSteps
pub mod Listed
pub mod Marks
pub mod OneForms
pub mod PlainDigits
pub mod SortedPairs
pub mod SortedSame
pub mod Squeezed

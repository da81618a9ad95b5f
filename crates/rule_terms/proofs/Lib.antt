pub mod DigitTexts
pub mod Fitting
pub mod MadeTexts
pub mod Paths
pub mod Pieces

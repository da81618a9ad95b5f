pub mod CallLaws
pub mod Decisions
pub mod Outside
pub mod Pauses
pub mod Turns
pub mod ReadBack

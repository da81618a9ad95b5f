pub mod Passed
pub mod RowPlans

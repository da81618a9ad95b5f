pub mod Each
pub mod Finds
pub mod Ports
pub mod OneDue
pub mod Fronts
pub mod Saying
pub mod LinePlans
pub mod Courses

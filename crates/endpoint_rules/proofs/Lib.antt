mod Both
mod Escapes
mod FalseLeaves
mod Fresh
mod HostLabels
mod Outcomes
mod Passing
mod Substrings

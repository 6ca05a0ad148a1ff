pub mod Fronts
pub mod Given
mod Outcomes

pub mod Digits
pub mod Draws
pub mod Examples
pub mod Fronts
pub mod Lines
pub mod Listing
pub mod Parts

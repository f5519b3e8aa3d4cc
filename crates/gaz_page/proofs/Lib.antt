pub mod Sides
pub mod Read
pub mod TreeRoot
pub mod Area
pub mod PageMaps
pub mod FreeBack
pub mod FreeChains
pub mod TakeDamages
pub mod Takes
mod Examples

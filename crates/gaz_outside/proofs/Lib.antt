pub mod Places
pub mod Record
pub mod Runs
pub mod StopOutcomes
pub mod TornWrites

pub mod Mirrored
pub mod Opened
pub mod Settling

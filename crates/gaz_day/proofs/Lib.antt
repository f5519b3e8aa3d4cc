pub mod Begun
pub mod Dated
pub mod Day

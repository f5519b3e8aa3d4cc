pub mod Dates
pub mod Texts
pub mod Given
pub mod Examples

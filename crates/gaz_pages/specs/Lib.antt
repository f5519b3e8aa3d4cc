pub mod Areas
pub mod Extent
pub mod Fits
pub mod Held
pub mod Keeps
pub mod Laid
pub mod Reads
pub mod Views

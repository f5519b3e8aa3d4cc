pub mod Left
pub mod OnDevice

pub mod Found
pub mod Stands
pub mod Put
pub mod TakenOut
pub mod Walk

pub mod Framed
pub mod Held
pub mod Kept

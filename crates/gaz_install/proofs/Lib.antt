pub mod Roots
pub mod Moments
pub mod Idle
pub mod Below
pub mod Whole
pub mod Named
pub mod Over
pub mod ByKind

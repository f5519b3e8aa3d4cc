pub mod Cutter
pub mod Files
pub mod Lines
pub mod Step
pub mod Window

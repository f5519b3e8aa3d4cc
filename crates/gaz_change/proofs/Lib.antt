pub mod Changing
pub mod Folding
pub mod Reading
pub mod Stored
pub mod Named

mod Examples
pub mod Counted
pub mod Filed
pub mod Marks
pub mod Replied
pub mod Stored
pub mod Tallies
pub mod Told
pub mod Underway
pub mod Follow
pub mod Kept

pub mod Wanted
pub mod Seen
pub mod Ways
pub mod Searched
pub mod Boxes
pub mod Candidates
pub mod Gathered

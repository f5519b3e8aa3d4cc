mod Examples
mod WorkedChains
pub mod KeyOrder
pub mod Tables
pub mod OneLine
pub mod Folds
pub mod Kept
pub mod Steps
pub mod Taken
pub mod Absent
pub mod EntryLemmas
pub mod ListLemmas
pub mod Wanting
pub mod Offered
pub mod Selected
pub mod PlacedLemmas
pub mod PlacedNames
pub mod Foremost
pub mod Climbed
pub mod Named
pub mod Upwards
pub mod OrderedLemmas
pub mod Numbered
pub mod Linked
pub mod Sought
pub mod Below
pub mod Offering

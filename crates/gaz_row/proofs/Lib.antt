pub mod AcceptedLemmas
pub mod WalkLemmas

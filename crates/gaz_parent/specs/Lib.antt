pub mod Parent
pub mod Questions
pub mod Chain
pub mod Laws

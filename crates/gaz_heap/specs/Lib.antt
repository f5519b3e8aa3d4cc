pub mod Chain
pub mod Place
pub mod Facts
pub mod Heap

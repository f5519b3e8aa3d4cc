pub mod Root
pub mod TreeRoot
pub mod Laws
pub mod Free
pub mod Pages
pub mod Chains
pub mod Area
pub mod Memory

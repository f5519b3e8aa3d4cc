pub mod Chunk
pub mod Files
pub mod Made
pub mod Row

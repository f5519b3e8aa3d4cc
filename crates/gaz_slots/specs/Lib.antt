pub mod Bytes
pub mod RecordPage
pub mod Edited
pub mod Overflow
pub mod Room

pub mod Made
pub mod Tags
pub mod Fit
pub mod Apart
pub mod Alike
pub mod NameBytes
pub mod KeysFit
pub mod Fronts
pub mod RowKeys
mod Examples

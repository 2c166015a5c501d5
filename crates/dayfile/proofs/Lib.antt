pub mod Refusals
pub mod Opening
pub mod Parts
pub mod Made
pub mod CaseFile
mod Header
pub mod Fields

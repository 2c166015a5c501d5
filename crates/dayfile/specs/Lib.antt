pub mod Limits
pub mod Records
pub mod Layout
pub mod Opening
pub mod Making
pub mod WithinLimits

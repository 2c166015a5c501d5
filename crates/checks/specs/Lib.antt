pub mod Table
pub mod Marks
pub mod Corrections
pub mod Positions
pub mod Judging
pub mod Finding
pub mod Faults

pub mod Ascii
pub mod Writing
pub mod Decimal
pub mod Table

pub mod Composing
pub mod Plans
pub mod Lengths
pub mod MarkWords
pub mod Fits
pub mod WholeSheet
pub mod Example

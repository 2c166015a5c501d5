pub mod Keys
pub mod Records
pub mod Trees
pub mod Walks
pub mod Indices
pub mod Sifting

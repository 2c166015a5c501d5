pub mod Example
pub mod Least
pub mod Records
mod Rooms
mod Trees
mod Listing
mod Spots
mod Sifted
mod Turns

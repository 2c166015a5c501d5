pub mod Finding
pub mod Months
pub mod Listing

pub mod Promises
pub mod Example
pub mod RoundTrip
pub mod Planned
mod Written

pub mod Refusals
pub mod Found
pub mod Agreement
pub mod Passed
mod Deciding
mod Faults
mod LastNumbers
mod Keyed
mod RawLots
mod Judgements

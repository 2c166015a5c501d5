pub mod ContractValue
pub mod Conditions
pub mod Prices
pub mod Settling
pub mod OneMark
pub mod Resend
pub mod SettlingSteps
pub mod Groups

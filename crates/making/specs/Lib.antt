pub mod Conditions
pub mod Making
pub mod MakingSteps

pub mod Assignments
pub mod Determined
pub mod Refusals
pub mod Runs
pub mod State

pub mod Passing
pub mod Numbered
pub mod Summing

pub mod Chained
pub mod Ending
pub mod Joining
pub mod Numerals
pub mod Parting
pub mod Passing
pub mod Taken

pub mod Answers
pub mod Climb

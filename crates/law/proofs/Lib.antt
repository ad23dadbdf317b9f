pub mod Chains
pub mod MoreChains
pub mod Replay
pub mod Rounds
pub mod RunLaw
pub mod Steps
pub mod Turns

pub mod Letters
pub mod Mixture
pub mod Laws

pub mod Edf
pub mod Laws

pub mod Fixed
pub mod Laws

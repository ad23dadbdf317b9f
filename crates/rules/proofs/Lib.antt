pub mod Lists
pub mod Validity

pub mod Ranges
pub mod Busy
pub mod Jobs
pub mod Policy
pub mod PolicyLemmas
pub mod RangesLemmas

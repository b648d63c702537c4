pub mod Counts
pub mod Option

pub mod Laws
pub mod Differ
pub mod Waits

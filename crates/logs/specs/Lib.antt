pub mod Packed
pub mod Session
pub mod Laws

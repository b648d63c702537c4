pub mod Block
pub mod Limits
pub mod Lines
pub mod Streams
pub mod Laws

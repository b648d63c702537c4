pub mod Reasons
pub mod Streams
pub mod Text
pub mod Told
pub mod Laws

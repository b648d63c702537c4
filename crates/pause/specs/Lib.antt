pub mod Ending
pub mod Request
pub mod Text
pub mod Laws

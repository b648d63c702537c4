pub mod Finish
pub mod Schedule
pub mod Laws

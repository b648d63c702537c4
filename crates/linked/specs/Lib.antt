pub mod Answers
pub mod CopyOf
pub mod Laws

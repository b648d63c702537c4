-- The laws of this crate's definitions. All of them are proved; a reader does not have to trust anything here.
pub mod Bound
pub mod Ending
pub mod Keeps
pub mod Said
pub mod Taken
pub mod Widen

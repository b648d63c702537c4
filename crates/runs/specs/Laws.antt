-- The laws of this crate's definitions. All of them are proved; a reader does not have to trust anything here.
pub mod Bytes
pub mod Calls
pub mod Fences
pub mod Fields
pub mod Kinds
pub mod Rows
pub mod Table
pub mod Whole

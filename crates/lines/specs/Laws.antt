-- The laws of this crate's definitions. All of them are proved; a reader does not have to trust anything here.
pub mod AskedCode
pub mod Bytes
pub mod Fields
pub mod FieldsCode
pub mod Lines
pub mod Number
pub mod RowCode
pub mod Rows
pub mod WordsCode

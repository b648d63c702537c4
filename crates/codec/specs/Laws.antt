-- The laws of this crate's definitions. All of them are proved; a reader does not have to trust anything here.
pub mod Cell
pub mod Decide
pub mod Encode
pub mod Field
pub mod Front
pub mod Head
pub mod Kind
pub mod Limit
pub mod Reason
pub mod Roundtrip
pub mod Store
pub mod Strict
pub mod Within
pub mod Zeros

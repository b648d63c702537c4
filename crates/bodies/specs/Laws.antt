-- The laws of this crate's definitions. All of them are proved; a reader does not have to trust anything here.
pub mod Standing
pub mod WalkCode

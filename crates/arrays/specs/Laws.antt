-- The laws of this crate's definitions. All of them are proved; a reader does not have to trust anything here.
pub mod HalvesBack
pub mod HalvesCode
pub mod NoCase
pub mod PlacesBack
pub mod PlacesCode
pub mod Stores

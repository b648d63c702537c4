pub mod OpenOf
pub mod Laws

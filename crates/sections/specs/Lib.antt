pub mod PackOf
pub mod SectionOf
pub mod Laws

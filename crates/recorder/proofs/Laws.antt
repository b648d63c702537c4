-- Laws of the definitions of specs/. All of them are proved; a reader does not have to trust anything here.
pub mod Accepted
pub mod AccessCode
pub mod Full

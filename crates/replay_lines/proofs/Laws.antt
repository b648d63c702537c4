-- Laws of the definitions of specs/. All of them are proved; a reader does not have to trust anything here.
pub mod Block
pub mod BlockCode
pub mod Lines
pub mod LinesBound
pub mod Streams

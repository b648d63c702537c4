-- Laws of the definitions of specs/. All of them are proved; a reader does not have to trust anything here.
pub mod Differ
pub mod Waits
pub mod WaitsEach

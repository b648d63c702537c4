-- Laws of the definitions of specs/. All of them are proved; a reader does not have to trust anything here.
pub mod All
pub mod Dones
pub mod Each
pub mod FirstUnmet
pub mod Look
pub mod Moved
pub mod Next
pub mod Opens
pub mod Sound

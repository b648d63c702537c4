-- Laws of the definitions of specs/. All of them are proved; a reader does not have to trust anything here.
pub mod Answered
pub mod Reasons
pub mod ReasonsEach
pub mod Stopped
pub mod Text
pub mod TextBound
pub mod Told
pub mod ToldBound

-- Laws of the definitions of specs/. All of them are proved; a reader does not have to trust anything here.
pub mod AccessCount
pub mod Answers
pub mod Body
pub mod Bytes
pub mod Entry
pub mod EntryCase
pub mod EntryCode
pub mod EntryFits
pub mod Numbered
pub mod OrderingAt
pub mod Part
pub mod Reading
pub mod Records

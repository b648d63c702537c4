-- Definitions that the contracts of functions speak of, beside those of the paper's words.
pub mod Entry
pub mod EntryCase
pub mod EntryCode
pub mod OrderingAt
pub mod Reading
pub mod Records

-- The laws of this crate's definitions. All of them are proved; a reader does not have to trust anything here.
pub mod BothProved
pub mod ListedProved
pub mod Numbered
pub mod PausedProved
pub mod PlayableProved
pub mod Ran
pub mod Sized
pub mod WholeAnswer
pub mod WholeRecording
pub mod WholeText
pub mod WrongTold

pub mod Both
pub mod Listed
pub mod Paused
pub mod Playable
pub mod Wanted
pub mod WholeRecording
pub mod Wrong
pub mod Laws

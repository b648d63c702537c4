pub mod Listed
pub mod RecordingLines
pub mod Text
pub mod Laws

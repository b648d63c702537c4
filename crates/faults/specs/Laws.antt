-- The laws of this crate's definitions. All of them are proved; a reader does not have to trust anything here.
pub mod FaultTextCode
pub mod KindCode
pub mod ReadingCode
pub mod ShownCode
pub mod StopCode
pub mod Whole

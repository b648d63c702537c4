-- The laws of this crate's definitions. All of them are proved; a reader does not have to trust anything here.
pub mod AnswerCode
pub mod Front
pub mod MessageCode
pub mod NeededLine
pub mod OpenSized
pub mod OpenedAs
pub mod OpenedCode
pub mod RecordCode
pub mod RecordOf

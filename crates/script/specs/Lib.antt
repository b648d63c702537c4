pub mod AnswerOf
pub mod Message
pub mod RecordOf
pub mod Laws

pub mod RecordLines
pub mod Laws

pub mod Digest
pub mod ReplayOf
pub mod ScriptOf
pub mod Laws

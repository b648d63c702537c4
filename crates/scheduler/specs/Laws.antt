-- Definitions that the contracts of functions speak of, beside those of the paper's words.
pub mod Columns
pub mod ColumnsCode
pub mod Finish
pub mod Lowest
pub mod Schedule
pub mod ScheduleCode
pub mod Visit

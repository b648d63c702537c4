-- Laws of the definitions of specs/. All of them are proved; a reader does not have to trust anything here.
pub mod Columns
pub mod ColumnsCode
pub mod Finish
pub mod Lowest
pub mod Opened
pub mod Schedule
pub mod ScheduleCode
pub mod Settled
pub mod Visit

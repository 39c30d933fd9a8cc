pub mod Literals
pub mod Logs
pub mod LogsLaws
pub mod Marked

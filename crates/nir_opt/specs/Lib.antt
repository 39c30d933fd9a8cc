pub mod Answers
pub mod Asked
pub mod Texts
pub mod Heard
pub mod Ran
pub mod Printed
pub mod Checked
pub mod Program

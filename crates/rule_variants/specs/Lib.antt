pub mod BitLaws
pub mod SearchSideLaws
pub mod SearchSides
pub mod Sides
pub mod Varied
pub mod Worked

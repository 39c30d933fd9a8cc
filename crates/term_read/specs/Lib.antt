pub mod FoldLaws
pub mod Gives
pub mod Parts
pub mod ReadingLaws
pub mod Source
pub mod Standing
pub mod Views

pub mod NumbersLaws
pub mod ItemsLaws
pub mod PlacedLaws
pub mod DefiningLaws
pub mod KindsLaws
pub mod UsesLaws

pub mod BoolLaws
pub mod OptionLaws
pub mod AllLaws
pub mod MapLaws
pub mod PlaceLaws

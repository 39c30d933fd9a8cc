pub mod CallLemmas
pub mod DivideLemmas
pub mod FieldLemmas
pub mod HalfLemmas
pub mod ProductLemmas
pub mod ShiftLemmas
pub mod ViewLemmas
pub mod WordLemmas

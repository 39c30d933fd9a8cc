pub mod FormulaParts
pub mod Formulas

pub mod FormulaSteps
pub mod FormulaTexts

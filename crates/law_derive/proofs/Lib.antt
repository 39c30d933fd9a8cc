pub mod AskingLemmas
pub mod BindingLemmas
pub mod CalcLemmas
pub mod LetterLemmas
pub mod StepLemmas
pub mod TermLemmas
pub mod TermLists

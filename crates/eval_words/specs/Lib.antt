pub mod EvalWords

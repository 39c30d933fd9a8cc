pub mod Evidence
pub mod FileText
pub mod Growing
pub mod Items
pub mod Lists
pub mod RuleFile
pub mod Says

pub mod GrownItems
pub mod ItemKinds
pub mod ListLaws
pub mod Options
pub mod RuleParts
pub mod WholeFiles

-- What a derivation is checked at, as the definitions see it.
use Rattle.law_derive.specs.declared.setting.Setting as code
use Rattle.law_derive.specs.Derivations.{Setting}
use Rattle.law_derive.specs.ExprSizes.{KnowsSizes}

abbrev pub setting_says : code.Setting → Setting
setting_says setting = record { rule = setting.rule.now; widths = setting.typing.now.widths }

-- the sizes of the variables are known
abbrev pub IsKnown : code.Setting → Type 0
IsKnown setting = KnowsSizes (setting_says setting) setting.known

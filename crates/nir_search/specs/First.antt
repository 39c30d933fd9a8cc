-- The first rule of a table that matches at a value, and the first of its variants that does.
use Rattle.std.specs.Prelude.{ℕ, suc, Option, None, List, [], ◌∷◌, sum_by, if◌then◌else◌}
use Rattle.std.specs.List.{range_with_len}
use Rattle.std.specs.Option.{option_map, option_or}
use Rattle.nir_ir.specs.declared.ids.ValueId.{ValueId}
use Rattle.nir_ir.specs.Nodes.{Nodes}
use Rattle.rule_term.specs.declared.when.Options.{Options}
use Rattle.rule_term.specs.Options.{when_holds}
use Rattle.rule_term.specs.Rule.{Rule}
use Rattle.nir_search.specs.declared.hit.Hit.{Hit}
use Rattle.rule_term.specs.Variants.{variant_count}
use Rattle.nir_search.specs.Match.{match_of}

-- the first of those variants of the rule at this place of the table that matches
abbrev pub first_variant : Rule → ℕ → Nodes → ValueId → List ℕ → Option Hit
first_variant rule place body value [] = None
first_variant rule place body value (variant ∷ variants) =
    option_or
    (option_map (λ subst. record { rule = place; variant = variant; subst = subst }) (match_of rule variant body value))
    (first_variant rule place body value variants)

-- what one rule finds
abbrev pub hit_of : Options → Rule → ℕ → Nodes → ValueId → Option Hit
hit_of options rule place body value =
    if when_holds options rule.when then first_variant rule place body value (range_with_len 0 (variant_count rule)) else None

-- what rules find that stand from this place of the table on
abbrev pub first_from : Options → ℕ → List Rule → Nodes → ValueId → Option Hit
first_from options place [] body value = None
first_from options place (rule ∷ rules) body value = option_or (hit_of options rule place body value) (first_from options (suc place) rules body value)

-- what the table finds at the value
abbrev pub first_hit : Options → List Rule → Nodes → ValueId → Option Hit
first_hit options table body value = first_from options 0 table body value

-- how many variants the rules of a table have together
abbrev pub table_variants : List Rule → ℕ
table_variants table = sum_by variant_count table

-- What an opcode asks of its sources, one after another.
use Rattle.std.proofs.Common.{◌≡◌, ℕ, ◌+◌, ◌<◌, ◌≤◌, Option, List, [], ◌∷◌, ◌++◌, length, map, get_or, drop, ap, sym, ◌∙◌, arith}
use Rattle.std.proofs.lemmas.List.{drop_more, drop_all}
use Rattle.nir_ops.specs.declared.op.Op.{Op}
use Rattle.nir_ops.specs.declared.row.OpInput.{OpInput}
use Rattle.nir_ops.specs.declared.width.Width.{Width}
use Rattle.nir_ops.specs.Opcodes.{op_info, op_allows}
use Rattle.rule_term.specs.Typings.{has_size}
use Rattle.size_laws.specs.Places as place
use Rattle.size_laws.specs.NodeRules.{op_rules, source_rules, unsized_place}
use Rattle.rule_term.specs.ReplaceLeast.{set_of}
use Rattle.size_infer.specs.Meant.{meant, never}
use Rattle.size_infer.specs.declared.size_rule.SizeRule.{SizeRule}
use Rattle.size_infer.specs.declared.size_rule.SizeRule.TheVariants as code
use Rattle.rule_term.specs.declared.width_set.WidthSet.{WidthSet}
use Rattle.size_infer.proofs.SetLemmas.{only, pushed, twice}

abbrev pub size_in : OpInput → Option Width
size_in input = input.kind.size

none_left : (free : ℕ) (inputs : List OpInput) (source : ℕ) (sources : List ℕ) → inputs ≡ [] → source_rules size_in free inputs (source ∷ sources) ≡ never free
none_left free inputs source sources e = ap (λ l. source_rules size_in free l (source ∷ sources)) e

-- a source behind the last input
pub source_past : (free : ℕ) (inputs : List OpInput) (sources : List ℕ) (i : ℕ) → length inputs ≤ i → i < length sources
    → source_rules size_in free (drop i inputs) (drop i sources) ≡ never free
source_past free inputs sources i past within =
    ap (source_rules size_in free (drop i inputs)) (drop_more sources i 0 within)
    ∙ none_left free (drop i inputs) (get_or sources i 0) (drop (i + 1) sources) (drop_all i inputs past)

-- an input behind the last source
pub input_past : (free : ℕ) (inputs : List OpInput) (sources : List ℕ) (i : ℕ) → length sources ≤ i → i < length inputs
    → source_rules size_in free (drop i inputs) (drop i sources) ≡ never free
input_past free [] sources i past within = absurd (omega arith)
input_past free (input ∷ rest) sources i past within =
    ap (λ l. source_rules size_in free l (drop i sources)) (drop_more (input ∷ rest) i input within)
    ∙ ap (source_rules size_in free (get_or (input ∷ rest) i input ∷ drop (i + 1) (input ∷ rest))) (drop_all i sources past)

-- what is left is that there is none
pub never_left : {A : Type 0} (old new left none whole : List A) → new ≡ old ++ none → left ≡ none → old ++ left ≡ whole → new ≡ whole
never_left old new left none whole added is made = added ∙ ap (λ l. old ++ l) (sym is) ∙ made

pub op_added : (op : Op) (k : ℕ) (out : Option Width) (inputs : List OpInput) (sources : List ℕ) (free : ℕ) (allow size : WidthSet) (old first second third : List SizeRule)
    → out ≡ (op_info op).out.size → inputs ≡ (op_info op).inputs → free ≡ unsized_place out k sources
    → first ≡ old ++ code.Within free allow ∷ [] → allow ≡ set_of (op_allows op)
    → second ≡ first ++ code.Within k size ∷ [] → size ≡ set_of (has_size out)
    → map meant third ≡ map meant second ++ source_rules size_in free inputs sources
    → map meant third ≡ map meant old ++ op_rules op k sources
op_added op k out inputs sources free allow size old first second third is_out is_inputs is_free e1 is_allow e2 is_size e3 =
    let a = pushed old first (code.Within free allow) (place.Only free (op_allows op)) e1 (only free allow (op_allows op) is_allow) in
    let b = pushed first second (code.Within k size) (place.Only k (has_size out)) e2 (only k size (has_size out) is_size) in
    let ab = twice (map meant old) (map meant first) (map meant second) (place.Only free (op_allows op) ∷ []) (place.Only k (has_size out) ∷ []) a b in
    twice (map meant old) (map meant second) (map meant third) (place.Only free (op_allows op) ∷ place.Only k (has_size out) ∷ []) (source_rules size_in free inputs sources) ab e3
    ∙ ap (λ i. map meant old ++ (place.Only free (op_allows op) ∷ place.Only k (has_size out) ∷ source_rules size_in free i sources)) is_inputs
    ∙ ap (λ u. map meant old ++ (place.Only u (op_allows op) ∷ place.Only k (has_size out) ∷ source_rules size_in u (op_info op).inputs sources)) is_free
    ∙ ap (λ o. map meant old ++ (place.Only (unsized_place o k sources) (op_allows op) ∷ place.Only k (has_size o) ∷ source_rules size_in (unsized_place o k sources) (op_info op).inputs sources)) is_out

-- Where a rule matches at a number, the number is that of a value, and so the shader is not settled.
use Rattle.std.specs.Prelude.{◌≡◌, ◌+◌, ◌≤◌, ◌⊎◌, refl, ℕ, Bool, true, false, List, [], ◌∷◌, Option, Some, None, ◌||◌, ◌&&◌, is_none, is_some, nat_eq}
use Rattle.std.proofs.Common.{◌∙◌, ap, arith, inl, inr, subst, sym}
use Rattle.std.proofs.lemmas.Bool.{and_from, eqb-true, false≢true}
use Rattle.std.proofs.Math.Bool.{and-false}
use Rattle.std.specs.List.{list_all, list_any}
use Rattle.edit_laws.specs.ItemsLaws.{value_defined}
use Rattle.list_laws.specs.AllLaws.{passes_at}
use Rattle.nir_ir.specs.declared.ids.ValueId.{ValueId}
use Rattle.nir_ir.specs.Items.{values_defined}
use Rattle.nir_ir.specs.Shader.{Shader}
use Rattle.nir_ir.specs.Shaped.{IsOneOf, IsShaped}
use Rattle.rule_term.specs.declared.when.Options.{Options}
use Rattle.rule_term.specs.Descending.{descends, is_descending}
use Rattle.rule_term.specs.Rule.{Rule}
use Rattle.rule_term.specs.Table.{AllFormed, Table, op_weight}
use Rattle.nir_search.specs.declared.hit.Hit.{Hit}
use Rattle.nir_search.specs.First.{first_hit}
use Rattle.nir_search.specs.FirstLaws.{first_from_table}
use Rattle.nir_search.specs.Steps.{is_settled}
use Rattle.nir_search.specs.Weight.{weight_of}
use Rattle.rule_meaning.specs.HitLaws.{match_weighs}
use Rattle.rule_meaning.specs.Hits.{matched}
use Rattle.rule_meaning.specs.StepSame.{formed_at}

-- what fails for one of the numbers does not hold for all
one_fails : (f : ℕ → Bool) (n m : ℕ) (some all test : Bool) → nat_eq n m ≡ test → (test || some) ≡ true → f n ≡ false → (some ≡ true → all ≡ false) → (f m && all) ≡ false
one_fails f n m some all true is one fails behind = ap (λ b. b && all) (ap f (sym (eqb-true n m is)) ∙ fails)
one_fails f n m some all false is one fails behind = ap (λ b. f m && b) (behind one) ∙ and-false (f m)

not_all : (f : ℕ → Bool) (n : ℕ) (numbers : List ℕ) → list_any (nat_eq n) numbers ≡ true → f n ≡ false → list_all f numbers ≡ false
not_all f n [] one fails = absurd (false≢true one)
not_all f n (m ∷ numbers) one fails =
    one_fails f n m (list_any (nat_eq n) numbers) (list_all f numbers) (nat_eq n m) refl one fails (λ some. not_all f n numbers some fails)

pub unsettled : (options : Options) (table : List Rule) (s : Shader) → IsShaped s → AllFormed table → (n : ℕ) (hit : Hit)
    → first_hit options table s.body (record { 0 = n }) ≡ Some hit → is_settled options table s ≡ false
unsettled options table s shaped formed n hit found =
    let from = first_from_table options table s.body (record { 0 = n }) hit found in
    let there = matched s shaped from.rule (formed_at table from.distance from.rule formed from.at) hit.variant (record { 0 = n }) hit.subst from.matches_there in
    let defined = value_defined (record { 0 = n }) _ s.body there.root.instr.is in
    not_all (λ v. is_none (first_hit options table s.body (record { 0 = v }))) n (values_defined s.body) defined (ap is_none found)

-- the same, where something is found
pub unsettled_where : (options : Options) (table : List Rule) (s : Shader) → IsShaped s → AllFormed table → (n : ℕ)
    → is_some (first_hit options table s.body (record { 0 = n })) ≡ true → is_settled options table s ≡ false
unsettled_where options table s shaped formed n some = by_hit (first_hit options table s.body (record { 0 = n })) refl some where
  by_hit : (found : Option Hit) → first_hit options table s.body (record { 0 = n }) ≡ found → is_some found ≡ true → is_settled options table s ≡ false
  by_hit None is some = absurd (false≢true some)
  by_hit (Some hit) is some = unsettled options table s shaped formed n hit is

-- ---- where nothing is left that weighs

none_matches : (options : Options) (table : Table) (s : Shader) → IsShaped s → AllFormed table.rules → is_descending table ≡ true → weight_of (op_weight table) s ≡ 0 → (n : ℕ) (found : Option Hit)
    → first_hit options table.rules s.body (record { 0 = n }) ≡ found → is_none (first_hit options table.rules s.body (record { 0 = n })) ≡ true
none_matches options table s shaped formed down light n None is = ap is_none is
none_matches options table s shaped formed down light n (Some hit) is =
    let from = first_from_table options table.rules s.body (record { 0 = n }) hit is in
    let own = passes_at (descends (op_weight table)) table.rules from.distance from.rule down from.at in
    let weighs =
    match_weighs s shaped from.rule (formed_at table.rules from.distance from.rule formed from.at) hit.variant (record { 0 = n }) hit.subst from.matches_there (op_weight table) own in
    absurd (omega (arith, weighs, light))

none_of : (options : Options) (table : Table) (s : Shader) → IsShaped s → AllFormed table.rules → is_descending table ≡ true → weight_of (op_weight table) s ≡ 0 → (numbers : List ℕ)
    → list_all (λ v. is_none (first_hit options table.rules s.body (record { 0 = v }))) numbers ≡ true
none_of options table s shaped formed down light [] = refl
none_of options table s shaped formed down light (n ∷ numbers) =
    and_from _ _ (none_matches options table s shaped formed down light n (first_hit options table.rules s.body (record { 0 = n })) refl) (none_of options table s shaped formed down light numbers)

-- no rule of a table that descends matches
pub weightless_settled : (options : Options) (table : Table) (s : Shader) → IsShaped s → AllFormed table.rules → is_descending table ≡ true → weight_of (op_weight table) s ≡ 0
    → is_settled options table.rules s ≡ true
weightless_settled options table s shaped formed down light = none_of options table s shaped formed down light (values_defined s.body)

-- steps that each made the shader lighter have come to their end where the limit was its weight or more
pub settled_within : (options : Options) (table : Table) (s : Shader) → IsShaped s → AllFormed table.rules → is_descending table ≡ true → (before count limit : ℕ)
    → (is_settled options table.rules s ≡ true) ⊎ (count ≡ limit) → weight_of (op_weight table) s + count ≤ before → before ≤ limit → is_settled options table.rules s ≡ true
settled_within options table s shaped formed down before count limit either falls enough = elim either [
  | inl is ↦ is
  | inr same ↦ weightless_settled options table s shaped formed down (omega (arith, same, falls, enough))
]

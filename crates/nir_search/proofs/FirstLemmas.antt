-- What a walk along the search side of a rule says of a match.
use Rattle.std.specs.Prelude.{◌≡◌, refl, ◌+◌, ◌<◌, ◌-◌, ℕ, zero, suc, List, [], ◌∷◌, ◌++◌, Option, Some, None, Bool, true, false, length, replicate, slice_get, sum_by, if◌then◌else◌}
use Rattle.std.proofs.Common.{sym, ◌∙◌, ap, subst, drop, take, zero-add, arith}
use Rattle.std.proofs.lemmas.List.Sums.{sum_by-append}
use Rattle.std.proofs.lemmas.Option.{none-some, same_Some}
use Rattle.std.specs.List.{range_with_len}
use Rattle.std.specs.Option.{option_map, option_or}
use Rattle.nir_ir.specs.declared.ids.ValueId.{ValueId}
use Rattle.nir_ir.specs.Nodes.{Nodes}
use Rattle.rule_term.specs.Terms.{Terms}
use Rattle.rule_term.specs.Rule.{Rule}
use Rattle.nir_search.specs.declared.hit.Bind.{Bind}
use Rattle.rule_term.specs.Options.{when_holds}
use Rattle.rule_term.specs.Variants.{variant_count}
use Rattle.nir_search.specs.Match.{all_bound, is_typed, match_of, met, root_view}
use Rattle.rule_term.specs.declared.when.Options.{Options}
use Rattle.nir_search.specs.declared.hit.Hit.{Hit}
use Rattle.nir_search.specs.First.{first_variant, hit_of, first_from}
use Rattle.nir_search.specs.Walks.{NeverMatches, Walks}

-- what is found where a walk ended so, and the sizes are those of a typing or not
abbrev pub found_by : Bool → Option ℕ → List (Option Bind) → Option (List Bind)
found_by typed None bound = None
found_by typed (Some left) bound = if typed then Some (all_bound bound) else None

none_either : {A : Type 0} (b : Bool) → ◌≡◌ {A = Option A} (if b then None else None) None
none_either true = refl
none_either false = refl

-- the same walk from what is the same
pub walks_from : (body : Nodes) (terms others : Terms) (bits : ℕ) (view seen : Bind) (before bound after : List (Option Bind)) (result : Option ℕ)
    → terms ≡ others → view ≡ seen → before ≡ bound
    → Walks body terms bits (view ∷ []) before result after → Walks body others bits (seen ∷ []) bound result after
walks_from body terms others bits view seen before bound after result same_terms same_views same_bound walks =
    subst (λ t. Walks body t bits (seen ∷ []) bound result after) same_terms
    (subst (λ v. Walks body terms bits (v ∷ []) bound result after) same_views
    (subst (λ b. Walks body terms bits (view ∷ []) b result after) same_bound walks))

pub match_is : (rule : Rule) (variant : ℕ) (body : Nodes) (value : ValueId) (result : Option ℕ) (after : List (Option Bind))
    → Walks body rule.search variant (root_view body value ∷ []) (replicate rule.vars None) result after
    → found_by (is_typed rule (met body rule.search variant (root_view body value ∷ []))) result after ≡ match_of rule variant body value
unfolding match_of
match_is rule variant body value None after walks =
    let typed : Bool = is_typed rule (met body rule.search variant (root_view body value ∷ [])) in
    sym (ap (λ o. if typed then option_map all_bound o else None) walks ∙ none_either typed)
match_is rule variant body value (Some left) after walks =
    sym (ap (λ o. if is_typed rule (met body rule.search variant (root_view body value ∷ [])) then option_map all_bound o else None) walks.0)

-- a value of which no view matches the search side is none at which the rule is found
never_match : (rule : Rule) (variant : ℕ) (body : Nodes) (value : ValueId) → NeverMatches body rule.search value → match_of rule variant body value ≡ None
unfolding match_of
never_match rule variant body value never =
    let typed : Bool = is_typed rule (met body rule.search variant (root_view body value ∷ [])) in
    ap (λ o. if typed then option_map all_bound o else None) (never variant (root_view body value) (replicate rule.vars None) refl) ∙ none_either typed

never_first : (rule : Rule) (place : ℕ) (body : Nodes) (value : ValueId) → NeverMatches body rule.search value → (variants : List ℕ) → first_variant rule place body value variants ≡ None
never_first rule place body value never [] = refl
never_first rule place body value never (variant ∷ variants) =
    ap (λ o. option_or (option_map (λ binds. record { rule = place; variant = variant; subst = binds }) o) (first_variant rule place body value variants)) (never_match rule variant body value never)
    ∙ never_first rule place body value never variants

pub never_found : (options : Options) (rule : Rule) (place : ℕ) (body : Nodes) (value : ValueId) → NeverMatches body rule.search value → None ≡ hit_of options rule place body value
never_found options rule place body value never =
    sym (ap (λ (o : Option Hit). if when_holds options rule.when then o else None) (never_first rule place body value never (range_with_len 0 (variant_count rule)))
    ∙ none_either (when_holds options rule.when))

-- the item at a place, and what stands behind it
drop_cons : {A : Type 0} (list : List A) (i : ℕ) (a : A) → slice_get list i ≡ Some a → drop i list ≡ a ∷ drop (i + 1) list
drop_cons [] i a at = absurd (none-some a at)
drop_cons (first ∷ rest) zero a at = ap (λ x. x ∷ rest) (same_Some first a at)
drop_cons (first ∷ rest) (suc i) a at = drop_cons rest i a at ∙ ap (λ l. a ∷ l) (drop_suc i)
  where
    drop_suc : (i : ℕ) → drop (i + 1) rest ≡ drop (suc i + 1) (first ∷ rest)
    drop_suc i = ap (λ n. drop n (first ∷ rest)) {x = suc (i + 1)} {y = suc i + 1} (omega arith)

-- the variants from one on are it and those behind it
range_from : (i n : ℕ) → i < n → range_with_len i (n - i) ≡ i ∷ range_with_len (i + 1) (n - (i + 1))
range_from i n less = ap (range_with_len i) {x = n - i} {y = suc (n - (i + 1))} (omega (arith, less))

pub variant_found : (rule : Rule) (place : ℕ) (body : Nodes) (value : ValueId) (i n : ℕ) (subst : List Bind) → i < n → match_of rule i body value ≡ Some subst
    → first_variant rule place body value (range_with_len i (n - i)) ≡ Some (record { rule = place; variant = i; subst = subst })
variant_found rule place body value i n subst less found =
    ap (first_variant rule place body value) (range_from i n less)
    ∙ ap (λ o. option_or (option_map (λ s. record { rule = place; variant = i; subst = s }) o) (first_variant rule place body value (range_with_len (i + 1) (n - (i + 1))))) found

pub variant_passed : (rule : Rule) (place : ℕ) (body : Nodes) (value : ValueId) (i n : ℕ) → i < n → match_of rule i body value ≡ None
    → first_variant rule place body value (range_with_len (i + 1) (n - (i + 1))) ≡ first_variant rule place body value (range_with_len i (n - i))
variant_passed rule place body value i n less none =
    sym (ap (first_variant rule place body value) (range_from i n less)
    ∙ ap (λ o. option_or (option_map (λ s. record { rule = place; variant = i; subst = s }) o) (first_variant rule place body value (range_with_len (i + 1) (n - (i + 1))))) none)

pub rule_found : (options : Options) (table : List Rule) (place : ℕ) (body : Nodes) (value : ValueId) (rule : Rule) (hit : Hit) → slice_get table place ≡ Some rule → hit_of options rule place body value ≡ Some hit
    → first_from options place (drop place table) body value ≡ Some hit
rule_found options table place body value rule hit at found =
    ap (λ l. first_from options place l body value) (drop_cons table place rule at)
    ∙ ap (λ o. option_or o (first_from options (suc place) (drop (place + 1) table) body value)) found

pub rule_passed : (options : Options) (table : List Rule) (place : ℕ) (body : Nodes) (value : ValueId) (rule : Rule) → slice_get table place ≡ Some rule → hit_of options rule place body value ≡ None
    → first_from options (place + 1) (drop (place + 1) table) body value ≡ first_from options place (drop place table) body value
rule_passed options table place body value rule at none =
    sym (ap (λ l. first_from options place l body value) (drop_cons table place rule at)
    ∙ ap (λ o. option_or o (first_from options (suc place) (drop (place + 1) table) body value)) none
    ∙ ap (λ n. first_from options n (drop (place + 1) table) body value) {x = suc place} {y = place + 1} (omega arith))

-- below the length something stands
pub rule_there : (table : List Rule) (place : ℕ) → place < length table → (rule : Rule) × (slice_get table place ≡ Some rule)
rule_there [] place less = absurd (omega (arith, less))
rule_there (rule ∷ rest) zero less = (rule, refl)
rule_there (rule ∷ rest) (suc place) less = rule_there rest place (omega (arith, less))

-- what stands before the next place, and its sum
take_next : {A : Type 0} (list : List A) (place : ℕ) (a : A) → slice_get list place ≡ Some a → take (place + 1) list ≡ take place list ++ a ∷ []
take_next [] place a at = absurd (none-some a at)
take_next (first ∷ rest) zero a at = ap (λ x. x ∷ []) (same_Some first a at)
take_next (first ∷ rest) (suc place) a at =
    ap (λ n. take n (first ∷ rest)) {x = suc place + 1} {y = suc (place + 1)} (omega arith) ∙ ap (λ l. first ∷ l) (take_next rest place a at)

pub sum_next : {A : Type 0} (f : A → ℕ) (list : List A) (place : ℕ) (a : A) → slice_get list place ≡ Some a → sum_by f (take (place + 1) list) ≡ sum_by f (take place list) + f a
sum_next f list place a at =
    ap (sum_by f) (take_next list place a at) ∙ sum_by-append f (take place list) (a ∷ []) ∙ ap (λ n. sum_by f (take place list) + n) (zero-add (f a))

-- What a match says of each variable, from what it says of each occurrence: the typing gives a variable one size, and the replacement has variables of the search side alone.
use Rattle.std.specs.Prelude.{◌≡◌, refl, ◌<◌, ◌&&◌, ◌+◌, ℕ, suc, Bool, true, not, List, [], ◌∷◌, ◌++◌, nat_eq, length, drop}
use Rattle.std.proofs.Common.{sym, ◌∙◌, ap, subst, arith}
use Rattle.std.proofs.lemmas.Bool.{and_parts, eq-eqb}
use Rattle.std.proofs.lemmas.Grind.{flat_map-append}
use Rattle.std.specs.List.{AllByRecursion, list_all}
use Rattle.list_laws.specs.AllLaws.{all_append, all_back, all_each, all_front, passes_append}
use Rattle.nir_ops.specs.declared.width.Width.{Width}
use Rattle.op_eval.specs.Calls.{same_width}
use Rattle.op_eval.specs.Sizes.{same_width-same}
use Rattle.rule_term.specs.Formed.{numbered, replace_piece_formed}
use Rattle.rule_term.specs.Pieces.{LitPiece, VarPiece, pieces, var_of, vars_of}
use Rattle.rule_term.specs.Rule.{Rule}
use Rattle.rule_term.specs.Terms.{Terms, Nil, VarThen, LitThen, AppThen}
use Rattle.rule_term.specs.Typings.{Occurrence, agree, alike, first_of, is_typing, obeys, occurrences, replace_part, search_part, size_of}
use Rattle.nir_mean.specs.Points.{or_other}
use Rattle.rule_meaning.specs.Bound.{all_numbered}
use Rattle.rule_meaning.specs.BuiltLaws.{app_formed, var_formed}
use Rattle.rule_meaning.specs.Parts.{all_both}

-- what holds of the variable of each occurrence holds of each variable that stands in the terms
pub all_vars : (P : ℕ → Type 0) (terms : Terms) (sizes : List Width) → AllByRecursion (λ o. P o.var) (occurrences terms sizes) → AllByRecursion P (vars_of terms)
all_vars P Nil sizes all = tt
all_vars P (VarThen var constant size cond rest) sizes all = (all.0, all_vars P rest (drop 1 sizes) all.1)
all_vars P (LitThen number boolean rest) sizes all = all_vars P rest (drop 1 sizes) all
all_vars P (AppThen op size once args rest) sizes all =
    let first = occurrences args (drop 1 sizes) in
    let second = occurrences rest (drop (suc (size_of args)) sizes) in
    let one = all_vars P args (drop 1 sizes) (all_front (λ o. P o.var) first second all) in
    let two = all_vars P rest (drop (suc (size_of args)) sizes) (all_back (λ o. P o.var) first second all) in
    subst (AllByRecursion P) (sym (flat_map-append var_of (pieces args) (pieces rest))) (all_append P (vars_of args) (vars_of rest) one two)

-- and where they are numbered in order, of each of the rule's
pub each_var : (P : ℕ → Type 0) (vars : ℕ) (terms : Terms) (sizes : List Width) → numbered 0 vars (vars_of terms) ≡ true → AllByRecursion (λ o. P o.var) (occurrences terms sizes) → (var : ℕ) → var < vars → P var
each_var P vars terms sizes in_order all = all_numbered P 0 vars (vars_of terms) in_order (all_vars P terms sizes all) (λ var less. absurd (omega (arith, less)))

-- the variables of a formed replacement are the rule's
pub replace_vars : (vars : ℕ) (terms : Terms) (sizes : List Width) → list_all (replace_piece_formed vars) (pieces terms) ≡ true → AllByRecursion (λ o. o.var < vars) (occurrences terms sizes)
replace_vars vars Nil sizes formed = tt
replace_vars vars (VarThen var constant size cond rest) sizes formed =
    let parts = and_parts (replace_piece_formed vars (VarPiece var constant size cond)) (list_all (replace_piece_formed vars) (pieces rest)) formed in
    (var_formed vars var constant size cond parts.0, replace_vars vars rest (drop 1 sizes) parts.1)
replace_vars vars (LitThen number boolean rest) sizes formed =
    replace_vars vars rest (drop 1 sizes) (and_parts (replace_piece_formed vars (LitPiece number boolean)) (list_all (replace_piece_formed vars) (pieces rest)) formed).1
replace_vars vars (AppThen op size once args rest) sizes formed =
    let parts = app_formed vars op size once args rest formed in
    all_append (λ (o : Occurrence). o.var < vars) (occurrences args (drop 1 sizes)) (occurrences rest (drop (suc (size_of args)) sizes)) (replace_vars vars args (drop 1 sizes) parts.inner)
    (replace_vars vars rest (drop (suc (size_of args)) sizes) parts.behind)

-- ---- what a typing says

pub record TypingSays (rule : Rule) (typing : List Width) : Type 0 where
  pub replace : obeys rule.replace (replace_part rule typing) ≡ true
  pub root : first_of (search_part rule typing) ≡ first_of (replace_part rule typing)
  pub agree : agree (occurrences rule.search (search_part rule typing) ++ occurrences rule.replace (replace_part rule typing)) ≡ true

pub typing_says : (rule : Rule) (typing : List Width) → is_typing rule typing ≡ true → TypingSays rule typing
unfolding is_typing
typing_says rule typing h =
    let long = nat_eq (length typing) (size_of rule.search + size_of rule.replace) in
    let search = obeys rule.search (search_part rule typing) in
    let replace = obeys rule.replace (replace_part rule typing) in
    let root = same_width (first_of (search_part rule typing)) (first_of (replace_part rule typing)) in
    let all = agree (occurrences rule.search (search_part rule typing) ++ occurrences rule.replace (replace_part rule typing)) in
    let four = and_parts (long && search && replace && root) all h in
    let three = and_parts (long && search && replace) root four.0 in
    let two = and_parts (long && search) replace three.0 in
    record { replace = two.1; root = same_width-same (first_of (search_part rule typing)) (first_of (replace_part rule typing)) three.1; agree = four.1 }

-- two occurrences that are alike have one size where they are of one variable
alike_same : (a o : Occurrence) → alike a o ≡ true → a.var ≡ o.var → a.width ≡ o.width
alike_same a o h same = same_width-same a.width o.width (or_other (not (nat_eq a.var o.var)) (same_width a.width o.width) (ap not (eq-eqb a.var o.var same)) h)

-- a size that each occurrence on the search side has by its variable, each on the side of the replacement has too
module _ (vars : ℕ) (search : Terms) (sizes : List Width) (in_order : numbered 0 vars (vars_of search) ≡ true) (width_of : ℕ → Width)
    (sized : AllByRecursion (λ o. width_of o.var ≡ o.width) (occurrences search sizes)) where
  one_sized : (o : Occurrence) → o.var < vars → AllByRecursion (λ a. alike a o ≡ true) (occurrences search sizes) → width_of o.var ≡ o.width
  one_sized o less alikes =
      each_var (λ v. v ≡ o.var → width_of o.var ≡ o.width) vars search sizes in_order
      (all_both (λ a. alike a o ≡ true) (λ a. width_of a.var ≡ a.width) (λ a. a.var ≡ o.var → width_of o.var ≡ o.width) (occurrences search sizes)
      (λ a same own is. ap width_of (sym is) ∙ own ∙ alike_same a o same is) alikes sized)
      o.var less refl

  pub also_sized : (others : List Occurrence) → AllByRecursion (λ o. o.var < vars) others → AllByRecursion (λ a. list_all (alike a) others ≡ true) (occurrences search sizes) → AllByRecursion (λ o. width_of o.var ≡ o.width) others
  also_sized [] less all = tt
  also_sized (o ∷ others) less all = (
    one_sized o less.0 (all_each (λ a. list_all (alike a) (o ∷ others) ≡ true) (λ a. alike a o ≡ true) (λ a h. (and_parts (alike a o) (list_all (alike a) others) h).0) (occurrences search sizes) all),
    also_sized others less.1 (all_each (λ a. list_all (alike a) (o ∷ others) ≡ true) (λ a. list_all (alike a) others ≡ true) (λ a h. (and_parts (alike a o) (list_all (alike a) others) h).1) (occurrences search sizes) all),
  )

-- what passes a test passes it one by one
pub each_passes : {A : Type 0} (test : A → Bool) (list : List A) → list_all test list ≡ true → AllByRecursion (λ a. test a ≡ true) list
each_passes test [] all = tt
each_passes test (a ∷ list) all = let parts = and_parts (test a) (list_all test list) all in (parts.0, each_passes test list parts.1)

pub replace_sized : (rule : Rule) (typing : List Width) (width_of : ℕ → Width) → TypingSays rule typing → numbered 0 rule.vars (vars_of rule.search) ≡ true → list_all (replace_piece_formed rule.vars) (pieces rule.replace) ≡ true
    → AllByRecursion (λ o. width_of o.var ≡ o.width) (occurrences rule.search (search_part rule typing)) → AllByRecursion (λ o. width_of o.var ≡ o.width) (occurrences rule.replace (replace_part rule typing))
replace_sized rule typing width_of says in_order formed sized =
    let first = occurrences rule.search (search_part rule typing) in
    let second = occurrences rule.replace (replace_part rule typing) in
    let mine = (passes_append (λ a. list_all (alike a) (first ++ second)) first second says.agree).0 in
    also_sized rule.vars rule.search (search_part rule typing) in_order width_of sized second (replace_vars rule.vars rule.replace (replace_part rule typing) formed)
    (all_each (λ a. list_all (alike a) (first ++ second) ≡ true) (λ a. list_all (alike a) second ≡ true) (λ a h. (passes_append (alike a) first second h).1) first
    (each_passes (λ a. list_all (alike a) (first ++ second)) first mine))

-- What is so of each list among the typings of a rule is so of each list of sizes that is a typing, and the other way round.
use Rattle.std.specs.Prelude.{◌≡◌, refl, ◌+◌, ℕ, suc, Bool, true, false, cond, List, [], ◌∷◌, ◌++◌, length, map, filter}
use Rattle.std.proofs.Common.{sym, ◌∙◌, ap, subst}
use Rattle.std.specs.List.{AllByRecursion}
use Rattle.std.proofs.lemmas.Bool.{false≢true}
use Rattle.nir_ops.specs.declared.width.Width.{Width}
use Rattle.nir_ops.specs.declared.width.Width.TheVariants.{W1, W8, W16, W32, W64}
use Rattle.rule_term.specs.Rule.{Rule}
use Rattle.rule_term.specs.OneTyping.{begun}
use Rattle.rule_term.specs.Typed.{IsTyped-from_is_typing}
use Rattle.rule_term.specs.Typings.{is_typing, size_of, typings, width_lists}

-- of two lists, one after the other, each part
front : {A : Type 0} (P : A → Type 0) (xs ys : List A) → AllByRecursion P (xs ++ ys) → AllByRecursion P xs
front P [] ys all = tt
front P (x ∷ xs) ys all = (all.0, front P xs ys all.1)

back : {A : Type 0} (P : A → Type 0) (xs ys : List A) → AllByRecursion P (xs ++ ys) → AllByRecursion P ys
back P [] ys all = all
back P (x ∷ xs) ys all = back P xs ys all.1

behind_first : (P : List Width → Type 0) (width : Width) (lists : List (List Width)) → AllByRecursion P (begun width lists) → AllByRecursion (λ list. P (width ∷ list)) lists
behind_first P width [] all = tt
behind_first P width (list ∷ lists) all = (all.0, behind_first P width lists all.1)

-- a list of sizes is among all of its length
pub each_list : (P : List Width → Type 0) (widths : List Width) → AllByRecursion P (width_lists (length widths)) → P widths
unfolding width_lists
each_list P [] all = all.0
each_list P (W1 ∷ widths) all =
    let here = front P (begun W1 (width_lists (length widths))) _ all in
    each_list (λ list. P (W1 ∷ list)) widths (behind_first P W1 (width_lists (length widths)) here)
each_list P (W8 ∷ widths) all =
    let later = back P (begun W1 (width_lists (length widths))) _ all in
    let here = front P (begun W8 (width_lists (length widths))) _ later in
    each_list (λ list. P (W8 ∷ list)) widths (behind_first P W8 (width_lists (length widths)) here)
each_list P (W16 ∷ widths) all =
    let later = back P (begun W8 (width_lists (length widths))) _ (back P (begun W1 (width_lists (length widths))) _ all) in
    let here = front P (begun W16 (width_lists (length widths))) _ later in
    each_list (λ list. P (W16 ∷ list)) widths (behind_first P W16 (width_lists (length widths)) here)
each_list P (W32 ∷ widths) all =
    let later = back P (begun W16 (width_lists (length widths))) _ (back P (begun W8 (width_lists (length widths))) _ (back P (begun W1 (width_lists (length widths))) _ all)) in
    let here = front P (begun W32 (width_lists (length widths))) _ later in
    each_list (λ list. P (W32 ∷ list)) widths (behind_first P W32 (width_lists (length widths)) here)
each_list P (W64 ∷ widths) all =
    let later = back P (begun W16 (width_lists (length widths))) _ (back P (begun W8 (width_lists (length widths))) _ (back P (begun W1 (width_lists (length widths))) _ all)) in
    let here = front P (begun W64 (width_lists (length widths))) _ (back P (begun W32 (width_lists (length widths))) _ later) in
    each_list (λ list. P (W64 ∷ list)) widths (behind_first P W64 (width_lists (length widths)) here)

-- what is so of all that pass is so of each, where it passes
passing_head : {A : Type 0} (P : A → Type 0) (x : A) (kept : List A) (test : Bool) → AllByRecursion P (cond test (x ∷ kept) kept) → (test ≡ true → P x) × AllByRecursion P kept
passing_head P x kept true all = (λ _. all.0, all.1)
passing_head P x kept false all = (λ e. absurd (false≢true e), all)

each_passing : {A : Type 0} (p : A → Bool) (P : A → Type 0) (xs : List A) → AllByRecursion P (filter p xs) → AllByRecursion (λ x. p x ≡ true → P x) xs
each_passing p P [] all = tt
each_passing p P (x ∷ xs) all =
    let parts = passing_head P x (filter p xs) (p x) all in
    (parts.0, each_passing p P xs parts.1)

kept_head : {A : Type 0} (P : A → Type 0) (x : A) (kept : List A) (test : Bool) → (test ≡ true → P x) → AllByRecursion P kept → AllByRecursion P (cond test (x ∷ kept) kept)
kept_head P x kept true here all = (here refl, all)
kept_head P x kept false here all = all

all_passing : {A : Type 0} (p : A → Bool) (P : A → Type 0) → ((x : A) → p x ≡ true → P x) → (xs : List A) → AllByRecursion P (filter p xs)
all_passing p P each [] = tt
all_passing p P each (x ∷ xs) = kept_head P x (filter p xs) (p x) (each x) (all_passing p P each xs)

-- so it is of each typing
pub each_typing : (rule : Rule) (P : List Width → Type 0) → AllByRecursion P (typings rule) → (widths : List Width) → is_typing rule widths ≡ true → P widths
unfolding typings
each_typing rule P all widths typing =
    let count : length widths ≡ size_of rule.search + size_of rule.replace = (IsTyped-from_is_typing rule widths typing).count in
    each_list (λ list. is_typing rule list ≡ true → P list) widths
    (subst (λ n. AllByRecursion (λ list. is_typing rule list ≡ true → P list) (width_lists n)) (sym count)
    (each_passing (is_typing rule) P (width_lists (size_of rule.search + size_of rule.replace)) all))
    typing

pub all_typings : (rule : Rule) (P : List Width → Type 0) → ((widths : List Width) → is_typing rule widths ≡ true → P widths) → AllByRecursion P (typings rule)
unfolding typings
all_typings rule P each = all_passing (is_typing rule) P each (width_lists (size_of rule.search + size_of rule.replace))

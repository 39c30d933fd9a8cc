-- The words of a rule's variables: each has the bits of its first occurrence, and all its occurrences have as many.
use Rattle.op_eval.specs.Calls.{same_width}
use Rattle.std.specs.Prelude.{◌≡◌, refl, ◌^◌, ◌<◌, ◌≤◌, ℕ, zero, suc, Bool, true, false, not, ◌&&◌, ◌||◌, Option, Some, List, [], ◌∷◌, ◌++◌, map, length, nat_eq, nat_lt, cond}
use Rattle.std.specs.List.{find, list_all, list_any}
use Rattle.std.specs.Option.{option_map, unwrap_or}
use Rattle.std.specs.Cmp.Lexicographic.{pointwise}
use Rattle.std.proofs.Common.{sym, ◌∙◌, ap, subst, ⊎_elim, arith, get_or}
use Rattle.std.proofs.lemmas.Bool.{and_parts, and_from, ltb-true, lt-ltb, eqb-true, eq-eqb, cases_eq, cases_Bool, or_right, or_left}
use Rattle.std.proofs.lemmas.List.Sums.{AllPass-from_list_all, list_all-from_AllPass}
use Rattle.std.proofs.lemmas.List.Folds.{list_all-append}
use Rattle.std.proofs.lemmas.List.FromFn.{get_or-map-range_with_len, length-map-range_with_len}
use Rattle.nir_ops.specs.declared.width.Width.{Width}
use Rattle.nir_ops.specs.declared.width.Width.TheVariants.{W1}
use Rattle.nir_ops.specs.Width.{width_bits}
use Rattle.rule_term.specs.Pieces.{vars_of}
use Rattle.rule_term.specs.Splits.{vars_of-occurrences}
use Rattle.rule_term.specs.Rule.{Rule}
use Rattle.rule_term.specs.Formed.{IsFormed, numbered}
use Rattle.rule_term.specs.Typings.{Occurrence, occurrences, alike, agree, search_part, replace_part, is_typing}
use Rattle.rule_term.specs.Holds.{is_word, are_words}
use Rattle.circuit_laws.specs.Variables.{width_among, var_width, var_bits}

-- each value is a word of so many bits
abbrev pub are_within : List ℕ → List ℕ → Bool
are_within bits values = pointwise (λ b v. nat_lt v (2 ^ b)) bits values

pub within_at : (bits values : List ℕ) → are_within bits values ≡ true → (j : ℕ) → get_or values j 0 < 2 ^ get_or bits j 0
within_at [] [] h j = omega arith
within_at [] (v ∷ vs) h j = cc
within_at (b ∷ bs) [] h j = cc
within_at (b ∷ bs) (v ∷ vs) h zero = ltb-true v (2 ^ b) (and_parts (nat_lt v (2 ^ b)) (are_within bs vs) h).0
within_at (b ∷ bs) (v ∷ vs) h (suc j) = within_at bs vs (and_parts (nat_lt v (2 ^ b)) (are_within bs vs) h).1 j

pub within_from : (bits values : List ℕ) → length values ≡ length bits → ((j : ℕ) → j < length bits → get_or values j 0 < 2 ^ get_or bits j 0) → are_within bits values ≡ true
within_from [] [] e h = refl
within_from [] (v ∷ vs) e h = absurd (omega arith)
within_from (b ∷ bs) [] e h = absurd (omega arith)
within_from (b ∷ bs) (v ∷ vs) e h =
    and_from (nat_lt v (2 ^ b)) (are_within bs vs)
    (lt-ltb v (2 ^ b) (h 0 (omega arith)))
    (within_from bs vs (omega arith) (λ j l. h (suc j) (omega arith)))

abbrev pub var_at : Occurrence → ℕ
var_at o = o.var

-- where variables are numbered in order, each number below the last stands somewhere
pub numbered-stands : (next vars : ℕ) (list : List ℕ) → numbered next vars list ≡ true → (j : ℕ) → next ≤ j → j < vars → list_any (λ x. nat_eq x j) list ≡ true
numbered-stands next vars [] h j low high = absurd (omega (arith, eqb-true next vars h))
numbered-stands next vars (var ∷ rest) h j low high =
    ⊎_elim (λ e.
    or_right (nat_eq var j) (list_any (λ x. nat_eq x j) rest)
    (numbered-stands next vars rest (subst (λ b. cond b (numbered next vars rest) (nat_eq var next && numbered (suc next) vars rest) ≡ true) e h) j low high))
    (λ e.
    let parts = and_parts (nat_eq var next) (numbered (suc next) vars rest) (subst (λ b. cond b (numbered next vars rest) (nat_eq var next && numbered (suc next) vars rest) ≡ true) e h) in
    let here : var ≡ next = eqb-true var next parts.0 in
    ⊎_elim (λ same. or_left (nat_eq var j) (list_any (λ x. nat_eq x j) rest) (eq-eqb var j (here ∙ same)))
    (λ other.
    let above : suc next ≤ j = omega arith in
    or_right (nat_eq var j) (list_any (λ x. nat_eq x j) rest) (numbered-stands (suc next) vars rest parts.1 j above high))
    (cases_eq next j))
    (cases_Bool (nat_lt var next))

-- the first occurrence of a variable, or one behind it
pub among-case : (b : Bool) (o : Occurrence) (rest : Option Occurrence) → unwrap_or (option_map (λ x. x.width) (cond b (Some o) rest)) W1 ≡ cond b o.width (unwrap_or (option_map (λ x. x.width) rest) W1)
among-case true o rest = refl
among-case false o rest = refl

pub width_among-cons : (o : Occurrence) (rest : List Occurrence) (var : ℕ) → width_among (o ∷ rest) var ≡ cond (nat_eq o.var var) o.width (width_among rest var)
width_among-cons o rest var = among-case (nat_eq o.var var) o (find (λ x. nat_eq x.var var) rest)

-- a variable that occurs has a word of the size of its first occurrence
pub word_among : (values : List ℕ) (list : List Occurrence) (var : ℕ) → list_any (λ x. nat_eq x var) (map var_at list) ≡ true → list_all (is_word values) list ≡ true → get_or values var 0 < 2 ^ width_bits (width_among list var)
word_among values [] var stands words = cc
word_among values (o ∷ rest) var stands words =
    let parts = and_parts (is_word values o) (list_all (is_word values) rest) words in
    subst (λ w. get_or values var 0 < 2 ^ width_bits w) (sym (width_among-cons o rest var))
    (⊎_elim (λ e.
    let here : o.var ≡ var = eqb-true o.var var e in
    subst (λ b. get_or values var 0 < 2 ^ width_bits (cond b o.width (width_among rest var))) (sym e)
    (subst (λ v. get_or values v 0 < 2 ^ width_bits o.width) here (ltb-true (get_or values o.var 0) (2 ^ width_bits o.width) parts.0)))
    (λ e.
    subst (λ b. get_or values var 0 < 2 ^ width_bits (cond b o.width (width_among rest var))) (sym e)
    (word_among values rest var (subst (λ b. (b || list_any (λ x. nat_eq x var) (map var_at rest)) ≡ true) e stands) parts.1))
    (cases_Bool (nat_eq o.var var)))

-- the variable of an occurrence stands among the variables
pub stands_at : (list : List Occurrence) (i : ℕ) (d : Occurrence) → i < length list → list_any (λ x. nat_eq x (get_or list i d).var) (map var_at list) ≡ true
stands_at [] i d within = absurd (omega arith)
stands_at (o ∷ rest) zero d within = or_left (nat_eq o.var o.var) (list_any (λ x. nat_eq x o.var) (map var_at rest)) (eq-eqb o.var o.var refl)
stands_at (o ∷ rest) (suc i) d within = or_right (nat_eq o.var (get_or rest i d).var) (list_any (λ x. nat_eq x (get_or rest i d).var) (map var_at rest)) (stands_at rest i d (omega arith))

-- the first occurrence of the variable of an occurrence has the same size where all agree
pub width_alike : (list : List Occurrence) (o : Occurrence) → list_all (alike o) list ≡ true → list_any (λ x. nat_eq x o.var) (map var_at list) ≡ true → width_bits o.width ≡ width_bits (width_among list o.var)
width_alike [] o all stands = cc
width_alike (x ∷ rest) o all stands =
    let parts = and_parts (alike o x) (list_all (alike o) rest) all in
    (⊎_elim (λ e.
    let same : nat_eq o.var x.var ≡ true = eq-eqb o.var x.var (sym (eqb-true x.var o.var e)) in
    eqb-true (width_bits o.width) (width_bits x.width) (subst (λ b. (not b || same_width o.width x.width) ≡ true) same parts.0)
    ∙ ap (λ b. width_bits (cond b x.width (width_among rest o.var))) (sym e))
    (λ e.
    width_alike rest o parts.1 (subst (λ b. (b || list_any (λ y. nat_eq y o.var) (map var_at rest)) ≡ true) e stands)
    ∙ ap (λ b. width_bits (cond b x.width (width_among rest o.var))) (sym e))
    (cases_Bool (nat_eq x.var o.var)))
    ∙ ap width_bits (sym (width_among-cons x rest o.var))

pub bits_at : (rule : Rule) (widths : List Width) (j : ℕ) → j < rule.vars → get_or (var_bits rule widths) j 0 ≡ width_bits (var_width rule widths j)
bits_at rule widths j h = get_or-map-range_with_len (λ var. width_bits (var_width rule widths var)) 0 rule.vars j j 0 h (omega arith)

pub length-var_bits : (rule : Rule) (widths : List Width) → length (var_bits rule widths) ≡ rule.vars
length-var_bits rule widths = length-map-range_with_len (λ var. width_bits (var_width rule widths var)) 0 rule.vars

-- words of a formed rule are below the bits of their variables
pub within_from_words : (rule : Rule) → IsFormed rule → (widths : List Width) (values : List ℕ) → length values ≡ rule.vars → are_words rule widths values ≡ true → are_within (var_bits rule widths) values ≡ true
unfolding var_width
within_from_words rule formed widths values count words =
    within_from (var_bits rule widths) values (count ∙ sym (length-var_bits rule widths))
    (λ j below.
    let few : j < rule.vars = subst (λ n. j < n) (length-var_bits rule widths) below in
    let list : List Occurrence = occurrences rule.search (search_part rule widths) in
    let stands : list_any (λ x. nat_eq x j) (map var_at list) ≡ true =
    subst (λ l. list_any (λ x. nat_eq x j) l ≡ true) (sym (vars_of-occurrences rule.search (search_part rule widths))) (numbered-stands 0 rule.vars (vars_of rule.search) formed.numbered j (omega arith) few) in
    subst (λ n. get_or values j 0 < 2 ^ n) (sym (bits_at rule widths j few)) (word_among values list j stands words))

-- occurrences of a typing agree
pub typing_agrees : (rule : Rule) (widths : List Width) → is_typing rule widths ≡ true → agree (occurrences rule.search (search_part rule widths)) ≡ true
unfolding is_typing
typing_agrees rule widths typing =
    let search : List Occurrence = occurrences rule.search (search_part rule widths) in
    let replace : List Occurrence = occurrences rule.replace (replace_part rule widths) in
    let all : agree (search ++ replace) ≡ true = (and_parts _ (agree (search ++ replace)) typing).1 in
    let search_all : list_all (λ a. list_all (alike a) (search ++ replace)) search ≡ true =
    (and_parts _ _ (sym (list_all-append (λ a. list_all (alike a) (search ++ replace)) search replace) ∙ all)).0 in
    list_all-from_AllPass (λ a. list_all (alike a) search) search
    (λ k d within.
    (and_parts _ _ (sym (list_all-append (alike (get_or search k d)) search replace) ∙ AllPass-from_list_all (λ a. list_all (alike a) (search ++ replace)) search search_all k d within)).0)

-- A typing of a formed rule, and words for its variables, make both sides ready: each variable stands on the search side, and all its occurrences have one size.
use Rattle.op_eval.specs.Calls.{same_width}
use Rattle.std.proofs.Common.{◌≡◌, refl, ℕ, suc, ◌<◌, ◌≤◌, ◌^◌, Bool, true, false, not, ◌&&◌, ◌||◌, cond, List, [], ◌∷◌, ◌++◌, length, map, nat_eq, nat_lt, sym, ◌∙◌, subst, ⊎_elim, arith}
use Rattle.std.proofs.lemmas.Bool.{and_parts, and_from, or_left, or_right, or_cases, ltb-true, lt-ltb, eqb-true, eq-eqb, cases_order, false≢true}
use Rattle.std.proofs.lemmas.List.{length-drop, length-take}
use Rattle.std.proofs.lemmas.List.Folds.{list_all-append}
use Rattle.std.specs.List.{list_all, list_any, flat_map, slice_index_or}
use Rattle.nir_ops.specs.declared.width.Width.{Width}
use Rattle.nir_ops.specs.Width.{width_bits}
use Rattle.rule_term.specs.Splits.{vars_of-occurrences}
use Rattle.rule_term.specs.Pieces.{Piece, VarPiece, LitPiece, AppPiece, pieces, var_of, vars_of}
use Rattle.rule_term.specs.Rule.{Rule}
use Rattle.rule_term.specs.Formed.{IsFormed, search_piece_formed, replace_piece_formed, numbered}
use Rattle.rule_term.specs.Typings.{size_of, Occurrence, occurrences, alike, search_part, replace_part, is_typing}
use Rattle.rule_term.specs.Holds.{is_word, are_words}
use Rattle.rule_term.specs.Typed.{IsTyped-from_is_typing}
use Rattle.rule_term.specs.Ready.{IsReady, piece_ready}

-- variables that are numbered up to a number are below it
pub numbered_below : (next vars : ℕ) (list : List ℕ) → numbered next vars list ≡ true → (next ≤ vars) × (list_all (λ var. nat_lt var vars) list ≡ true)
numbered_below next vars [] h = let e = eqb-true next vars h in (omega arith, refl)
numbered_below next vars (var ∷ rest) h =
    let seen : (b : Bool) → nat_lt var next ≡ b → cond b (numbered next vars rest) (nat_eq var next && numbered (suc next) vars rest) ≡ true → (next ≤ vars) × (list_all (λ v. nat_lt v vars) (var ∷ rest) ≡ true)
    = λ b. elim b as (λ b. nat_lt var next ≡ b → cond b (numbered next vars rest) (nat_eq var next && numbered (suc next) vars rest) ≡ true → (next ≤ vars) × (list_all (λ v. nat_lt v vars) (var ∷ rest) ≡ true)) [
      | true ↦ λ e k.
          let more = numbered_below next vars rest k in
          let below = ltb-true var next e in
          let up = more.0 in
          let small : var < vars = omega arith in
          (up, and_from (nat_lt var vars) (list_all (λ v. nat_lt v vars) rest) (lt-ltb var vars small) more.1)
      | false ↦ λ e k.
          let parts = and_parts (nat_eq var next) (numbered (suc next) vars rest) k in
          let more = numbered_below (suc next) vars rest parts.1 in
          let same = eqb-true var next parts.0 in
          let up = more.0 in
          let small : var < vars = omega arith in
          (omega arith, and_from (nat_lt var vars) (list_all (λ v. nat_lt v vars) rest) (lt-ltb var vars small) more.1)
    ] in
    seen (nat_lt var next) refl h

-- and each number from the first on up to it stands among them
pub numbered_covers : (next vars : ℕ) (list : List ℕ) → numbered next vars list ≡ true → (k : ℕ) → next ≤ k → k < vars → list_any (nat_eq k) list ≡ true
numbered_covers next vars [] h k low high = let e = eqb-true next vars h in absurd (omega arith)
numbered_covers next vars (var ∷ rest) h k low high =
    let seen : (b : Bool) → nat_lt var next ≡ b → cond b (numbered next vars rest) (nat_eq var next && numbered (suc next) vars rest) ≡ true → list_any (nat_eq k) (var ∷ rest) ≡ true
    = λ b. elim b as (λ b. nat_lt var next ≡ b → cond b (numbered next vars rest) (nat_eq var next && numbered (suc next) vars rest) ≡ true → list_any (nat_eq k) (var ∷ rest) ≡ true) [
      | true ↦ λ e h'. or_right (nat_eq k var) (list_any (nat_eq k) rest) (numbered_covers next vars rest h' k low high)
      | false ↦ λ e h'.
          let parts = and_parts (nat_eq var next) (numbered (suc next) vars rest) h' in
          let same = eqb-true var next parts.0 in
          ⊎_elim
          (λ here. or_left (nat_eq k var) (list_any (nat_eq k) rest) (eq-eqb k var here))
          (λ other. or_right (nat_eq k var) (list_any (nat_eq k) rest)
          (numbered_covers (suc next) vars rest parts.1 k (let apart : next < k = ⊎_elim (λ below. absurd (omega arith)) (λ above. omega arith) other in omega arith) high))
          (cases_order k var)
    ] in
    seen (nat_lt var next) refl h

-- each node of a side is ready where its variables are below their number
search_piece : (vars : ℕ) (p : Piece) → search_piece_formed p ≡ true → list_all (λ var. nat_lt var vars) (var_of p) ≡ true → piece_ready vars p ≡ true
search_piece vars (VarPiece var constant size cond) h below = (and_parts (nat_lt var vars) true below).0
search_piece vars (LitPiece value boolean) h below = refl
search_piece vars (AppPiece op size once sources) h below = h

search_pieces : (vars : ℕ) (list : List Piece) → list_all search_piece_formed list ≡ true → list_all (λ var. nat_lt var vars) (flat_map var_of list) ≡ true → list_all (piece_ready vars) list ≡ true
search_pieces vars [] h below = refl
search_pieces vars (p ∷ rest) h below =
    let formed = and_parts (search_piece_formed p) (list_all search_piece_formed rest) h in
    let test = λ (var : ℕ). nat_lt var vars in
    let parts = and_parts (list_all test (var_of p)) (list_all test (flat_map var_of rest)) (sym (list_all-append test (var_of p) (flat_map var_of rest)) ∙ below) in
    and_from (piece_ready vars p) (list_all (piece_ready vars) rest) (search_piece vars p formed.0 parts.0) (search_pieces vars rest formed.1 parts.1)

replace_piece : (vars : ℕ) (p : Piece) → replace_piece_formed vars p ≡ true → (piece_ready vars p ≡ true) × (list_all (λ var. nat_lt var vars) (var_of p) ≡ true)
replace_piece vars (VarPiece var constant size cond) h =
    let below = (and_parts _ _ (and_parts _ _ (and_parts _ _ h).0).0).0 in
    (below, and_from (nat_lt var vars) true below refl)
replace_piece vars (LitPiece value boolean) h = (refl, refl)
replace_piece vars (AppPiece op size once sources) h = ((and_parts _ _ h).0, refl)

pub replace_pieces : (vars : ℕ) (list : List Piece) → list_all (replace_piece_formed vars) list ≡ true → (list_all (piece_ready vars) list ≡ true) × (list_all (λ var. nat_lt var vars) (flat_map var_of list) ≡ true)
replace_pieces vars [] h = (refl, refl)
replace_pieces vars (p ∷ rest) h =
    let formed = and_parts (replace_piece_formed vars p) (list_all (replace_piece_formed vars) rest) h in
    let here = replace_piece vars p formed.0 in
    let later = replace_pieces vars rest formed.1 in
    let test = λ (var : ℕ). nat_lt var vars in (
      and_from (piece_ready vars p) (list_all (piece_ready vars) rest) here.0 later.0,
      list_all-append test (var_of p) (flat_map var_of rest) ∙ and_from (list_all test (var_of p)) (list_all test (flat_map var_of rest)) here.1 later.1,
    )

-- an occurrence has a word where another of its variable has one
word_from : (values : List ℕ) (a o : Occurrence) → nat_eq o.var a.var ≡ true → alike a o ≡ true → is_word values a ≡ true → is_word values o ≡ true
word_from values a o same like word =
    let var = eqb-true o.var a.var same in
    let width : width_bits a.width ≡ width_bits o.width = eqb-true (width_bits a.width) (width_bits o.width) (subst (λ (b : Bool). (not b || same_width a.width o.width) ≡ true) (eq-eqb a.var o.var (sym var)) like) in
    subst (λ (v : ℕ). nat_lt (slice_index_or values v 0) (2 ^ width_bits o.width) ≡ true) (sym var)
    (subst (λ (w : ℕ). nat_lt (slice_index_or values a.var 0) (2 ^ w) ≡ true) width word)

word_among : (values : List ℕ) (list : List Occurrence) (o : Occurrence) → list_any (nat_eq o.var) (map (λ a. a.var) list) ≡ true → list_all (λ a. alike a o) list ≡ true → list_all (is_word values) list ≡ true → is_word values o ≡ true
word_among values [] o there like words = absurd (false≢true there)
word_among values (a ∷ list) o there like words =
    let alikes = and_parts (alike a o) (list_all (λ a. alike a o) list) like in
    let all = and_parts (is_word values a) (list_all (is_word values) list) words in
    ⊎_elim (λ here. word_from values a o here alikes.0 all.0) (λ later. word_among values list o later alikes.1 all.1) (or_cases (nat_eq o.var a.var) (list_any (nat_eq o.var) (map (λ a. a.var) list)) there)

-- likeness to a list is likeness to its first and to the rest
alike_first : (o : Occurrence) (rest list : List Occurrence) → list_all (λ a. list_all (alike a) (o ∷ rest)) list ≡ true → (list_all (λ a. alike a o) list ≡ true) × (list_all (λ a. list_all (alike a) rest) list ≡ true)
alike_first o rest [] h = (refl, refl)
alike_first o rest (a ∷ list) h =
    let parts = and_parts (list_all (alike a) (o ∷ rest)) (list_all (λ a. list_all (alike a) (o ∷ rest)) list) h in
    let here = and_parts (alike a o) (list_all (alike a) rest) parts.0 in
    let later = alike_first o rest list parts.1 in
    (and_from (alike a o) (list_all (λ a. alike a o) list) here.0 later.0, and_from (list_all (alike a) rest) (list_all (λ a. list_all (alike a) rest) list) here.1 later.1)

alike_last : (first second list : List Occurrence) → list_all (λ a. list_all (alike a) (first ++ second)) list ≡ true → list_all (λ a. list_all (alike a) second) list ≡ true
alike_last [] second list h = h
alike_last (o ∷ first) second list h = alike_last first second list (alike_first o (first ++ second) list h).1

words_among : (values vars : List ℕ) (list others : List Occurrence) → map (λ a. a.var) list ≡ vars → list_all (λ o. list_any (nat_eq o.var) vars) others ≡ true → list_all (λ a. list_all (alike a) others) list ≡ true → list_all (is_word values) list ≡ true → list_all (is_word values) others ≡ true
words_among values vars list [] are covered like words = refl
words_among values vars list (o ∷ others) are covered like words =
    let there = and_parts (list_any (nat_eq o.var) vars) (list_all (λ o. list_any (nat_eq o.var) vars) others) covered in
    let parts = alike_first o others list like in
    let here : list_any (nat_eq o.var) (map (λ a. a.var) list) ≡ true = subst (λ (vs : List ℕ). list_any (nat_eq o.var) vs ≡ true) (sym are) there.0 in
    and_from (is_word values o) (list_all (is_word values) others) (word_among values list o here parts.0 words) (words_among values vars list others are there.1 parts.1 words)

-- variables that are below the number stand among those that are numbered up to it
pub covered : (vars : ℕ) (list : List ℕ) → numbered 0 vars list ≡ true → (others : List Occurrence) → list_all (λ var. nat_lt var vars) (map (λ o. o.var) others) ≡ true → list_all (λ o. list_any (nat_eq o.var) list) others ≡ true
covered vars list h [] below = refl
covered vars list h (o ∷ others) below =
    let parts = and_parts (nat_lt o.var vars) (list_all (λ var. nat_lt var vars) (map (λ o. o.var) others)) below in
    and_from (list_any (nat_eq o.var) list) (list_all (λ o. list_any (nat_eq o.var) list) others)
    (numbered_covers 0 vars list h o.var (omega arith) (ltb-true o.var vars parts.0))
    (covered vars list h others parts.1)

pub search_ready : (rule : Rule) (widths : List Width) (values : List ℕ) → IsFormed rule → is_typing rule widths ≡ true → length values ≡ rule.vars → are_words rule widths values ≡ true → IsReady rule.search (search_part rule widths) values
search_ready rule widths values formed typing count words =
    let typed = IsTyped-from_is_typing rule widths typing in
    let whole = typed.count in
    let long = length-take (size_of rule.search) widths in
    let below = (numbered_below 0 rule.vars (vars_of rule.search) formed.numbered).1 in
    record {
      nodes = subst (λ (n : ℕ). list_all (piece_ready n) (pieces rule.search) ≡ true) (sym count) (search_pieces rule.vars (pieces rule.search) formed.search below);
      sizes = typed.search;
      enough = omega arith;
      words = words;
    }

pub replace_ready : (rule : Rule) (widths : List Width) (values : List ℕ) → IsFormed rule → is_typing rule widths ≡ true → length values ≡ rule.vars → are_words rule widths values ≡ true → IsReady rule.replace (replace_part rule widths) values
replace_ready rule widths values formed typing count words =
    let typed = IsTyped-from_is_typing rule widths typing in
    let whole = typed.count in
    let long = length-drop (size_of rule.search) widths in
    let ready = replace_pieces rule.vars (pieces rule.replace) formed.replace in
    let searched = occurrences rule.search (search_part rule widths) in
    let replaced = occurrences rule.replace (replace_part rule widths) in
    let likes = and_parts (list_all (λ a. list_all (alike a) (searched ++ replaced)) searched) (list_all (λ a. list_all (alike a) (searched ++ replaced)) replaced)
    (sym (list_all-append (λ a. list_all (alike a) (searched ++ replaced)) searched replaced) ∙ typed.agree) in
    let below : list_all (λ var. nat_lt var rule.vars) (map (λ o. o.var) replaced) ≡ true = subst (λ (vs : List ℕ). list_all (λ var. nat_lt var rule.vars) vs ≡ true) (sym (vars_of-occurrences rule.replace (replace_part rule widths))) ready.1 in
    record {
      nodes = subst (λ (n : ℕ). list_all (piece_ready n) (pieces rule.replace) ≡ true) (sym count) ready.0;
      sizes = typed.replace;
      enough = omega arith;
      words = words_among values (vars_of rule.search) searched replaced (vars_of-occurrences rule.search (search_part rule widths))
          (covered rule.vars (vars_of rule.search) formed.numbered replaced below)
          (alike_last searched replaced searched likes.0) words;
    }

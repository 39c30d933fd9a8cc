-- Where no assignment makes all clauses of a rule at a typing true, both sides have one value there, for all values that meet the conditions.
use Rattle.std.proofs.Common.{◌≡◌, ℕ, zero, suc, ◌<◌, List, [], ◌∷◌, ◌++◌, map, length, refl, sym, ◌∙◌, ap, subst, arith, Bool, true, ⊎_elim, nat_eq, nat_lt, None, lit<}
use Rattle.std.specs.List.{list_all, list_any}
use Rattle.std.proofs.lemmas.Bool.{and_parts, and_from, ltb-true, eqb-true, cases_eq, false≢true}
use Rattle.std.proofs.lemmas.List.Folds.{list_all-append}
use Rattle.nir_ops.specs.declared.width.Width.{Width}
use Rattle.nir_ops.specs.Width.{width_bits}
use Rattle.rule_term.specs.Rule.{Rule}
use Rattle.rule_term.specs.Formed.{IsFormed}
use Rattle.rule_term.specs.Terms.{Terms, Nil, VarThen, LitThen, AppThen}
use Rattle.rule_term.specs.Pieces.{ops_of, vars_of, pieces, terms_count}
use Rattle.rule_term.specs.Splits.{vars_of-occurrences}
use Rattle.rule_term.specs.Typed.{IsTyped-from_is_typing}
use Rattle.rule_term.specs.Typings.{first_of, roots, Occurrence, occurrences, alike, search_part, replace_part, is_typing}
use Rattle.rule_term.specs.Holds.{values_of, are_words, are_met, EqualAt}
use Rattle.rule_term.proofs.SideLemmas.{numbered_below, replace_pieces}
use Rattle.clause_check.specs.Logs.{IsUnsatisfiable, literal_true, clause_true}
use Rattle.circuit_laws.specs.Literals.{Lit, Is, IsNot, lit, word, some_of, all_of, number_of, numbers_of, all_numbers_of}
use Rattle.circuit_laws.specs.Gates.{Gate, AreMade, AreOrdered, clauses_of, run}
use Rattle.circuit_laws.specs.Blocks.{Block, behind}
use Rattle.circuit_laws.specs.Opcodes.{word_at}
use Rattle.circuit_laws.specs.Variables.{var_bits, var_width}
use Rattle.circuit_laws.specs.Computes.{AreSized, AllBelow, words_values}
use Rattle.circuit_laws.specs.RuleClauses.{first_without, Built, parts_gates, parts_clauses, rule_words, first_free, rule_parts, sides_from, search_circuit, replace_from, replace_circuit, difference, sides_gates, rule_lits, rule_clauses}
use Rattle.circuit_laws.specs.VariableLaws.{numbered-stands, width_alike, bits_at, within_from_words, typing_agrees, var_at}
use Rattle.circuit_laws.specs.GateLaws.{all_joined, full, made_parts, ordered_joined, run_keeps, run_made}
use Rattle.circuit_laws.specs.RowLaws.{none_differ}
use Rattle.circuit_laws.specs.BitLaws.{xor_block}
use Rattle.circuit_laws.specs.ConditionLaws.{some_true}
use Rattle.circuit_laws.specs.TermsLaws.{HaveCircuits, have_parts, none_without, AreFit, StandForAll, BuiltRight, all_later, word_below, terms_right, words_count}
use Rattle.circuit_laws.specs.PartLaws.{parts_ordered, parts_true}
use Rattle.circuit_laws.specs.AssignmentLaws.{setting_all, all_keeps, word_kept, words_below, words_long, setting_stands}

-- ---- clauses as a solver writes them

-- number 1 is variable 0
abbrev by_number : (ℕ → Bool) → ℕ → Bool
by_number α zero = true
by_number α (suc v) = α v

literal_same : (α : ℕ → Bool) (l : Lit) → literal_true (by_number α) (number_of l) ≡ lit α l
literal_same α (Is v) = refl
literal_same α (IsNot v) = refl

clause_same : (α : ℕ → Bool) (ls : List Lit) → clause_true (by_number α) (numbers_of ls) ≡ some_of α ls
clause_same α [] = refl
clause_same α (l ∷ ls) = rw (literal_same α l, clause_same α ls) refl

clauses_same : (α : ℕ → Bool) (cs : List (List Lit)) → list_all (clause_true (by_number α)) (all_numbers_of cs) ≡ all_of α cs
clauses_same α [] = refl
clauses_same α (c ∷ cs) = rw (clause_same α c, clauses_same α cs) refl

never_all : (cs : List (List Lit)) → IsUnsatisfiable (all_numbers_of cs) → (α : ℕ → Bool) → all_of α cs ≡ true → ⊥
never_all cs unsat α all = false≢true (sym (unsat (by_number α)) ∙ clauses_same α cs ∙ all)

-- ---- the words of the variables are as long as their occurrences

fit_from : (rule : Rule) (widths : List Width) → IsFormed rule → (os : List Occurrence) → list_all (λ o. list_all (alike o) (occurrences rule.search (search_part rule widths))) os ≡ true
    → list_all (λ var. nat_lt var rule.vars) (map var_at os) ≡ true → AreFit (rule_words rule widths) os
unfolding var_width
fit_from rule widths formed [] likes few = tt
fit_from rule widths formed (o ∷ os) likes few =
    let list : List Occurrence = occurrences rule.search (search_part rule widths) in
    let like = and_parts (list_all (alike o) list) (list_all (λ a. list_all (alike a) list) os) likes in
    let small = and_parts (nat_lt o.var rule.vars) (list_all (λ var. nat_lt var rule.vars) (map var_at os)) few in
    let below : o.var < rule.vars = ltb-true o.var rule.vars small.0 in
    let stands : list_any (λ x. nat_eq x o.var) (map var_at list) ≡ true =
    subst (λ l. list_any (λ x. nat_eq x o.var) l ≡ true) (sym (vars_of-occurrences rule.search (search_part rule widths)))
    (numbered-stands 0 rule.vars (vars_of rule.search) formed.numbered o.var (omega arith) below) in (
      words_long 1 (var_bits rule widths) o.var ∙ bits_at rule widths o.var below ∙ sym (width_alike list o like.0 stands),
      fit_from rule widths formed os like.1 small.1,
    )

search_fit : (rule : Rule) (widths : List Width) → IsFormed rule → is_typing rule widths ≡ true → AreFit (rule_words rule widths) (occurrences rule.search (search_part rule widths))
search_fit rule widths formed typing =
    fit_from rule widths formed (occurrences rule.search (search_part rule widths)) (typing_agrees rule widths typing)
    (subst (λ l. list_all (λ var. nat_lt var rule.vars) l ≡ true) (sym (vars_of-occurrences rule.search (search_part rule widths)))
    (numbered_below 0 rule.vars (vars_of rule.search) formed.numbered).1)

-- what is alike to a list is alike to its first part
alike_front : (a b os : List Occurrence) → list_all (λ o. list_all (alike o) (a ++ b)) os ≡ true → list_all (λ o. list_all (alike o) a) os ≡ true
alike_front a b [] h = refl
alike_front a b (o ∷ os) h =
    let parts = and_parts (list_all (alike o) (a ++ b)) (list_all (λ x. list_all (alike x) (a ++ b)) os) h in
    let own = and_parts (list_all (alike o) a) (list_all (alike o) b) (sym (list_all-append (alike o) a b) ∙ parts.0) in
    and_from (list_all (alike o) a) (list_all (λ x. list_all (alike x) a) os) own.0 (alike_front a b os parts.1)

replace_fit : (rule : Rule) (widths : List Width) → IsFormed rule → is_typing rule widths ≡ true → AreFit (rule_words rule widths) (occurrences rule.replace (replace_part rule widths))
replace_fit rule widths formed typing =
    let searched : List Occurrence = occurrences rule.search (search_part rule widths) in
    let replaced : List Occurrence = occurrences rule.replace (replace_part rule widths) in
    let test = λ (o : Occurrence). list_all (alike o) (searched ++ replaced) in
    let agreed = (IsTyped-from_is_typing rule widths typing).agree in
    let likes = and_parts (list_all test searched) (list_all test replaced) (sym (list_all-append test searched replaced) ∙ agreed) in
    fit_from rule widths formed replaced (alike_front searched replaced replaced likes.1)
    (subst (λ l. list_all (λ var. nat_lt var rule.vars) l ≡ true) (sym (vars_of-occurrences rule.replace (replace_part rule widths)))
    (replace_pieces rule.vars (pieces rule.replace) formed.replace).1)

-- ---- one term

-- of one term there is one word, of the size of its first node
one_sized : (terms : Terms) (widths : List Width) (words : List (List Lit)) → terms_count terms ≡ 1 → AreSized (roots terms widths) words → length (word_at words 0) ≡ width_bits (first_of widths)
one_sized Nil widths words e h = absurd (omega (arith, e))
one_sized (VarThen var constant size cond rest) widths [] e h = absurd h
one_sized (VarThen var constant size cond rest) widths (x ∷ xs) e h = h.0
one_sized (LitThen value boolean rest) widths [] e h = absurd h
one_sized (LitThen value boolean rest) widths (x ∷ xs) e h = h.0
one_sized (AppThen op size once args rest) widths [] e h = absurd h
one_sized (AppThen op size once args rest) widths (x ∷ xs) e h = h.0

one_value : (α : ℕ → Bool) (words : List (List Lit)) → length words ≡ 1 → words_values α words ≡ word α (word_at words 0) ∷ []
one_value α [] e = absurd (omega (arith, e))
one_value α (x ∷ []) e = refl
one_value α (x ∷ y ∷ rest) e = absurd (omega (arith, e))

not_zero : (m : ℕ) → (m ≡ 0 → ⊥) → 0 < m
not_zero zero h = absurd (h refl)
not_zero (suc m) h = omega arith

-- ---- the whole

module _ (rule : Rule) (widths : List Width) (formed : IsFormed rule) (typing : is_typing rule widths ≡ true) (circuits : HaveCircuits (ops_of rule.search ++ ops_of rule.replace)) where
  abbrev vars : List (List Lit)
  vars = rule_words rule widths

  abbrev free : ℕ
  free = first_free rule widths

  abbrev conds : List Gate
  conds = parts_gates (rule_parts rule widths)

  abbrev from : ℕ
  from = sides_from rule widths

  abbrev search : Built
  search = search_circuit rule widths

  abbrev middle : ℕ
  middle = replace_from rule widths

  abbrev replace : Built
  replace = replace_circuit rule widths

  abbrev apart : Block
  apart = difference rule widths

  vars_below : AllBelow free vars
  vars_below = words_below 1 (var_bits rule widths)

  free_some : 0 < free
  free_some = omega arith

  search_right : BuiltRight rule.search (search_part rule widths) vars from
  search_right =
      terms_right rule.search (search_part rule widths) vars from (omega (arith, free_some)) (all_later free from vars (omega arith) vars_below)
      (IsTyped-from_is_typing rule widths typing).search (have_parts (ops_of rule.search) (ops_of rule.replace) circuits).0 (search_fit rule widths formed typing)

  replace_right : BuiltRight rule.replace (replace_part rule widths) vars middle
  replace_right =
      terms_right rule.replace (replace_part rule widths) vars middle (omega (arith, free_some)) (all_later free middle vars (omega arith) vars_below)
      (IsTyped-from_is_typing rule widths typing).replace (have_parts (ops_of rule.search) (ops_of rule.replace) circuits).1 (replace_fit rule widths formed typing)

  search_count : length search.words ≡ 1
  search_count = words_count rule.search (search_part rule widths) vars from ∙ formed.one_search

  replace_count : length replace.words ≡ 1
  replace_count = words_count rule.replace (replace_part rule widths) vars middle ∙ formed.one_replace

  -- both sides end in words of one size
  ends_fit : length (word_at search.words 0) ≡ length (word_at replace.words 0)
  ends_fit =
      one_sized rule.search (search_part rule widths) search.words formed.one_search search_right.0.sized
      ∙ eqb-true (width_bits (first_of (search_part rule widths))) (width_bits (first_of (replace_part rule widths))) (IsTyped-from_is_typing rule widths typing).roots
      ∙ sym (one_sized rule.replace (replace_part rule widths) replace.words formed.one_replace replace_right.0.sized)

  apart_ordered : AreOrdered (behind middle replace.gates) apart.gates
  apart_ordered =
      (xor_block (behind middle replace.gates) (word_at search.words 0) (word_at replace.words 0) ends_fit
      (word_below (behind middle replace.gates) search.words 0 (all_later middle (behind middle replace.gates) search.words (omega arith) search_right.0.below))
      (word_below (behind middle replace.gates) replace.words 0 replace_right.0.below)).ordered

  abbrev sides : List Gate
  sides = sides_gates rule widths

  sides_ordered : AreOrdered from sides
  sides_ordered =
      ordered_joined from search.gates (replace.gates ++ apart.gates) search_right.0.ordered
      (ordered_joined middle replace.gates apart.gates replace_right.0.ordered apart_ordered)

  all_ordered : AreOrdered free (conds ++ sides)
  all_ordered = ordered_joined free conds sides (parts_ordered vars (occurrences rule.search (search_part rule widths)) free free_some vars_below) sides_ordered

  module _ (values : List ℕ) (count : length values ≡ rule.vars) (words : are_words rule widths values ≡ true) (met : are_met rule widths values ≡ true) where
    abbrev given : ℕ → Bool
    given = setting_all (λ v. true) 1 (var_bits rule widths) values

    -- the values of all variables
    abbrev all : ℕ → Bool
    all = run given free (conds ++ sides)

    all_made : AreMade all free (conds ++ sides)
    all_made = run_made given free (conds ++ sides) all_ordered

    zero_true : all 0 ≡ true
    zero_true = run_keeps given free (conds ++ sides) (Is 0) free_some ∙ all_keeps (λ v. true) 1 (var_bits rule widths) values (Is 0) (lit< tt)

    stand : StandForAll all vars values
    stand var =
        word_kept given all free (word_at vars var) (λ l h. run_keeps given free (conds ++ sides) l h) (word_below free vars var vars_below)
        ∙ setting_stands (λ v. true) 1 (var_bits rule widths) values (within_from_words rule formed widths values count words) var

    conds_made : AreMade all free conds
    conds_made = (made_parts all free conds sides all_made).0

    sides_made : AreMade all from sides
    sides_made = (made_parts all free conds sides all_made).1

    search_made : AreMade all from search.gates
    search_made = (made_parts all from search.gates (replace.gates ++ apart.gates) sides_made).0

    behind_made : AreMade all middle (replace.gates ++ apart.gates)
    behind_made = (made_parts all from search.gates (replace.gates ++ apart.gates) sides_made).1

    replace_made : AreMade all middle replace.gates
    replace_made = (made_parts all middle replace.gates apart.gates behind_made).0

    apart_made : AreMade all (behind middle replace.gates) apart.gates
    apart_made = (made_parts all middle replace.gates apart.gates behind_made).1

    search_value : word all (word_at search.words 0) ∷ [] ≡ values_of rule.search (search_part rule widths) values
    search_value = sym (one_value all search.words search_count) ∙ search_right.1 all values zero_true stand search_made

    replace_value : word all (word_at replace.words 0) ∷ [] ≡ values_of rule.replace (replace_part rule widths) values
    replace_value = sym (one_value all replace.words replace_count) ∙ replace_right.1 all values zero_true stand replace_made

    -- where the sides differ all clauses are true
    all_true : 0 < word all apart.word → all_of all (rule_lits rule widths) ≡ true
    all_true some =
        let conds_true : all_of all (parts_clauses free (rule_parts rule widths)) ≡ true =
        parts_true vars (occurrences rule.search (search_part rule widths)) free all values zero_true (search_fit rule widths formed typing) stand met conds_made in
        let sides_true : all_of all (clauses_of from sides) ≡ true = full all from sides sides_made in
        let end_true : all_of all (apart.word ∷ []) ≡ true = and_from (some_of all apart.word) true (some_true all apart.word some) refl in
        let rest : all_of all (parts_clauses free (rule_parts rule widths) ++ (clauses_of from sides ++ apart.word ∷ [])) ≡ true =
        all_joined all (parts_clauses free (rule_parts rule widths)) (clauses_of from sides ++ apart.word ∷ []) conds_true
        (all_joined all (clauses_of from sides) (apart.word ∷ []) sides_true end_true) in
        rw (zero_true, rest) refl

    equal_values : IsUnsatisfiable (rule_clauses rule widths) → values_of rule.search (search_part rule widths) values ≡ values_of rule.replace (replace_part rule widths) values
    unfolding rule_clauses
    equal_values unsat =
        ⊎_elim
        (λ z.
        sym search_value
        ∙ ap (λ v. v ∷ []) (none_differ all (word_at search.words 0) (word_at replace.words 0) (behind middle replace.gates) ends_fit apart_made z)
        ∙ replace_value)
        (λ other. absurd (never_all (rule_lits rule widths) unsat all (all_true (not_zero (word all apart.word) other))))
        (cases_eq (word all apart.word) 0)

pub clauses_show : (rule : Rule) (widths : List Width) → IsFormed rule → is_typing rule widths ≡ true → first_without rule ≡ None → IsUnsatisfiable (rule_clauses rule widths) → EqualAt rule widths
clauses_show rule widths formed typing none unsat values count words met =
    equal_values rule widths formed typing (none_without (ops_of rule.search ++ ops_of rule.replace) none) values count words met unsat

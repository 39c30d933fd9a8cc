-- The clauses that are made are those of the rule.
use Rattle.std.proofs.Common.{◌≡◌, ℕ, ◌+◌, List, [], ◌∷◌, ◌++◌, drop, sym, ◌∙◌, ap, le_refl, zero-add, append_assoc}
use Rattle.std.specs.Prelude.{sum}
use Rattle.std.proofs.lemmas.List.{map-append}
use Rattle.nir_ops.specs.declared.width.Width.{Width}
use Rattle.rule_term.specs.Rule.{Rule}
use Rattle.rule_term.specs.Typings.{size_of, occurrences, search_part, replace_part}
use Rattle.clause_check.specs.Logs.{Clause}
use Rattle.circuit_laws.specs.Literals.{Lit, yes, numbers_of, all_numbers_of}
use Rattle.circuit_laws.specs.Gates.{clauses_of}
use Rattle.circuit_laws.specs.Blocks.{Block, behind, xor_word}
use Rattle.circuit_laws.specs.Opcodes.{word_at}
use Rattle.circuit_laws.specs.Variables.{var_bits}
use Rattle.circuit_laws.specs.RuleClauses.{Part, Built, words_from, parts_of, parts_gates, parts_clauses, terms_circuit, rule_words, first_free, rule_parts, sides_from, search_circuit, replace_from, replace_circuit, difference, sides_gates, rule_clauses}
use Rattle.bit_circuit.specs.declared.circuit.Circuit.{Circuit}
use Rattle.bit_circuit.specs.Asking.{with_variables, with_parts}
use Rattle.bit_circuit.specs.Growth.{asked, grown}
use Rattle.bit_circuit.proofs.AskedLemmas.{grown-clauses, with_parts-next, with_parts-clauses}
use Rattle.bit_circuit.proofs.ConditionsLemmas.{parts_of-sizes}
use Rattle.bit_circuit.proofs.GrowthLemmas.{grown-append, grown-next}
use Rattle.bit_circuit.proofs.TermsLemmas.{circuit-take}

-- the clause that variable 0 is true
pub started : (k k1 : Circuit) (l : Lit) → k.clauses ≡ [] → k.next ≡ 1 → l ≡ yes → k1 ≡ asked k (l ∷ []) → (k1.clauses ≡ numbers_of (yes ∷ []) ∷ []) × (k1.next ≡ 1)
unfolding asked
started k k1 l none first is made = (
  ap (λ (x : Circuit). x.clauses) made ∙ ap (λ cs. cs ++ numbers_of (l ∷ []) ∷ []) none ∙ ap (λ x. numbers_of (x ∷ []) ∷ []) is,
  ap (λ (x : Circuit). x.next) made ∙ first,
)

-- one circuit after another, from that of no clauses on
pub record AreMade (rule : Rule) (widths : List Width) (bits : List ℕ) (vars : List (List Lit)) (k1 k2 k3 k4 k5 k6 : Circuit) (found put differ : List Lit) : Type 0 where
  pub bits_are : bits ≡ var_bits rule widths
  pub first_clauses : k1.clauses ≡ numbers_of (yes ∷ []) ∷ []
  pub first_next : k1.next ≡ 1
  pub vars_are : vars ≡ words_from k1.next bits
  pub with_vars : k2 ≡ with_variables k1 (sum bits)
  pub with_conds : k3 ≡ with_parts k2 (parts_of vars (occurrences rule.search []) k2.next)
  pub found_is : found ∷ [] ≡ (terms_circuit rule.search (drop 0 widths) vars k3.next).words
  pub with_search : k4 ≡ grown k3 (terms_circuit rule.search (drop 0 widths) vars k3.next).gates
  pub put_is : put ∷ [] ≡ (terms_circuit rule.replace (drop (0 + size_of rule.search) widths) vars k4.next).words
  pub with_replace : k5 ≡ grown k4 (terms_circuit rule.replace (drop (0 + size_of rule.search) widths) vars k4.next).gates
  pub differ_is : differ ≡ (xor_word found put k5.next).word
  pub with_differ : k6 ≡ grown k5 (xor_word found put k5.next).gates

module _ (rule : Rule) (widths : List Width) (bits : List ℕ) (vars : List (List Lit)) (k1 k2 k3 k4 k5 k6 : Circuit) (found put differ : List Lit) (h : AreMade rule widths bits vars k1 k2 k3 k4 k5 k6 found put differ) where
  abbrev words : List (List Lit)
  words = rule_words rule widths

  abbrev parts : List Part
  parts = rule_parts rule widths

  abbrev free : ℕ
  free = first_free rule widths

  abbrev search : Built
  search = search_circuit rule widths

  abbrev replace : Built
  replace = replace_circuit rule widths

  abbrev apart : Block
  apart = difference rule widths

  words_are : vars ≡ words
  words_are = h.vars_are ∙ ap (λ n. words_from n bits) h.first_next ∙ ap (words_from 1) h.bits_are

  next2 : k2.next ≡ free
  next2 = ap (λ (k : Circuit). k.next) h.with_vars ∙ ap (λ n. n + sum bits) h.first_next ∙ ap (λ l. 1 + sum l) h.bits_are

  conds : k3 ≡ with_parts k2 parts
  conds =
      h.with_conds
      ∙ ap (λ v. with_parts k2 (parts_of v (occurrences rule.search []) k2.next)) words_are
      ∙ ap (λ n. with_parts k2 (parts_of words (occurrences rule.search []) n)) next2
      ∙ ap (with_parts k2) (parts_of-sizes rule.search [] (search_part rule widths) words free)

  next3 : k3.next ≡ sides_from rule widths
  next3 = ap (λ (k : Circuit). k.next) conds ∙ with_parts-next k2 parts ∙ ap (λ n. behind n (parts_gates parts)) next2

  search_is : terms_circuit rule.search (drop 0 widths) vars k3.next ≡ search
  search_is =
      ap (λ v. terms_circuit rule.search widths v k3.next) words_are
      ∙ ap (terms_circuit rule.search widths words) next3
      ∙ sym (circuit-take rule.search (size_of rule.search) widths words (sides_from rule widths) (le_refl (size_of rule.search)))

  grown4 : k4 ≡ grown k3 search.gates
  grown4 = h.with_search ∙ ap (λ (b : Built). grown k3 b.gates) search_is

  next4 : k4.next ≡ replace_from rule widths
  next4 = ap (λ (k : Circuit). k.next) grown4 ∙ grown-next k3 search.gates ∙ ap (λ n. behind n search.gates) next3

  replace_is : terms_circuit rule.replace (drop (0 + size_of rule.search) widths) vars k4.next ≡ replace
  replace_is =
      ap (λ n. terms_circuit rule.replace (drop n widths) vars k4.next) (zero-add (size_of rule.search))
      ∙ ap (λ v. terms_circuit rule.replace (replace_part rule widths) v k4.next) words_are
      ∙ ap (terms_circuit rule.replace (replace_part rule widths) words) next4

  grown5 : k5 ≡ grown k4 replace.gates
  grown5 = h.with_replace ∙ ap (λ (b : Built). grown k4 b.gates) replace_is

  next5 : k5.next ≡ behind (replace_from rule widths) replace.gates
  next5 = ap (λ (k : Circuit). k.next) grown5 ∙ grown-next k4 replace.gates ∙ ap (λ n. behind n replace.gates) next4

  found_word : found ≡ word_at search.words 0
  found_word = ap (λ l. word_at l 0) (h.found_is ∙ ap (λ (b : Built). b.words) search_is)

  put_word : put ≡ word_at replace.words 0
  put_word = ap (λ l. word_at l 0) (h.put_is ∙ ap (λ (b : Built). b.words) replace_is)

  apart_is : xor_word found put k5.next ≡ apart
  apart_is =
      ap (λ x. xor_word x put k5.next) found_word ∙ ap (λ y. xor_word (word_at search.words 0) y k5.next) put_word
      ∙ ap (xor_word (word_at search.words 0) (word_at replace.words 0)) next5

  grown6 : k6 ≡ grown k3 (sides_gates rule widths)
  grown6 =
      h.with_differ ∙ ap (λ (b : Block). grown k5 b.gates) apart_is
      ∙ ap (λ k. grown k apart.gates) grown5
      ∙ ap (λ k. grown (grown k replace.gates) apart.gates) grown4
      ∙ grown-append (grown k3 search.gates) replace.gates apart.gates
      ∙ grown-append k3 search.gates (replace.gates ++ apart.gates)

  -- clauses of the conditions, and of the sides
  abbrev asked_first : List Clause
  asked_first = all_numbers_of (parts_clauses free parts)

  abbrev asked_then : List Clause
  asked_then = all_numbers_of (clauses_of (sides_from rule widths) (sides_gates rule widths))

  clauses3 : k3.clauses ≡ numbers_of (yes ∷ []) ∷ asked_first
  clauses3 =
      ap (λ (k : Circuit). k.clauses) conds ∙ with_parts-clauses k2 parts
      ∙ ap (λ n. k2.clauses ++ all_numbers_of (parts_clauses n parts)) next2
      ∙ ap (λ l. l ++ asked_first) (ap (λ (k : Circuit). k.clauses) h.with_vars ∙ h.first_clauses)

  clauses6 : k6.clauses ≡ numbers_of (yes ∷ []) ∷ asked_first ++ asked_then
  clauses6 =
      ap (λ (k : Circuit). k.clauses) grown6 ∙ grown-clauses k3 (sides_gates rule widths)
      ∙ ap (λ n. k3.clauses ++ all_numbers_of (clauses_of n (sides_gates rule widths))) next3
      ∙ ap (λ l. l ++ asked_then) clauses3

  pub made_clauses : (asked k6 differ).clauses ≡ rule_clauses rule widths
  unfolding asked rule_clauses
  made_clauses =
      ap (λ l. l ++ numbers_of differ ∷ []) clauses6
      ∙ ap (λ d. (numbers_of (yes ∷ []) ∷ asked_first ++ asked_then) ++ numbers_of d ∷ []) (h.differ_is ∙ ap (λ (b : Block). b.word) apart_is)
      ∙ ap (λ l. numbers_of (yes ∷ []) ∷ l) (append_assoc asked_first asked_then (numbers_of apart.word ∷ []))
      ∙ sym (ap (λ l. numbers_of (yes ∷ []) ∷ l)
      (map-append numbers_of (parts_clauses free parts) (clauses_of (sides_from rule widths) (sides_gates rule widths) ++ apart.word ∷ [])
      ∙ ap (λ l. asked_first ++ l) (map-append numbers_of (clauses_of (sides_from rule widths) (sides_gates rule widths)) (apart.word ∷ []))))

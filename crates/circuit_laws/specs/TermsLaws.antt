-- The gates of terms make words that stand for the values of the terms.
use Rattle.std.proofs.Common.{◌≡◌, ℕ, zero, suc, ◌<◌, ◌≤◌, ◌^◌, List, [], ◌∷◌, ◌++◌, length, drop, refl, sym, ◌∙◌, ap, subst, arith, Bool, true, false, not, mod-eq_of_lt, Option, Some, None}
use Rattle.std.specs.Prelude.{◌&&◌, find, cond}
use Rattle.std.specs.List.{slice_index_or}
use Rattle.std.proofs.lemmas.Bool.{and_parts}
use Rattle.std.proofs.lemmas.Grind.{flat_map-append}
use Rattle.nir_ops.specs.declared.op.Op.{Op}
use Rattle.nir_ops.specs.declared.width.Width.{Width}
use Rattle.nir_ops.specs.Width.{width_bits}
use Rattle.op_eval.specs.Calls.{sizes_fit, unsized_width}
use Rattle.op_eval.specs.Word.{residue}
use Rattle.op_eval.proofs.WordLemmas.{residue_lt}
use Rattle.rule_term.specs.Terms.{Terms, Nil, VarThen, LitThen, AppThen}
use Rattle.rule_term.specs.Pieces.{ops_of, op_of, pieces, terms_count}
use Rattle.rule_term.specs.Typings.{size_of, first_of, roots, has_size, literal_fits, obeys, Occurrence, occurrences}
use Rattle.rule_term.specs.Holds.{values_of}
use Rattle.circuit_laws.specs.Literals.{Lit, word, constant}
use Rattle.circuit_laws.specs.Gates.{Gate, AreMade, AreBelow, AreOrdered}
use Rattle.circuit_laws.specs.Blocks.{Block, behind}
use Rattle.circuit_laws.specs.Opcodes.{has_circuit, word_at, op_circuit}
use Rattle.circuit_laws.specs.Computes.{AreSized, AllBelow, Computes, words_values}
use Rattle.circuit_laws.specs.RuleClauses.{Built, terms_circuit}
use Rattle.circuit_laws.specs.WordLaws.{constant_is, constant_length, below_constant, below_later}
use Rattle.circuit_laws.specs.GateLaws.{made_parts, ordered_joined}
use Rattle.circuit_laws.specs.SequenceLaws.{behind_both}
use Rattle.circuit_laws.specs.OpcodeLaws.{op_computes}

-- ---- what is asked of terms

-- each opcode has a circuit
abbrev pub HaveCircuits : List Op → Type 0
HaveCircuits [] = Unit {0}
HaveCircuits (op ∷ ops) = (has_circuit op ≡ true) × HaveCircuits ops

pub have_parts : (a b : List Op) → HaveCircuits (a ++ b) → HaveCircuits a × HaveCircuits b
have_parts [] b h = (tt, h)
have_parts (op ∷ ops) b h = let rest = have_parts ops b h.1 in ((h.0, rest.0), rest.1)

-- the word of the variable of each occurrence is as long as the occurrence
abbrev pub AreFit : List (List Lit) → List Occurrence → Type 0
AreFit vars [] = Unit {0}
AreFit vars (o ∷ os) = (length (word_at vars o.var) ≡ width_bits o.width) × AreFit vars os

pub fit_parts : (vars : List (List Lit)) (a b : List Occurrence) → AreFit vars (a ++ b) → AreFit vars a × AreFit vars b
fit_parts vars [] b h = (tt, h)
fit_parts vars (o ∷ os) b h = let rest = fit_parts vars os b h.1 in ((h.0, rest.0), rest.1)

-- the words of the variables stand for these values
abbrev pub StandForAll : (ℕ → Bool) → List (List Lit) → List ℕ → Type 0
StandForAll α vars values = (var : ℕ) → word α (word_at vars var) ≡ slice_index_or values var 0

-- ---- words below a variable

pub all_later : (n m : ℕ) (words : List (List Lit)) → n ≤ m → AllBelow n words → AllBelow m words
all_later n m [] le h = tt
all_later n m (x ∷ xs) le h = (below_later n m x le h.0, all_later n m xs le h.1)

pub word_below : (n : ℕ) (words : List (List Lit)) (k : ℕ) → AllBelow n words → AreBelow n (word_at words k)
word_below n [] k h = tt
word_below n (x ∷ xs) zero h = h.0
word_below n (x ∷ xs) (suc k) h = word_below n xs k h.1

-- ---- terms

-- the gates stand in order, and the words are as long as the terms
pub record AreBuilt (n : ℕ) (widths : List Width) (built : Built) : Type 0 where
  pub sized : AreSized widths built.words
  pub ordered : AreOrdered n built.gates
  pub below : AllBelow (behind n built.gates) built.words

abbrev pub BuiltRight : Terms → List Width → List (List Lit) → ℕ → Type 0
BuiltRight terms widths vars n =
    AreBuilt n (roots terms widths) (terms_circuit terms widths vars n)
    × ((α : ℕ → Bool) (values : List ℕ) → α 0 ≡ true → StandForAll α vars values → AreMade α n (terms_circuit terms widths vars n).gates
    → words_values α (terms_circuit terms widths vars n).words ≡ values_of terms widths values)

literal_is : (α : ℕ → Bool) (w n : ℕ) → α 0 ≡ true → n < 2 ^ w → word α (constant w n) ≡ n
literal_is α w n t small = constant_is α w n t ∙ mod-eq_of_lt small

ops_app : (op : Op) (args rest : Terms) → HaveCircuits (op ∷ (ops_of args ++ ops_of rest)) → HaveCircuits (ops_of args) × HaveCircuits (ops_of rest)
ops_app op args rest h = have_parts (ops_of args) (ops_of rest) h.1

pub terms_right : (terms : Terms) (widths : List Width) (vars : List (List Lit)) (n : ℕ) → 0 < n → AllBelow n vars → obeys terms widths ≡ true → HaveCircuits (ops_of terms)
    → AreFit vars (occurrences terms widths) → BuiltRight terms widths vars n
terms_right Nil widths vars n p below fit have sized = (record { sized = tt; ordered = tt; below = tt }, λ α values t stand made. refl)
terms_right (VarThen var constant size cond rest) widths vars n p below fit have sized =
    let more = terms_right rest (drop 1 widths) vars n p below (and_parts (has_size size (first_of widths)) (obeys rest (drop 1 widths)) fit).1 have sized.1 in
    let gates : List Gate = (terms_circuit rest (drop 1 widths) vars n).gates in (
      record {
        sized = (sized.0, more.0.sized);
        ordered = more.0.ordered;
        below = (below_later n (behind n gates) (word_at vars var) (omega arith) (word_below n vars var below), more.0.below);
      },
      λ α values t stand made. rw (stand var, more.1 α values t stand made) refl,
    )
terms_right (LitThen value boolean rest) widths vars n p below fit have sized =
    let w : ℕ = width_bits (first_of widths) in
    let more = terms_right rest (drop 1 widths) vars n p below (and_parts (literal_fits value boolean (first_of widths)) (obeys rest (drop 1 widths)) fit).1 have sized in
    let gates : List Gate = (terms_circuit rest (drop 1 widths) vars n).gates in (
      record {
        sized = (constant_length w (residue w value), more.0.sized);
        ordered = more.0.ordered;
        below = (below_constant (behind n gates) w (residue w value) (omega (arith, p)), more.0.below);
      },
      λ α values t stand made. rw (literal_is α w (residue w value) t (residue_lt w value), more.1 α values t stand made) refl,
    )
terms_right (AppThen op size once args rest) widths vars n p below fit have sized =
    let dst : Width = first_of widths in
    let inner : List Width = drop 1 widths in
    let outer : List Width = drop (suc (size_of args)) widths in
    let all = and_parts (has_size size dst && sizes_fit op dst (roots args inner) && obeys args inner) (obeys rest outer) fit in
    let here = and_parts (has_size size dst && sizes_fit op dst (roots args inner)) (obeys args inner) all.0 in
    let fits = and_parts (has_size size dst) (sizes_fit op dst (roots args inner)) here.0 in
    let split : ops_of (AppThen op size once args rest) ≡ op ∷ (ops_of args ++ ops_of rest) = ap (λ l. op ∷ l) (flat_map-append op_of (pieces args) (pieces rest)) in
    let circuits : HaveCircuits (op ∷ (ops_of args ++ ops_of rest)) = subst HaveCircuits split have in
    let both = ops_app op args rest circuits in
    let found = fit_parts vars (occurrences args inner) (occurrences rest outer) sized in
    let sources : Built = terms_circuit args inner vars n in
    let under = terms_right args inner vars n p below here.1 both.0 found.0 in
    let from : ℕ = behind n sources.gates in
    let own : Block = op_circuit op (width_bits dst) sources.words from in
    let computes : Computes op (width_bits (unsized_width op dst (roots args inner))) (width_bits dst) from sources.words =
    op_computes op dst (roots args inner) from sources.words circuits.0 fits.1 (omega (arith, p)) under.0.below under.0.sized in
    let next : ℕ = behind from own.gates in
    let last : Built = terms_circuit rest outer vars next in
    let later : n ≤ next = omega arith in
    let more = terms_right rest outer vars next (omega (arith, p, later)) (all_later n next vars later below) all.1 both.1 found.1 in
    let end : behind next last.gates ≡ behind n (sources.gates ++ (own.gates ++ last.gates)) =
    behind_both from own.gates last.gates ∙ behind_both n sources.gates (own.gates ++ last.gates) in
    let words_end : AreBelow (behind next last.gates) own.word = below_later next (behind next last.gates) own.word (omega arith) computes.block.below in (
      record {
        sized = (computes.block.long, more.0.sized);
        ordered = ordered_joined n sources.gates (own.gates ++ last.gates) under.0.ordered (ordered_joined from own.gates last.gates computes.block.ordered more.0.ordered);
        below = subst (λ m. AreBelow m own.word × AllBelow m last.words) end (words_end, more.0.below);
      },
      λ α values t stand made.
          let first = made_parts α n sources.gates (own.gates ++ last.gates) made in
          let second = made_parts α from own.gates last.gates first.1 in
          rw (computes.value α t second.0, under.1 α values t stand first.0, more.1 α values t stand second.1) refl,
    )

-- as many words as terms
pub words_count : (terms : Terms) (widths : List Width) (vars : List (List Lit)) (n : ℕ) → length (terms_circuit terms widths vars n).words ≡ terms_count terms
words_count Nil widths vars n = refl
words_count (VarThen var constant size cond rest) widths vars n = ap suc (words_count rest (drop 1 widths) vars n)
words_count (LitThen value boolean rest) widths vars n = ap suc (words_count rest (drop 1 widths) vars n)
words_count (AppThen op size once args rest) widths vars n = ap suc (words_count rest (drop (suc (size_of args)) widths) vars _)

-- ---- where no opcode is without a circuit

found_none : (op : Op) (rest : Option Op) (b : Bool) → has_circuit op ≡ b → (cond (not (has_circuit op)) (Some op) rest) ≡ None → (has_circuit op ≡ true) × (rest ≡ None)
found_none op rest true e h = (e, sym (ap (λ b. cond (not b) (Some op) rest) e) ∙ h)
found_none op rest false e h = let bad : Some op ≡ None = sym (ap (λ b. cond (not b) (Some op) rest) e) ∙ h in cc

pub none_without : (ops : List Op) → find (λ op. not (has_circuit op)) ops ≡ None → HaveCircuits ops
none_without [] h = tt
none_without (op ∷ ops) h =
    let parts = found_none op (find (λ o. not (has_circuit o)) ops) (has_circuit op) refl h in
    (parts.0, none_without ops parts.1)

-- Laws of the place of the lowest 1 of a word: the circuit is right.
use Rattle.std.proofs.Common.{◌≡◌, ℕ, zero, suc, ◌+◌, ◌-◌, ◌*◌, ◌/◌, ◌%◌, ◌^◌, ◌<◌, ◌≤◌, List, [], ◌∷◌, length, replicate, refl, sym, ◌∙◌, subst, arith, Bool, true, false, cond, mod-eq_of_lt, ⊎_elim}
use Rattle.std.specs.Prelude.{◌==◌}
use Rattle.std.specs.Int.Count.{count_trailing_zeros}
use Rattle.std.proofs.lemmas.Bool.{ne_eqb, eq-eqb, cases_eq}
use Rattle.std.proofs.lemmas.List.{length-replicate}
use Rattle.std.proofs.lemmas.Nat.{trailing_le}
use Rattle.nir_ops.specs.declared.op.Op.TheVariants.{FindLsb}
use Rattle.op_eval.specs.Meaning.{meaning, op_mean}
use Rattle.op_eval.specs.Word.{residue, lowest_one}
use Rattle.circuit_laws.specs.Literals.{Lit, lit, bit, word, yes, constant}
use Rattle.circuit_laws.specs.Gates.{AreMade, AreBelow}
use Rattle.circuit_laws.specs.Blocks.{Block, behind, lowest_place}
use Rattle.circuit_laws.specs.Opcodes.{circuit}
use Rattle.circuit_laws.specs.Computes.{Computes, IsBlock}
use Rattle.circuit_laws.specs.WordLaws.{constant_is, constant_length, below_filled, below_constant}
use Rattle.circuit_laws.specs.SequenceLaws.{plain_block, choice_after, choice_after_is}

-- the place of the lowest 1 in 32 bits, where the lowest bit stands at place i, and -1 where there is none
lowest : ℕ → ℕ → ℕ → ℕ
lowest f i v = cond (v == 0) (2 ^ 32 - 1) (i + count_trailing_zeros f v)

lowest_more : (b : Bool) (f i v : ℕ) → cond b i (lowest f (suc i) v) ≡ lowest (suc f) i (bit b + 2 * v)
unfolding lowest count_trailing_zeros
lowest_more true f i v =
    let odd : (1 + 2 * v) % 2 ≡ 1 = omega arith in
    rw (ne_eqb (1 + 2 * v) 0 (λ e. omega (arith, e)), odd) (omega arith)
lowest_more false f i v =
    let even : (0 + 2 * v) % 2 ≡ 0 = omega arith in
    let half : (0 + 2 * v) / 2 ≡ v = omega arith in
    ⊎_elim (λ e. rw (eq-eqb v 0 e, eq-eqb (0 + 2 * v) 0 (omega (arith, e))) refl)
    (λ e. rw (ne_eqb v 0 e, ne_eqb (0 + 2 * v) 0 (λ z. e (omega (arith, z))), even, half) (omega arith))
    (cases_eq v 0)

place_block : (xs : List Lit) (i n : ℕ) → 0 < n → AreBelow n xs → IsBlock n 32 (lowest_place xs i n)
unfolding lowest_place
place_block [] i n p f = plain_block n 32 (replicate 32 yes) (length-replicate 32 yes) (below_filled n 32 yes p)
place_block (x ∷ xs) i n p f =
    let rest : Block = lowest_place xs (suc i) n in
    let made : IsBlock n 32 rest = place_block xs (suc i) n p f.1 in
    let later : n ≤ behind n rest.gates = omega arith in
    subst (λ d. IsBlock n d (lowest_place (x ∷ xs) i n)) (constant_length 32 i)
    (choice_after n rest x (constant 32 i) rest.word (constant_length 32 i ∙ sym made.long) made.ordered (omega (arith, f.0, later))
    (below_constant (behind n rest.gates) 32 i (omega (arith, p))) made.below)

place_is : (α : ℕ → Bool) (xs : List Lit) (f i n : ℕ) → length xs ≤ f → i + length xs ≤ 64 → 0 < n → AreBelow n xs → α 0 ≡ true
    → AreMade α n (lowest_place xs i n).gates → word α (lowest_place xs i n).word ≡ lowest f i (word α xs)
unfolding lowest_place lowest
place_is α [] f i n le room p g t h = rw t refl
place_is α (x ∷ xs) zero i n le room p g t h = absurd (omega (arith, le))
place_is α (x ∷ xs) (suc f) i n le room p g t h =
    let rest : Block = lowest_place xs (suc i) n in
    let long : length (constant 32 i) ≡ length rest.word = constant_length 32 i ∙ sym (place_block xs (suc i) n p g.1).long in
    let own = choice_after_is α n rest x (constant 32 i) rest.word long h in
    let named : word α (constant 32 i) ≡ i = constant_is α 32 i t ∙ mod-eq_of_lt (omega (arith, room)) in
    let others : word α rest.word ≡ lowest f (suc i) (word α xs) = place_is α xs f (suc i) n (omega (arith, le)) (omega (arith, room)) p g.1 t own.0 in
    own.1 ∙ rw (named, others) (lowest_more (lit α x) f i (word α xs))

lowest_is : (v : ℕ) → lowest 64 0 v ≡ residue 32 (lowest_one v)
unfolding lowest residue lowest_one
lowest_is v =
    let few : count_trailing_zeros 64 v ≤ 64 = trailing_le 64 v in
    let same : 0 + count_trailing_zeros 64 v ≡ count_trailing_zeros 64 v = omega arith in
    ⊎_elim (λ e. rw (eq-eqb v 0 e) refl) (λ e. rw (ne_eqb v 0 e) (same ∙ sym (mod-eq_of_lt (omega (arith, few))))) (cases_eq v 0)

pub find_lsb_computes : (n : ℕ) (x : List Lit) → length x ≤ 64 → 0 < n → AreBelow n x → Computes FindLsb (length x) 32 n (x ∷ [])
unfolding circuit op_mean meaning
find_lsb_computes n x le p f = record {
  block = place_block x 0 n p f;
  value = λ α t h. place_is α x 64 0 n le (omega (arith, le)) p f t h ∙ lowest_is (word α x);
}

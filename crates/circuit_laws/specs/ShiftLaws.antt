-- Laws of shifts up and down, where literals count the places: the circuits are right.
use Rattle.std.proofs.Common.{◌≡◌, ℕ, suc, ◌+◌, ◌-◌, ◌*◌, ◌/◌, ◌%◌, ◌^◌, ◌<◌, ◌≤◌, min, List, [], ◌∷◌, ◌++◌, length, replicate, drop, refl, sym, ◌∙◌, ap, subst, arith, Bool, true, false, cond, not, nat_lt, ⊎_elim, pow-add, mod-eq_of_lt, mul_assoc, shr-shr, lt_of_le_of_lt}
use Rattle.std.proofs.lemmas.Bool.{cases_Bool, not-true, not-false}
use Rattle.std.proofs.lemmas.List.{length-replicate, length-append, length-take-le, length-drop, map-append, drop-map}
use Rattle.std.proofs.lemmas.Nat.{mul-mod_first, pow_pos}
use Rattle.std.proofs.Math.Nat.{mul-one, div-one, div-le_self}
use Rattle.std.specs.Int.Count.{count_trailing_zeros}
use Rattle.nir_ops.specs.declared.op.Op.TheVariants.{Ishl, Ishr, Ushr}
use Rattle.op_eval.specs.Meaning.{meaning, op_mean}
use Rattle.op_eval.specs.Word.{residue, signed, floor_div}
use Rattle.circuit_laws.specs.Literals.{Lit, negated, no, lit, word}
use Rattle.circuit_laws.specs.Gates.{AreMade, IsBelow, AreBelow}
use Rattle.circuit_laws.specs.Blocks.{Block, choice, flipped, raised, lowered, top}
use Rattle.circuit_laws.specs.Opcodes.{count_bits, moved_by, circuit}
use Rattle.circuit_laws.specs.Computes.{Computes}
use Rattle.circuit_laws.specs.WordLaws.{lit_negated, word_small, word_append, word_take, word_drop, word_flipped, flipped_length, word_none, below_append, below_take, below_drop, below_filled}
use Rattle.circuit_laws.specs.RowLaws.{choice_is, choice_length}
use Rattle.circuit_laws.specs.ResizeLaws.{by_flipped, top_is, top_below, word_filled, flipped_filled}
use Rattle.circuit_laws.specs.MoveLaws.{IsMove, Changes, IsPower, shifter_length, moved_block, moved_is}

-- ---- up

raised_length : (fill : Lit) (d : ℕ) (xs : List Lit) → length (raised fill d xs) ≡ length xs
raised_length fill d xs = length-take-le (length xs) (replicate d fill ++ xs) (omega (arith, length-append (replicate d fill) xs))

raised_move : (n : ℕ) (fill : Lit) → IsBelow n fill → IsMove (raised fill) n
raised_move n fill h = record {
  size = raised_length fill;
  below = λ m d xs le f.
      below_take m (length xs) (replicate d fill ++ xs) (below_append m (replicate d fill) xs (below_filled m d fill (omega (arith, h, le))) f);
}

raised_is : (α : ℕ → Bool) (d : ℕ) (xs : List Lit) → α 0 ≡ true → word α (raised no d xs) ≡ (word α xs * 2 ^ d) % 2 ^ length xs
raised_is α d xs t =
    let parts : word α (replicate d no ++ xs) ≡ word α xs * 2 ^ d =
    word_append α (replicate d no) xs ∙ rw (word_none α d t, length-replicate d no) (omega arith) in
    word_take α (length xs) (replicate d no ++ xs) ∙ ap (λ m. m % 2 ^ length xs) parts

up_twice : (m d e v : ℕ) → ((v * 2 ^ d) % m * 2 ^ e) % m ≡ (v * 2 ^ (d + e)) % m
up_twice m d e v = mul-mod_first (v * 2 ^ d) (2 ^ e) m ∙ ap (λ k. k % m) (mul_assoc v (2 ^ d) (2 ^ e) ∙ ap (λ k. v * k) (sym (pow-add 2 d e)))

raised_changes : (α : ℕ → Bool) (size : ℕ) → α 0 ≡ true → Changes α (raised no) (word α) (λ d v. (v * 2 ^ d) % 2 ^ size) size
raised_changes α size t = record {
  keeps = raised_length no;
  once = λ d xs e le. raised_is α d xs t ∙ ap (λ m. (word α xs * 2 ^ d) % 2 ^ m) e;
  never = λ xs e. sym (ap (λ v. v % 2 ^ size) (mul-one (word α xs)) ∙ mod-eq_of_lt (subst (λ m. word α xs < 2 ^ m) e (word_small α xs)));
  twice = λ d e xs f le. up_twice (2 ^ size) d e (word α xs);
  chosen = choice_is α;
}

pub ishl_computes : (n : ℕ) (x y : List Lit) → IsPower (length x) → 0 < n → AreBelow n x → AreBelow n y → Computes Ishl (length x) (length x) n (x ∷ y ∷ [])
unfolding circuit op_mean meaning residue
ishl_computes n x y e p f g = record {
  block = moved_block (raised no) x y n (raised_move n no p) f g;
  value = λ α t h. moved_is α (raised no) (word α) (λ d v. (v * 2 ^ d) % 2 ^ length x) x y n (raised_changes α (length x) t) e h;
}

-- ---- down

lowered_length : (fill : Lit) (d : ℕ) (xs : List Lit) → length (lowered fill d xs) ≡ length xs
lowered_length fill d xs =
    let some : ℕ = min d (length xs) in
    omega (arith, length-append (drop d xs) (replicate some fill), length-replicate some fill, length-drop d xs)

lowered_move : (n : ℕ) (fill : Lit) → IsBelow n fill → IsMove (lowered fill) n
lowered_move n fill h = record {
  size = lowered_length fill;
  below = λ m d xs le f.
      below_append m (drop d xs) (replicate (min d (length xs)) fill) (below_drop m d xs f) (below_filled m (min d (length xs)) fill (omega (arith, h, le)));
}

lowered_is : (α : ℕ → Bool) (fill : Lit) (d : ℕ) (xs : List Lit) → lit α fill ≡ false → word α (lowered fill d xs) ≡ word α xs / 2 ^ d
lowered_is α fill d xs f =
    word_append α (drop d xs) (replicate (min d (length xs)) fill) ∙ rw (word_filled α (min d (length xs)) fill f) (omega arith) ∙ word_drop α d xs

lowered_changes : (α : ℕ → Bool) (fill : Lit) (size : ℕ) → lit α fill ≡ false → Changes α (lowered fill) (word α) (λ d v. v / 2 ^ d) size
lowered_changes α fill size f = record {
  keeps = lowered_length fill;
  once = λ d xs e le. lowered_is α fill d xs f;
  never = λ xs e. sym (div-one (word α xs));
  twice = λ d e xs g le. shr-shr (word α xs) d e;
  chosen = choice_is α;
}

below_power : (v k w : ℕ) → v < 2 ^ w → v / 2 ^ k < 2 ^ w
below_power v k w h = lt_of_le_of_lt (div-le_self v (2 ^ k)) h

pub ushr_computes : (n : ℕ) (x y : List Lit) → IsPower (length x) → 0 < n → AreBelow n x → AreBelow n y → Computes Ushr (length x) (length x) n (x ∷ y ∷ [])
unfolding circuit op_mean meaning residue
ushr_computes n x y e p f g = record {
  block = moved_block (lowered no) x y n (lowered_move n no p) f g;
  value = λ α t h.
      moved_is α (lowered no) (word α) (λ d v. v / 2 ^ d) x y n (lowered_changes α no (length x) (ap not t)) e h
      ∙ sym (mod-eq_of_lt (below_power (word α x) (word α y % length x) (length x) (word_small α x)));
}

-- ---- down, where what enters is true: each bit negated

flipped_lowered : (fill : Lit) (d : ℕ) (xs : List Lit) → flipped (lowered fill d xs) ≡ lowered (negated fill) d (flipped xs)
flipped_lowered fill d xs =
    map-append negated (drop d xs) (replicate (min d (length xs)) fill)
    ∙ rw (drop-map negated d xs, flipped_filled (min d (length xs)) fill, flipped_length xs) refl

-- a choice of one word, and of all bits of both negated
chosen_flipped : (b : Bool) (m x y c nx ny nc : ℕ) → c ≡ cond b x y → nx + x + 1 ≡ m → ny + y + 1 ≡ m → nc + c + 1 ≡ m → nc ≡ cond b nx ny
chosen_flipped true m x y c nx ny nc e f g h = omega (arith, e, f, h)
chosen_flipped false m x y c nx ny nc e f g h = omega (arith, e, g, h)

choice_flipped : (α : ℕ → Bool) (s : Lit) (xs ys : List Lit) (n : ℕ) → length xs ≡ length ys → AreMade α n (choice s xs ys n).gates →
    word α (flipped (choice s xs ys n).word) ≡ cond (lit α s) (word α (flipped xs)) (word α (flipped ys))
choice_flipped α s xs ys n e h =
    let c : List Lit = (choice s xs ys n).word in
    let power : 2 ^ length ys ≡ 2 ^ length xs = ap (λ m. 2 ^ m) (sym e) in
    let chosen_power : 2 ^ length c ≡ 2 ^ length xs = ap (λ m. 2 ^ m) (choice_length s xs ys n e) in
    chosen_flipped (lit α s) (2 ^ length xs) (word α xs) (word α ys) (word α c) (word α (flipped xs)) (word α (flipped ys)) (word α (flipped c))
    (choice_is α s xs ys n e h) (word_flipped α xs) (word_flipped α ys ∙ power) (word_flipped α c ∙ chosen_power)

flipped_changes : (α : ℕ → Bool) (fill : Lit) (size : ℕ) → lit α fill ≡ true → Changes α (lowered fill) (λ ls. word α (flipped ls)) (λ d v. v / 2 ^ d) size
flipped_changes α fill size t = record {
  keeps = lowered_length fill;
  once = λ d xs e le. ap (word α) (flipped_lowered fill d xs) ∙ lowered_is α (negated fill) d (flipped xs) (lit_negated α fill ∙ ap not t);
  never = λ xs e. sym (div-one (word α (flipped xs)));
  twice = λ d e xs g le. shr-shr (word α (flipped xs)) d e;
  chosen = choice_flipped α;
}

-- the block that moves a word down with its top literal
abbrev shifted : List Lit → List Lit → ℕ → Block
shifted x y n = moved_by (lowered (top x)) x y n

down_high : (α : ℕ → Bool) (x y : List Lit) (n : ℕ) → IsPower (length x) → 1 ≤ length x → lit α (top x) ≡ true → AreMade α n (shifted x y n).gates →
    word α (shifted x y n).word ≡ op_mean Ishr (length x) (length x) (word α x ∷ word α y ∷ [])
unfolding op_mean meaning residue signed floor_div
down_high α x y n e some t h =
    let w : ℕ = length x in
    let k : ℕ = word α y % w in
    let result : List Lit = (shifted x y n).word in
    let size : length result ≡ w = shifter_length (lowered (top x)) (lowered_length (top x)) x (count_bits x y) 0 n in
    let high : nat_lt (word α x) (2 ^ (w - 1)) ≡ false = not-true (nat_lt (word α x) (2 ^ (w - 1))) (sym (top_is α x some) ∙ t) in
    let others : word α (flipped x) ≡ 2 ^ w - suc (word α x) = omega (arith, word_flipped α x) in
    let moved : word α (flipped result) ≡ (2 ^ w - suc (word α x)) / 2 ^ k =
    moved_is α (lowered (top x)) (λ ls. word α (flipped ls)) (λ d v. v / 2 ^ d) x y n (flipped_changes α (top x) w t) e h ∙ ap (λ v. v / 2 ^ k) others in
    let small : (2 ^ w - suc (word α x)) / 2 ^ k < 2 ^ w = below_power (2 ^ w - suc (word α x)) k w (omega (arith, word_small α x)) in
    by_flipped α result ((2 ^ w - suc (word α x)) / 2 ^ k) moved ∙ rw (high, mod-eq_of_lt small, size) refl

down_low : (α : ℕ → Bool) (x y : List Lit) (n : ℕ) → IsPower (length x) → 1 ≤ length x → lit α (top x) ≡ false → AreMade α n (shifted x y n).gates →
    word α (shifted x y n).word ≡ op_mean Ishr (length x) (length x) (word α x ∷ word α y ∷ [])
unfolding op_mean meaning residue signed floor_div
down_low α x y n e some f h =
    let low : nat_lt (word α x) (2 ^ (length x - 1)) ≡ true = not-false (nat_lt (word α x) (2 ^ (length x - 1))) (sym (top_is α x some) ∙ f) in
    moved_is α (lowered (top x)) (word α) (λ d v. v / 2 ^ d) x y n (lowered_changes α (top x) (length x) f) e h
    ∙ rw low (sym (mod-eq_of_lt (below_power (word α x) (word α y % length x) (length x) (word_small α x))))

pub ishr_computes : (n : ℕ) (x y : List Lit) → IsPower (length x) → 0 < n → AreBelow n x → AreBelow n y → Computes Ishr (length x) (length x) n (x ∷ y ∷ [])
unfolding circuit
ishr_computes n x y e p f g =
    let some : 1 ≤ length x = omega (arith, e, pow_pos (count_trailing_zeros 64 (length x))) in
    record {
      block = moved_block (lowered (top x)) x y n (lowered_move n (top x) (top_below n x p f)) f g;
      value = λ α t h. ⊎_elim (λ a. down_high α x y n e some a h) (λ a. down_low α x y n e some a h) (cases_Bool (lit α (top x)));
    }

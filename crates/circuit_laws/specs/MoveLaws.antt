-- Laws of words moved by a number of places that literals stand for: one induction for shifts up and down and for rotations.
use Rattle.std.proofs.Common.{◌≡◌, ℕ, suc, ◌+◌, ◌*◌, ◌%◌, ◌^◌, ◌<◌, ◌≤◌, List, [], ◌∷◌, length, refl, sym, ◌∙◌, ap, subst, arith, Bool, true, false, cond, pow-suc, pow_mono, mul-zero, one-mul, le_refl, le_trans}
use Rattle.std.proofs.lemmas.List.{length-take}
use Rattle.std.proofs.Math.Nat.{mul-one, mul-le-mul_left}
use Rattle.std.specs.Int.Count.{count_trailing_zeros}
use Rattle.nir_ops.specs.declared.width.Width.{Width}
use Rattle.nir_ops.specs.declared.width.Width.TheVariants.{W1, W8, W16, W32, W64}
use Rattle.nir_ops.specs.Width.{width_bits}
use Rattle.circuit_laws.specs.Literals.{Lit, lit, bit, word}
use Rattle.circuit_laws.specs.Gates.{AreMade, AreBelow, AreOrdered}
use Rattle.circuit_laws.specs.Blocks.{Block, behind, choice, shifter}
use Rattle.circuit_laws.specs.Opcodes.{count_bits, moved_by}
use Rattle.circuit_laws.specs.Computes.{IsBlock}
use Rattle.circuit_laws.specs.WordLaws.{bit_small, word_small, word_take, below_later, below_take}
use Rattle.circuit_laws.specs.GateLaws.{made_parts, ordered_joined}
use Rattle.circuit_laws.specs.RowLaws.{choice_length, choice_ordered, row_below}
use Rattle.circuit_laws.specs.SequenceLaws.{behind_both}

-- a move keeps the length of a word, and takes no literals but those of the word and such as stand below a variable
pub record IsMove (moved : ℕ → List Lit → List Lit) (n : ℕ) : Type 0 where
  pub size : (d : ℕ) (xs : List Lit) → length (moved d xs) ≡ length xs
  pub below : (m d : ℕ) (xs : List Lit) → n ≤ m → AreBelow m xs → AreBelow m (moved d xs)

-- what a move makes of the number that is read of a word of so many bits, where moves one after another are a move by the sum of their places
pub record Changes (α : ℕ → Bool) (moved : ℕ → List Lit → List Lit) (value : List Lit → ℕ) (change : ℕ → ℕ → ℕ) (size : ℕ) : Type 0 where
  pub keeps : (d : ℕ) (xs : List Lit) → length (moved d xs) ≡ length xs
  pub once : (d : ℕ) (xs : List Lit) → length xs ≡ size → d ≤ size → value (moved d xs) ≡ change d (value xs)
  pub never : (xs : List Lit) → length xs ≡ size → value xs ≡ change 0 (value xs)
  pub twice : (d e : ℕ) (xs : List Lit) → length xs ≡ size → d + e ≤ size → change e (change d (value xs)) ≡ change (d + e) (value xs)
  pub chosen : (s : Lit) (xs ys : List Lit) (n : ℕ) → length xs ≡ length ys → AreMade α n (choice s xs ys n).gates →
      value (choice s xs ys n).word ≡ cond (lit α s) (value xs) (value ys)

-- the places of one step and of those behind it are within the word
record Room (j b v k size : ℕ) : Type 0 where
  left : 2 ^ suc j * 2 ^ k ≤ size
  step : 2 ^ j ≤ size
  all : 2 ^ j * b + 2 ^ suc j * v ≤ size
  places : 2 ^ j * b + 2 ^ suc j * v ≡ 2 ^ j * (b + 2 * v)

room_of : (j b v k size : ℕ) → b < 2 → v < 2 ^ k → 2 ^ j * 2 ^ suc k ≤ size → Room j b v k size
room_of j b v k size f g le =
    let doubled : 2 ^ suc j ≡ 2 ^ j * 2 = pow-suc 2 j in
    let more : 2 ^ suc k ≡ 2 ^ k * 2 = pow-suc 2 k in
    let whole : 2 ^ j * 2 ^ suc k ≡ 2 ^ suc j * 2 ^ k = rw (doubled, more) (omega arith) in
    let left : 2 ^ suc j * 2 ^ k ≤ size = omega (arith, whole, le) in
    let fits : 2 ^ suc j * (v + 1) ≤ size = le_trans (mul-le-mul_left (2 ^ suc j) (omega (arith, g))) left in
    let one : 2 ^ j * b ≤ 2 ^ j * 1 = mul-le-mul_left (2 ^ j) (omega (arith, f)) in
    record { left = left; step = omega (arith, fits, doubled); all = omega (arith, fits, one, doubled); places = rw doubled (omega arith) }

-- a move or none
one_step : (b : Bool) (change : ℕ → ℕ → ℕ) (d v : ℕ) → v ≡ change 0 v → cond b (change d v) v ≡ change (d * bit b) v
one_step true change d v h = rw (mul-one d) refl
one_step false change d v h = rw (mul-zero d) h

pub shifter_is : (α : ℕ → Bool) (moved : ℕ → List Lit → List Lit) (value : List Lit → ℕ) (change : ℕ → ℕ → ℕ) (size : ℕ) → Changes α moved value change size
    → (xs ks : List Lit) (j n : ℕ) → length xs ≡ size → 2 ^ j * 2 ^ length ks ≤ size → AreMade α n (shifter moved xs ks j n).gates →
    value (shifter moved xs ks j n).word ≡ change (2 ^ j * word α ks) (value xs)
unfolding shifter
shifter_is α moved value change size law xs [] j n e le h = rw (mul-zero (2 ^ j)) (law.never xs e)
shifter_is α moved value change size law xs (k ∷ ks) j n e le h =
    let b : ℕ = bit (lit α k) in
    let room : Room j b (word α ks) (length ks) size = room_of j b (word α ks) (length ks) size (bit_small (lit α k)) (word_small α ks) le in
    let first : Block = choice k (moved (2 ^ j) xs) xs n in
    let parts = made_parts α n first.gates (shifter moved first.word ks (suc j) (behind n first.gates)).gates h in
    let kept : length (moved (2 ^ j) xs) ≡ length xs = law.keeps (2 ^ j) xs in
    let after_first : value first.word ≡ change (2 ^ j * b) (value xs) =
    law.chosen k (moved (2 ^ j) xs) xs n kept parts.0 ∙ ap (λ v. cond (lit α k) v (value xs)) (law.once (2 ^ j) xs e room.step)
    ∙ one_step (lit α k) change (2 ^ j) (value xs) (law.never xs e) in
    let same : length first.word ≡ size = choice_length k (moved (2 ^ j) xs) xs n kept ∙ kept ∙ e in
    shifter_is α moved value change size law first.word ks (suc j) (behind n first.gates) same room.left parts.1
    ∙ ap (change (2 ^ suc j * word α ks)) after_first ∙ law.twice (2 ^ j * b) (2 ^ suc j * word α ks) xs e room.all
    ∙ ap (λ d. change d (value xs)) room.places

pub shifter_length : (moved : ℕ → List Lit → List Lit) → ((d : ℕ) (xs : List Lit) → length (moved d xs) ≡ length xs) → (xs ks : List Lit) (j m : ℕ) →
    length (shifter moved xs ks j m).word ≡ length xs
unfolding shifter
shifter_length moved keeps xs [] j m = refl
shifter_length moved keeps xs (k ∷ ks) j m =
    let first : Block = choice k (moved (2 ^ j) xs) xs m in
    shifter_length moved keeps first.word ks (suc j) (behind m first.gates)
    ∙ choice_length k (moved (2 ^ j) xs) xs m (keeps (2 ^ j) xs) ∙ keeps (2 ^ j) xs

shifter_ordered : (moved : ℕ → List Lit → List Lit) (n : ℕ) → IsMove moved n → (xs ks : List Lit) (j m : ℕ) → n ≤ m → AreBelow m xs → AreBelow m ks →
    AreOrdered m (shifter moved xs ks j m).gates
unfolding shifter
shifter_ordered moved n move xs [] j m le f g = tt
shifter_ordered moved n move xs (k ∷ ks) j m le f g =
    let first : Block = choice k (moved (2 ^ j) xs) xs m in
    let next : ℕ = behind m first.gates in
    ordered_joined m first.gates (shifter moved first.word ks (suc j) next).gates
    (choice_ordered k (moved (2 ^ j) xs) xs m g.0 (move.below m (2 ^ j) xs le f) f)
    (shifter_ordered moved n move first.word ks (suc j) next (omega (arith, le)) (row_below first.gates m) (below_later m next ks (omega arith) g.1))

shifter_below : (moved : ℕ → List Lit → List Lit) (xs ks : List Lit) (j m : ℕ) → AreBelow m xs →
    AreBelow (behind m (shifter moved xs ks j m).gates) (shifter moved xs ks j m).word
unfolding shifter
shifter_below moved xs [] j m f = below_later m (behind m []) xs (omega arith) f
shifter_below moved xs (k ∷ ks) j m f =
    let first : Block = choice k (moved (2 ^ j) xs) xs m in
    let rest : Block = shifter moved first.word ks (suc j) (behind m first.gates) in
    subst (λ v. AreBelow v rest.word) (behind_both m first.gates rest.gates)
    (shifter_below moved first.word ks (suc j) (behind m first.gates) (row_below first.gates m))

-- ---- moves by as many places as the bits of a count tell

pub moved_block : (moved : ℕ → List Lit → List Lit) (x y : List Lit) (n : ℕ) → IsMove moved n → AreBelow n x → AreBelow n y →
    IsBlock n (length x) (moved_by moved x y n)
moved_block moved x y n move f g = record {
  long = shifter_length moved move.size x (count_bits x y) 0 n;
  ordered = shifter_ordered moved n move x (count_bits x y) 0 n (le_refl n) f (below_take n (count_trailing_zeros 64 (length x)) y g);
  below = shifter_below moved x (count_bits x y) 0 n f;
}

-- the number of bits is a power of two
abbrev pub IsPower : ℕ → Type 0
IsPower size = 2 ^ count_trailing_zeros 64 size ≡ size

bits_power : (w : Width) → IsPower (width_bits w)
unfolding count_trailing_zeros
bits_power W1 = refl
bits_power W8 = refl
bits_power W16 = refl
bits_power W32 = refl
bits_power W64 = refl

pub width_power : (w : Width) (size : ℕ) → size ≡ width_bits w → IsPower size
width_power w size e = subst IsPower (sym e) (bits_power w)

pub moved_is : (α : ℕ → Bool) (moved : ℕ → List Lit → List Lit) (value : List Lit → ℕ) (change : ℕ → ℕ → ℕ) (x y : List Lit) (n : ℕ) →
    Changes α moved value change (length x) → IsPower (length x) → AreMade α n (moved_by moved x y n).gates →
    value (moved_by moved x y n).word ≡ change (word α y % length x) (value x)
moved_is α moved value change x y n law e h =
    let places : ℕ = count_trailing_zeros 64 (length x) in
    let few : length (count_bits x y) ≤ places = omega (arith, length-take places y) in
    let fits : 2 ^ length (count_bits x y) ≤ 2 ^ places = pow_mono few in
    let count : 1 * word α (count_bits x y) ≡ word α y % length x = one-mul (word α (count_bits x y)) ∙ word_take α places y ∙ ap (λ m. word α y % m) e in
    shifter_is α moved value change (length x) law x (count_bits x y) 0 n refl (omega (arith, fits, e)) h ∙ ap (λ d. change d (value x)) count

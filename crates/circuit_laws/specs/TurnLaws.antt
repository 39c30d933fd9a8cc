-- Laws of rotations, where literals count the places: the circuits are right.
use Rattle.std.proofs.Common.{◌≡◌, ℕ, zero, suc, ◌+◌, ◌-◌, ◌*◌, ◌/◌, ◌%◌, ◌^◌, ◌<◌, ◌≤◌, List, [], ◌∷◌, ◌++◌, length, take, drop, refl, sym, ◌∙◌, ap, subst, arith, Bool, pow-add, mod-eq_of_lt, mod-lt, add_comm, shr-shr}
use Rattle.std.proofs.lemmas.List.{length-append, length-drop, length-take}
use Rattle.std.proofs.lemmas.Nat.{pow_pos, shr_high, mod_low, shr_below, shr_split, mod-pow-add, mul-add-lt}
use Rattle.std.proofs.Math.Nat.{div-one, mod-one, mod_self, div-eq_of_lt}
use Rattle.std.specs.Int.Count.{count_trailing_zeros}
use Rattle.nir_ops.specs.declared.op.Op.TheVariants.{Urol, Uror}
use Rattle.op_eval.specs.Meaning.{meaning, op_mean}
use Rattle.op_eval.specs.Word.{residue, rotated}
use Rattle.circuit_laws.specs.Literals.{Lit, word}
use Rattle.circuit_laws.specs.Gates.{AreBelow}
use Rattle.circuit_laws.specs.Blocks.{turned_up, turned_down}
use Rattle.circuit_laws.specs.Opcodes.{circuit}
use Rattle.circuit_laws.specs.Computes.{Computes}
use Rattle.circuit_laws.specs.WordLaws.{word_small, word_append, word_take, word_drop, below_append, below_take, below_drop}
use Rattle.circuit_laws.specs.RowLaws.{choice_is}
use Rattle.circuit_laws.specs.MoveLaws.{IsMove, Changes, IsPower, moved_block, moved_is}

-- ---- numbers of j + d bits, turned

-- the top d bits below the others
abbrev turn : ℕ → ℕ → ℕ → ℕ
turn j d v = v / 2 ^ j + 2 ^ d * (v % 2 ^ j)

turn_parts : (j d high low : ℕ) → low < 2 ^ j → turn j d (high * 2 ^ j + low) ≡ high + 2 ^ d * low
turn_parts j d high low h = rw (shr_high high j low h, mod_low high j low h) refl

turn_none : (n v : ℕ) → v < 2 ^ n → v ≡ turn n 0 v
turn_none n v h = rw (div-eq_of_lt h, mod-eq_of_lt h) (omega arith)

-- a number as its top d bits, the next e bits, and the lowest c bits
record Split (c d e v : ℕ) : Type 0 where
  high : ℕ
  mid : ℕ
  low : ℕ
  high_small : high < 2 ^ d
  mid_small : mid < 2 ^ e
  low_small : low < 2 ^ c
  lower : v % 2 ^ (e + c) ≡ mid * 2 ^ c + low
  upper : v / 2 ^ c ≡ high * 2 ^ e + mid
  is_high : v / 2 ^ (e + c) ≡ high
  is_low : v % 2 ^ c ≡ low

split : (c d e v : ℕ) → v < 2 ^ (d + e + c) → Split c d e v
split c d e v h = record {
  high = v / 2 ^ (e + c);
  mid = v / 2 ^ c % 2 ^ e;
  low = v % 2 ^ c;
  high_small = shr_below v d (e + c) (subst (λ m. v < 2 ^ m) (omega arith) h);
  mid_small = mod-lt (v / 2 ^ c) (pow_pos e);
  low_small = mod-lt v (pow_pos c);
  lower = mod-pow-add v e c;
  upper = sym (shr_split (v / 2 ^ c) e) ∙ ap (λ m. m * 2 ^ e + v / 2 ^ c % 2 ^ e) (shr-shr v c e ∙ ap (λ m. v / 2 ^ m) (add_comm c e));
  is_high = refl;
  is_low = refl;
}

-- a turn by d and then by e, of d + e + c bits
turn_twice : (c d e v : ℕ) → v < 2 ^ (d + e + c) → turn (d + c) e (turn (e + c) d v) ≡ turn c (d + e) v
turn_twice c d e v h =
    let s : Split c d e v = split c d e v h in
    let square : 2 ^ (d + c) ≡ 2 ^ d * 2 ^ c = pow-add 2 d c in
    let last : 2 ^ (d + e) * s.low ≡ 2 ^ d * 2 ^ e * s.low = ap (λ m. m * s.low) (pow-add 2 d e) in
    let small : s.low * 2 ^ d + s.high < 2 ^ (d + c) =
    subst (λ m. s.low * 2 ^ d + s.high < m) (sym square) (mul-add-lt s.low (2 ^ d) s.high (2 ^ c) s.low_small s.high_small) in
    let once : turn (e + c) d v ≡ s.mid * 2 ^ (d + c) + (s.low * 2 ^ d + s.high) = rw (s.lower, s.is_high, square) (omega arith) in
    ap (turn (d + c) e) once ∙ turn_parts (d + c) e s.mid (s.low * 2 ^ d + s.high) small
    ∙ rw (s.upper, s.is_low) (omega (arith, last))

-- the other way: the lowest c bits and then the next e bits above the others
turn_back : (c d e v : ℕ) → v < 2 ^ (d + e + c) → turn e (c + d) (turn c (d + e) v) ≡ turn (e + c) d v
turn_back c d e v h =
    let s : Split c d e v = split c d e v h in
    let square : 2 ^ (d + e) ≡ 2 ^ d * 2 ^ e = pow-add 2 d e in
    let last : 2 ^ (c + d) * s.mid ≡ 2 ^ c * 2 ^ d * s.mid = ap (λ m. m * s.mid) (pow-add 2 c d) in
    let once : turn c (d + e) v ≡ (s.low * 2 ^ d + s.high) * 2 ^ e + s.mid = rw (s.upper, s.is_low, square) (omega arith) in
    ap (turn e (c + d)) once ∙ turn_parts e (c + d) (s.low * 2 ^ d + s.high) s.mid s.mid_small
    ∙ rw (s.lower, s.is_high) (omega (arith, last))

-- ---- up

turned_is : (α : ℕ → Bool) (j d : ℕ) (xs : List Lit) → j + d ≡ length xs → word α (drop j xs ++ take j xs) ≡ turn j d (word α xs)
turned_is α j d xs h =
    let size : length (drop j xs) ≡ d = omega (arith, h, length-drop j xs) in
    word_append α (drop j xs) (take j xs) ∙ rw (size, word_drop α j xs, word_take α j xs) refl

turned_length : (j : ℕ) (xs : List Lit) → length (drop j xs ++ take j xs) ≡ length xs
turned_length j xs = omega (arith, length-append (drop j xs) (take j xs), length-drop j xs, length-take j xs)

turned_below : (m j : ℕ) (xs : List Lit) → AreBelow m xs → AreBelow m (drop j xs ++ take j xs)
turned_below m j xs f = below_append m (drop j xs) (take j xs) (below_drop m j xs f) (below_take m j xs f)

up_move : (n : ℕ) → IsMove turned_up n
up_move n = record { size = λ d xs. turned_length (length xs - d) xs; below = λ m d xs le. turned_below m (length xs - d) xs }

up_twice : (size d e v : ℕ) → d + e ≤ size → v < 2 ^ size → turn (size - e) e (turn (size - d) d v) ≡ turn (size - (d + e)) (d + e) v
up_twice size d e v le h =
    let c : ℕ = size - (d + e) in
    let one : size - e ≡ d + c = omega (arith, le) in
    let two : size - d ≡ e + c = omega (arith, le) in
    let whole : size ≡ d + e + c = omega (arith, le) in
    rw (one, two) (turn_twice c d e v (subst (λ m. v < 2 ^ m) whole h))

up_changes : (α : ℕ → Bool) (size : ℕ) → Changes α turned_up (word α) (λ d v. turn (size - d) d v) size
up_changes α size = record {
  keeps = λ d xs. turned_length (length xs - d) xs;
  once = λ d xs e le. turned_is α (length xs - d) d xs (omega (arith, e, le)) ∙ ap (λ n. turn (n - d) d (word α xs)) e;
  never = λ xs e. let same : size - 0 ≡ size = omega arith in rw same (turn_none size (word α xs) (subst (λ m. word α xs < 2 ^ m) e (word_small α xs)));
  twice = λ d e xs f le. up_twice size d e (word α xs) le (subst (λ m. word α xs < 2 ^ m) f (word_small α xs));
  chosen = choice_is α;
}

turn_rotated : (w k v : ℕ) → k ≤ w → v < 2 ^ w → turn (w - k) k v ≡ rotated w v k % 2 ^ w
unfolding rotated
turn_rotated w k v h f =
    let j : ℕ = w - k in
    let whole : j + k ≡ w = omega arith in
    let turned_whole : k + j ≡ w = omega arith in
    let top : v / 2 ^ j < 2 ^ k = shr_below v k j (subst (λ m. v < 2 ^ m) (sym turned_whole) f) in
    let parts : (v * 2 ^ k + v / 2 ^ j) % 2 ^ (j + k) ≡ (v % 2 ^ j) * 2 ^ k + v / 2 ^ j =
    mod-pow-add (v * 2 ^ k + v / 2 ^ j) j k ∙ rw (shr_high v k (v / 2 ^ j) top, mod_low v k (v / 2 ^ j) top) refl in
    sym (ap (λ m. (v * 2 ^ k + v / 2 ^ j) % 2 ^ m) (sym whole) ∙ parts ∙ omega arith)

power_positive : (size : ℕ) → IsPower size → 0 < size
power_positive size e = subst (λ m. 0 < m) e (pow_pos (count_trailing_zeros 64 size))

pub urol_computes : (n : ℕ) (x y : List Lit) → IsPower (length x) → AreBelow n x → AreBelow n y → Computes Urol (length x) (length x) n (x ∷ y ∷ [])
unfolding circuit op_mean meaning residue
urol_computes n x y e f g = record {
  block = moved_block turned_up x y n (up_move n) f g;
  value = λ α t h.
      let w : ℕ = length x in
      let within : word α y % w ≤ w = omega (arith, mod-lt (word α y) (power_positive w e)) in
      moved_is α turned_up (word α) (λ d v. turn (w - d) d v) x y n (up_changes α w) e h
      ∙ turn_rotated w (word α y % w) (word α x) within (word_small α x);
}

-- ---- down

down_twice : (size d e v : ℕ) → d + e ≤ size → v < 2 ^ size → turn e (size - e) (turn d (size - d) v) ≡ turn (d + e) (size - (d + e)) v
down_twice size d e v le h =
    let c : ℕ = size - (d + e) in
    let one : size - e ≡ d + c = omega (arith, le) in
    let two : size - d ≡ c + e = omega (arith, le) in
    let turned : e + d ≡ d + e = add_comm e d in
    let whole : size ≡ c + e + d = omega (arith, le) in
    rw (one, two) (turn_back d c e v (subst (λ m. v < 2 ^ m) whole h) ∙ ap (λ m. turn m c v) turned)

turn_all : (n v : ℕ) → v ≡ turn 0 n v
turn_all n v = rw (div-one v, mod-one v) (omega arith)

down_changes : (α : ℕ → Bool) (size : ℕ) → Changes α turned_down (word α) (λ d v. turn d (size - d) v) size
down_changes α size = record {
  keeps = turned_length;
  once = λ d xs e le. turned_is α d (length xs - d) xs (omega (arith, e, le)) ∙ ap (λ n. turn d (n - d) (word α xs)) e;
  never = λ xs e. turn_all (size - 0) (word α xs);
  twice = λ d e xs f le. down_twice size d e (word α xs) le (subst (λ m. word α xs < 2 ^ m) f (word_small α xs));
  chosen = choice_is α;
}

-- down by k places is up by the others, and up by all places is up by none
turn_rotated_back : (w k v : ℕ) → k < w → v < 2 ^ w → turn k (w - k) v ≡ rotated w v ((w - k) % w) % 2 ^ w
turn_rotated_back w zero v h f =
    let same : w - 0 ≡ w = omega arith in
    let none : (w - 0) % w ≡ 0 = ap (λ m. m % w) same ∙ mod_self w in
    let once : v ≡ rotated w v 0 % 2 ^ w = turn_none w v f ∙ ap (λ m. turn m 0 v) (sym same) ∙ turn_rotated w 0 v (omega arith) f in
    sym (turn_all (w - 0) v) ∙ once ∙ ap (λ k. rotated w v k % 2 ^ w) (sym none)
turn_rotated_back w (suc k) v h f =
    let others : w - (w - suc k) ≡ suc k = omega (arith, h) in
    ap (λ m. turn m (w - suc k) v) (sym others) ∙ turn_rotated w (w - suc k) v (omega arith) f
    ∙ ap (λ m. rotated w v m % 2 ^ w) (sym (mod-eq_of_lt (omega (arith, h))))

pub uror_computes : (n : ℕ) (x y : List Lit) → IsPower (length x) → AreBelow n x → AreBelow n y → Computes Uror (length x) (length x) n (x ∷ y ∷ [])
unfolding circuit op_mean meaning residue
uror_computes n x y e f g = record {
  block = moved_block turned_down x y n (record { size = turned_length; below = λ m d xs le. turned_below m d xs }) f g;
  value = λ α t h.
      let w : ℕ = length x in
      moved_is α turned_down (word α) (λ d v. turn d (w - d) v) x y n (down_changes α w) e h
      ∙ turn_rotated_back w (word α y % w) (word α x) (mod-lt (word α y) (power_positive w e)) (word_small α x);
}

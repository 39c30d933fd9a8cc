-- Laws of bits at every number of bits.
use Rattle.std.proofs.Common.{◌≡◌, ℕ, ◌+◌, ◌-◌, ◌*◌, ◌%◌, ◌^◌, ◌<◌, [], ◌∷◌, sym, ◌∙◌, ap, arith, mod-eq_of_lt, bit_and, bit_or, bit_xor, lt_of_le_of_lt}
use Rattle.std.specs.Int.{bit_at}
use Rattle.std.proofs.lemmas.Nat.{pow_pos, and_comm, or_comm, xor_comm, and_assoc, and_mask, and_le_l, or_lt, xor_lt, and-not}
use Rattle.std.proofs.lemmas.Nat.Bits.{bit_at_and, bit_at_or, bit_at_xor, same_from_bits, same_from_bits_below, bit_at-lt, bit_at_ones}
use lib.Bits.{and_self, or_self, xor_self, and_zero_r, or_zero_r, xor_zero_r, xor_assoc, xor_add_and}
use Rattle.nir_ops.specs.declared.op.Op.TheVariants.{Inot, Iand, Ior, Ixor}
use Rattle.op_eval.specs.Meaning.{meaning, op_mean}
use Rattle.op_eval.specs.Word.{residue}

pub or_assoc : (a b c : ℕ) → bit_or (bit_or a b) c ≡ bit_or a (bit_or b c)
or_assoc a b c = same_from_bits _ _ (λ i. simp (bit_at_or) (omega arith))

pub and_or : (a b c : ℕ) → bit_and a (bit_or b c) ≡ bit_or (bit_and a b) (bit_and a c)
and_or a b c = same_from_bits (bit_and a (bit_or b c)) (bit_or (bit_and a b) (bit_and a c)) (λ i.
    simp (bit_at_and, bit_at_or) (omega arith))

pub and_is : (w x y : ℕ) → x < 2 ^ w → op_mean Iand w w (x ∷ y ∷ []) ≡ bit_and x y
unfolding op_mean meaning residue
and_is w x y h = mod-eq_of_lt (lt_of_le_of_lt (and_le_l x y) h)

pub or_is : (w x y : ℕ) → x < 2 ^ w → y < 2 ^ w → op_mean Ior w w (x ∷ y ∷ []) ≡ bit_or x y
unfolding op_mean meaning residue
or_is w x y f g = mod-eq_of_lt (or_lt w x y f g)

pub xor_is : (w x y : ℕ) → x < 2 ^ w → y < 2 ^ w → op_mean Ixor w w (x ∷ y ∷ []) ≡ bit_xor x y
unfolding op_mean meaning residue
xor_is w x y f g = mod-eq_of_lt (xor_lt w x y f g)

pub not_is : (w x : ℕ) → op_mean Inot w w (x ∷ []) ≡ 2 ^ w - 1 - x
unfolding op_mean meaning residue
not_is w x = let p : 0 < 2 ^ w = pow_pos w in mod-eq_of_lt (omega arith)

pub iand_commutes : (w x y : ℕ) → op_mean Iand w w (x ∷ y ∷ []) ≡ op_mean Iand w w (y ∷ x ∷ [])
unfolding op_mean meaning residue
iand_commutes w x y = ap (λ n. n % 2 ^ w) (and_comm x y)

pub iand_associates : (w x y z : ℕ) → x < 2 ^ w → y < 2 ^ w → op_mean Iand w w (op_mean Iand w w (x ∷ y ∷ []) ∷ z ∷ []) ≡ op_mean Iand w w (x ∷ op_mean Iand w w (y ∷ z ∷ []) ∷ [])
iand_associates w x y z f g = rw (and_is w x y f, and_is w y z g, and_is w (bit_and x y) z (lt_of_le_of_lt (and_le_l x y) f), and_is w x (bit_and y z) f) (and_assoc z x y)

pub iand_itself : (w x : ℕ) → x < 2 ^ w → op_mean Iand w w (x ∷ x ∷ []) ≡ x
iand_itself w x h = and_is w x x h ∙ and_self x

pub iand_zero : (w x : ℕ) → x < 2 ^ w → op_mean Iand w w (x ∷ 0 ∷ []) ≡ 0
iand_zero w x h = and_is w x 0 h ∙ and_zero_r x

pub iand_ones : (w x : ℕ) → x < 2 ^ w → op_mean Iand w w (x ∷ (2 ^ w - 1) ∷ []) ≡ x
iand_ones w x h = and_is w x (2 ^ w - 1) h ∙ and_mask x w ∙ mod-eq_of_lt h

pub ixor_itself : (w x : ℕ) → x < 2 ^ w → op_mean Ixor w w (x ∷ x ∷ []) ≡ 0
ixor_itself w x h = xor_is w x x h h ∙ xor_self x

pub inot_is_ixor : (w x : ℕ) → x < 2 ^ w → op_mean Inot w w (x ∷ []) ≡ op_mean Ixor w w (x ∷ (2 ^ w - 1) ∷ [])
inot_is_ixor w x h =
    let p : 0 < 2 ^ w = pow_pos w in
    let both : bit_and x (2 ^ w - 1) ≡ x = and_mask x w ∙ mod-eq_of_lt h in
    let sum : bit_xor x (2 ^ w - 1) + bit_and x (2 ^ w - 1) * 2 ≡ x + (2 ^ w - 1) = xor_add_and x (2 ^ w - 1) in
    not_is w x ∙ sym (xor_is w x (2 ^ w - 1) h (omega arith) ∙ omega (arith, both, sum))

pub iand_distributes : (w x y z : ℕ) → x < 2 ^ w → y < 2 ^ w → z < 2 ^ w → op_mean Iand w w (x ∷ op_mean Ior w w (y ∷ z ∷ []) ∷ []) ≡ op_mean Ior w w (op_mean Iand w w (x ∷ y ∷ []) ∷ op_mean Iand w w (x ∷ z ∷ []) ∷ [])
iand_distributes w x y z f g h =
    let left : bit_and x y < 2 ^ w = lt_of_le_of_lt (and_le_l x y) f in
    let right : bit_and x z < 2 ^ w = lt_of_le_of_lt (and_le_l x z) f in
    rw (and_is w x y f, and_is w x z f, or_is w y z g h, or_is w (bit_and x y) (bit_and x z) left right, and_is w x (bit_or y z) f) (and_or x y z)

pub not_not : (w x : ℕ) → x < 2 ^ w → op_mean Inot w w (op_mean Inot w w (x ∷ []) ∷ []) ≡ x
not_not w x h = rw (not_is w x, not_is w (2 ^ w - 1 - x)) (omega arith)

pub ior_commutes : (w x y : ℕ) → op_mean Ior w w (x ∷ y ∷ []) ≡ op_mean Ior w w (y ∷ x ∷ [])
unfolding op_mean meaning residue
ior_commutes w x y = ap (λ n. n % 2 ^ w) (or_comm x y)

pub ior_associates : (w x y z : ℕ) → x < 2 ^ w → y < 2 ^ w → z < 2 ^ w → op_mean Ior w w (op_mean Ior w w (x ∷ y ∷ []) ∷ z ∷ []) ≡ op_mean Ior w w (x ∷ op_mean Ior w w (y ∷ z ∷ []) ∷ [])
ior_associates w x y z f g h = rw (or_is w x y f g, or_is w y z g h, or_is w (bit_or x y) z (or_lt w x y f g) h, or_is w x (bit_or y z) f (or_lt w y z g h)) (or_assoc x y z)

pub ior_itself : (w x : ℕ) → x < 2 ^ w → op_mean Ior w w (x ∷ x ∷ []) ≡ x
ior_itself w x h = or_is w x x h h ∙ or_self x

pub ior_zero : (w x : ℕ) → x < 2 ^ w → op_mean Ior w w (x ∷ 0 ∷ []) ≡ x
ior_zero w x h = or_is w x 0 h (pow_pos w) ∙ or_zero_r x

pub ixor_commutes : (w x y : ℕ) → op_mean Ixor w w (x ∷ y ∷ []) ≡ op_mean Ixor w w (y ∷ x ∷ [])
unfolding op_mean meaning residue
ixor_commutes w x y = ap (λ n. n % 2 ^ w) (xor_comm x y)

pub ixor_associates : (w x y z : ℕ) → x < 2 ^ w → y < 2 ^ w → z < 2 ^ w → op_mean Ixor w w (op_mean Ixor w w (x ∷ y ∷ []) ∷ z ∷ []) ≡ op_mean Ixor w w (x ∷ op_mean Ixor w w (y ∷ z ∷ []) ∷ [])
ixor_associates w x y z f g h = rw (xor_is w x y f g, xor_is w y z g h, xor_is w (bit_xor x y) z (xor_lt w x y f g) h, xor_is w x (bit_xor y z) f (xor_lt w y z g h)) (xor_assoc x y z)

pub ixor_zero : (w x : ℕ) → x < 2 ^ w → op_mean Ixor w w (x ∷ 0 ∷ []) ≡ x
ixor_zero w x h = xor_is w x 0 h (pow_pos w) ∙ xor_zero_r x

-- each bit negated, by the machine's exclusive or with ones
flipped : (w x : ℕ) → x < 2 ^ w → 2 ^ w - 1 - x ≡ bit_xor x (2 ^ w - 1)
flipped w x h =
    let both : bit_and x (2 ^ w - 1) ≡ x = and_mask x w ∙ mod-eq_of_lt h in
    let sum : bit_xor x (2 ^ w - 1) + bit_and x (2 ^ w - 1) * 2 ≡ x + (2 ^ w - 1) = xor_add_and x (2 ^ w - 1) in
    omega (arith, both, sum)

bit_at_flipped : (w x i : ℕ) → x < 2 ^ w → i < w → bit_at (2 ^ w - 1 - x) i ≡ 1 - bit_at x i
bit_at_flipped w x i h l =
    let b : bit_at x i < 2 = bit_at-lt x i in
    ap (λ n. bit_at n i) (flipped w x h) ∙ bit_at_xor x (2 ^ w - 1) i ∙ rw (bit_at_ones w i l) (omega arith)

pub inot_iand : (w x y : ℕ) → x < 2 ^ w → y < 2 ^ w → op_mean Inot w w (op_mean Iand w w (x ∷ y ∷ []) ∷ []) ≡ op_mean Ior w w (op_mean Inot w w (x ∷ []) ∷ op_mean Inot w w (y ∷ []) ∷ [])
inot_iand w x y f g =
    let p : 0 < 2 ^ w = pow_pos w in
    let both : bit_and x y < 2 ^ w = lt_of_le_of_lt (and_le_l x y) f in
    let nx : 2 ^ w - 1 - x < 2 ^ w = omega arith in
    let ny : 2 ^ w - 1 - y < 2 ^ w = omega arith in
    rw (and_is w x y f, not_is w x, not_is w y, not_is w (bit_and x y), or_is w (2 ^ w - 1 - x) (2 ^ w - 1 - y) nx ny)
    (same_from_bits_below w (2 ^ w - 1 - bit_and x y) (bit_or (2 ^ w - 1 - x) (2 ^ w - 1 - y)) (omega arith) (or_lt w (2 ^ w - 1 - x) (2 ^ w - 1 - y) nx ny)
    (λ i l. rw (bit_at_flipped w (bit_and x y) i both l, bit_at_or, bit_at_and x y i, bit_at_flipped w x i f l, bit_at_flipped w y i g l) (omega arith)))

pub iand_inot : (w x : ℕ) → x < 2 ^ w → op_mean Iand w w (x ∷ op_mean Inot w w (x ∷ []) ∷ []) ≡ 0
iand_inot w x h =
    let none : bit_and (2 ^ w - 1 - x) x + bit_and x x ≡ x = and-not w x x h h in
    rw (not_is w x, and_is w x (2 ^ w - 1 - x) h, and_comm x (2 ^ w - 1 - x)) (omega (arith, none, and_self x))

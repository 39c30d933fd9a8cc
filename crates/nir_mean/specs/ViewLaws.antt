-- What an opcode makes has as many components as the kind of its result says, each a word of its bit size, where kinds and sources fit.
use Rattle.std.specs.Prelude.{◌≡◌, refl, ℕ, zero, suc, ◌^◌, ◌<◌, ℤ, pos, negsuc, Bool, true, false, not, List, [], ◌∷◌, length, map, replicate, slice_index}
use Rattle.std.specs.List.{range_with_len}
use Rattle.std.proofs.Common.{sym, ◌∙◌, ap, subst, arith, lit<}
use Rattle.std.proofs.Math.Nat.{mod-lt}
use Rattle.std.proofs.lemmas.Nat.{pow_pos}
use Rattle.std.proofs.lemmas.List.FromFn.{length-map-range_with_len}
use Rattle.nir_ops.specs.declared.op.Op.{Op}
use Rattle.nir_ops.specs.declared.op.Op.TheVariants.{Vec2, Vec3, Vec4, BallIequal2, BallIequal3, BallIequal4, BanyInequal2, BanyInequal3, BanyInequal4}
use Rattle.nir_ops.specs.declared.width.Width.{Width}
use Rattle.nir_ops.specs.declared.width.Width.TheVariants.{W1, W8, W16, W32, W64}
use Rattle.nir_ops.specs.Opcodes.{op_info, row_of}
use Rattle.nir_ops.specs.Width.{width_bits}
use Rattle.op_eval.specs.Calls.{Fits, source_widths, unsized_width}
use Rattle.op_eval.specs.Meaning.{op_mean, meaning}
use Rattle.op_eval.specs.Views.{CountsFit, bit_of, column, shape_of, sources_equal, view_mean}
use Rattle.op_eval.specs.Word.{residue}
use Rattle.nir_ir.specs.declared.kind.Kind.{Kind}
use Rattle.nir_mean.specs.Known.{HasKind}

-- each component is a word of so many bits
abbrev pub AreWords : ℕ → List ℕ → Type 0
AreWords bits comps = (at : ℕ) → slice_index comps at < 2 ^ bits

-- the components of each source are words of its bit size
abbrev pub SourcesFit : List Width → List (List ℕ) → Type 0
SourcesFit [] [] = Unit {0}
SourcesFit [] (comps ∷ args) = ⊥
SourcesFit (width ∷ widths) [] = ⊥
SourcesFit (width ∷ widths) (comps ∷ args) = AreWords (width_bits width) comps × SourcesFit widths args

pub are_words-none : (bits : ℕ) → AreWords bits []
are_words-none bits at = pow_pos bits

pub are_words-cons : (bits comp : ℕ) (comps : List ℕ) → comp < 2 ^ bits → AreWords bits comps → AreWords bits (comp ∷ comps)
are_words-cons bits comp comps first rest zero = first
are_words-cons bits comp comps first rest (suc at) = rest at

pub are_words-map : {A : Type 0} (bits : ℕ) (f : A → ℕ) (list : List A) → ((a : A) → f a < 2 ^ bits) → AreWords bits (map f list)
are_words-map bits f [] h = are_words-none bits
are_words-map bits f (a ∷ list) h = are_words-cons bits (f a) (map f list) (h a) (are_words-map bits f list h)

-- the residue of an opcode is a word of the result
residue_word : (bits : ℕ) (z : ℤ) → residue bits z < 2 ^ bits
unfolding residue
residue_word bits (pos n) = mod-lt n (pow_pos bits)
residue_word bits (negsuc n) = let p : 0 < 2 ^ bits = pow_pos bits in omega arith

op_word : (op : Op) (w d : ℕ) (args : List ℕ) → op_mean op w d args < 2 ^ d
unfolding op_mean
op_word op w d args = residue_word d (meaning op w (slice_index args 0) (slice_index args 1) (slice_index args 2))

-- place by place
each_kind : (op : Op) (kind : Kind) (w : ℕ) (args : List (List ℕ)) → HasKind kind (map (λ at. op_mean op w (width_bits kind.width) (column at args)) (range_with_len 0 kind.count))
each_kind op kind w args = record {
  count = length-map-range_with_len (λ at. op_mean op w (width_bits kind.width) (column at args)) 0 kind.count;
  words = are_words-map (width_bits kind.width) (λ at. op_mean op w (width_bits kind.width) (column at args)) (range_with_len 0 kind.count) (λ at. op_word op w (width_bits kind.width) (column at args));
}

-- one truth value
two_below : (width : Width) → 1 < 2 ^ width_bits width
two_below W1 = lit< tt
two_below W8 = lit< tt
two_below W16 = lit< tt
two_below W32 = lit< tt
two_below W64 = lit< tt

bit_word : (width : Width) (test : Bool) → bit_of test < 2 ^ width_bits width
bit_word width true = two_below width
bit_word width false = pow_pos (width_bits width)

one_kind : (kind : Kind) (test : Bool) → 1 ≡ kind.count → HasKind kind (bit_of test ∷ [])
one_kind kind test one = record {
  count = one;
  words = are_words-cons (width_bits kind.width) (bit_of test) [] (bit_word kind.width test) (are_words-none (width_bits kind.width));
}

-- gathered from sources of the bit size of the result
gathered : (width : Width) (n : ℕ) (args : List (List ℕ)) → SourcesFit (replicate n width) args → (length (column 0 args) ≡ n) × AreWords (width_bits width) (column 0 args)
gathered width zero [] fit = (refl, are_words-none (width_bits width))
gathered width zero (comps ∷ args) fit = absurd fit
gathered width (suc n) [] fit = absurd fit
gathered width (suc n) (comps ∷ args) fit =
    let rest = gathered width n args fit.1 in
    (ap suc rest.0, are_words-cons (width_bits width) (slice_index comps 0) (column 0 args) (fit.0 0) rest.1)

gathered_kind : (kind : Kind) (n : ℕ) (widths : List Width) (args : List (List ℕ)) → replicate n kind.width ≡ widths → SourcesFit widths args → n ≡ kind.count → HasKind kind (column 0 args)
gathered_kind kind n widths args same fit counted =
    let both = gathered kind.width n args (subst (λ (list : List Width). SourcesFit list args) (sym same) fit) in
    record { count = both.0 ∙ counted; words = both.1 }

-- what an opcode makes of sources that fit
pub view_kind : (op : Op) (kind : Kind) (widths : List Width) (counts : List ℕ) (args : List (List ℕ))
    → Fits op kind.width widths → CountsFit op kind.count counts → SourcesFit widths args
    → HasKind kind (view_mean op (width_bits (unsized_width op kind.width widths)) (width_bits kind.width) kind.count args)
unfolding view_mean shape_of source_widths unsized_width op_info row_of
view_kind Vec2 kind widths counts args fits counted fit = gathered_kind kind 2 widths args fits.sources fit counted.result
view_kind Vec3 kind widths counts args fits counted fit = gathered_kind kind 3 widths args fits.sources fit counted.result
view_kind Vec4 kind widths counts args fits counted fit = gathered_kind kind 4 widths args fits.sources fit counted.result
view_kind BallIequal2 kind widths counts args fits counted fit = one_kind kind (sources_equal args) counted.result
view_kind BallIequal3 kind widths counts args fits counted fit = one_kind kind (sources_equal args) counted.result
view_kind BallIequal4 kind widths counts args fits counted fit = one_kind kind (sources_equal args) counted.result
view_kind BanyInequal2 kind widths counts args fits counted fit = one_kind kind (not (sources_equal args)) counted.result
view_kind BanyInequal3 kind widths counts args fits counted fit = one_kind kind (not (sources_equal args)) counted.result
view_kind BanyInequal4 kind widths counts args fits counted fit = one_kind kind (not (sources_equal args)) counted.result
view_kind op kind widths counts args fits counted fit = each_kind op kind (width_bits (unsized_width op kind.width widths)) args

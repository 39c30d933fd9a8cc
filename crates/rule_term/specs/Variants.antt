-- Variants of a rule, after nir_algebraic of Mesa's NIR: the commutative opcodes of its search side in preorder take one bit each of the variant's number, the lowest first; where it is 1 their first two sources change places.
use Rattle.std.specs.Prelude.{◌≡◌, ◌+◌, ◌/◌, ◌%◌, ◌^◌, min, ℕ, suc, Bool, true, ◌&&◌, List, [], ◌∷◌, ◌++◌, nat_eq, if◌then◌else◌}
use Rattle.std.proofs.Common.{drop}
use Rattle.nir_ops.specs.declared.op.Op.{Op}
use Rattle.nir_ops.specs.declared.width.Width.{Width}
use Rattle.nir_ops.specs.Opcodes.{op_info}
use Rattle.rule_term.specs.Holds.{values_of}
use Rattle.rule_term.specs.Rule.{Rule}
use Rattle.rule_term.specs.Swapped.{swapped_sizes, swapped_terms}
use Rattle.rule_term.specs.Terms.{Terms, Nil, VarThen, LitThen, AppThen}
use Rattle.rule_term.specs.Typings.{first_of, obeys, size_of}

abbrev pub is_commutative : Op → Bool
is_commutative op = nat_eq ((op_info op).props.0 % 2) 1

-- the sources of this opcode stand swapped
abbrev pub is_swapped : Op → ℕ → Bool
is_swapped op bits = is_commutative op && nat_eq (bits % 2) 1

-- the bits that are left behind the opcode, and behind terms
abbrev pub bits_left : Op → ℕ → ℕ
bits_left op bits = if is_commutative op then bits / 2 else bits

abbrev pub bits_behind : Terms → ℕ → ℕ
bits_behind Nil bits = bits
bits_behind (VarThen var constant size cond rest) bits = bits_behind rest bits
bits_behind (LitThen value boolean rest) bits = bits_behind rest bits
bits_behind (AppThen op size once args rest) bits = bits_behind rest (bits_behind args (bits_left op bits))

-- how many commutative opcodes there are, and how many variants
abbrev pub commutes : Terms → ℕ
commutes Nil = 0
commutes (VarThen var constant size cond rest) = commutes rest
commutes (LitThen value boolean rest) = commutes rest
commutes (AppThen op size once args rest) = (if is_commutative op then 1 else 0) + commutes args + commutes rest

abbrev pub variant_count : Rule → ℕ
variant_count rule = 2 ^ min 8 (commutes rule.search)

-- the terms of a variant
abbrev pub variant_of : Terms → ℕ → Terms
variant_of Nil bits = Nil
variant_of (VarThen var constant size cond rest) bits = VarThen var constant size cond (variant_of rest bits)
variant_of (LitThen value boolean rest) bits = LitThen value boolean (variant_of rest bits)
variant_of (AppThen op size once args rest) bits =
    AppThen op size once (swapped_terms (is_swapped op bits) (variant_of args (bits_left op bits))) (variant_of rest (bits_behind args (bits_left op bits)))

-- the sizes of a variant's nodes in preorder, where the nodes of the terms have these: each node keeps its size
abbrev pub variant_sizes : Terms → ℕ → List Width → List Width
variant_sizes Nil bits widths = []
variant_sizes (VarThen var constant size cond rest) bits widths = first_of widths ∷ variant_sizes rest bits (drop 1 widths)
variant_sizes (LitThen value boolean rest) bits widths = first_of widths ∷ variant_sizes rest bits (drop 1 widths)
variant_sizes (AppThen op size once args rest) bits widths =
    first_of widths
    ∷ swapped_sizes (is_swapped op bits) (variant_of args (bits_left op bits)) (variant_sizes args (bits_left op bits) (drop 1 widths))
    ++ variant_sizes rest (bits_behind args (bits_left op bits)) (drop (suc (size_of args)) widths)

-- at all sizes that fit the opcodes, and for all values of the variables, a variant has the value of the terms
abbrev pub VariantsKeepValues : Type 0
VariantsKeepValues =
    (terms : Terms) (variant : ℕ) (widths : List Width) (values : List ℕ) → obeys terms widths ≡ true
    → values_of (variant_of terms variant) (variant_sizes terms variant widths) values ≡ values_of terms widths values

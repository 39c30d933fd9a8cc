-- The laws by which derivations go, in the order of their numbers from 1 on: equations of bit-vector arithmetic, as SMT-LIB's theory FixedSizeBitVectors has them.
use Rattle.std.specs.Prelude.{ℕ, ℤ, pos, negsuc, Bool, true, false, List, [], ◌∷◌, ◌++◌, Option, Some, None}
use Rattle.nir_ops.specs.declared.op.Op.{Op}
use Rattle.nir_ops.specs.declared.op.Op.TheVariants.{Iadd, Isub, Imul, Ineg, Idiv, Udiv, Irem, Umod, Ishl, Ushr, Inot, Iand, Ior, Ixor, Ilt, Ige, Ult, Uge, Ieq, Ine, Bcsel, Imin, Imax, Umin, Umax, FindLsb}
use Rattle.nir_ops.specs.declared.width.Width.{Width}
use Rattle.nir_ops.specs.Opcodes.{op_info}
use Rattle.nir_ops.specs.Width.{width_bits}
use Rattle.op_eval.specs.Calls.{result_width, source_widths}
use Rattle.op_eval.specs.Word.{residue}
use Rattle.rule_term.specs.declared.cond.Cond.{Cond}
use Rattle.rule_term.specs.declared.cond.Cond.TheVariants.{PosPow2, NegPow2}
use Rattle.law_derive.specs.declared.law.LawNode.{LawNode}
use Rattle.law_derive.specs.declared.law.LawNode.TheVariants.{App, Letter, Lit}
use Rattle.law_derive.specs.declared.node.Kind.TheVariants as kind
use Rattle.law_derive.specs.declared.node.Node.{Node}

-- both sides in preorder, whether the law is one of 1 bit too, and the condition on the letter c
pub record Law : Type 0 where
  pub left : List LawNode
  pub right : List LawNode
  pub bit : Bool
  pub cond : Option Cond

-- ---- sides

abbrev pub Side : Type 0
Side = List LawNode

abbrev pub letter : ℕ → Side
letter k = Letter k ∷ []

-- x, y and z have the law's size, b has 1 bit, and c may be asked for a condition
abbrev pub x : Side
x = letter 0

abbrev pub y : Side
y = letter 1

abbrev pub z : Side
z = letter 2

abbrev pub b : Side
b = letter 3

abbrev pub c : Side
c = letter 4

abbrev pub number : ℤ → Side
number value = Lit value false ∷ []

abbrev pub zero : Side
zero = number (pos 0)

abbrev pub one : Side
one = number (pos 1)

-- the word of all ones
abbrev pub ones : Side
ones = number (negsuc 0)

abbrev pub yes : Side
yes = Lit (pos 1) true ∷ []

abbrev pub no : Side
no = Lit (pos 0) true ∷ []

abbrev pub of1 : Op → Side → Side
of1 op s = App op ∷ s

abbrev pub of2 : Op → Side → Side → Side
of2 op s t = App op ∷ s ++ t

abbrev pub of3 : Op → Side → Side → Side → Side
of3 op s t u = App op ∷ s ++ (t ++ u)

-- ---- laws

-- a law from 8 bits on, one of every size, and one that asks for a condition
abbrev pub wide : Side → Side → Law
wide left right = record { left = left; right = right; bit = false; cond = None }

abbrev pub every : Side → Side → Law
every left right = record { left = left; right = right; bit = true; cond = None }

abbrev pub where_c : Cond → Side → Side → Law
where_c cond left right = record { left = left; right = right; bit = false; cond = Some cond }

abbrev pub laws : List Law
laws =
    wide (of2 Iadd x y) (of2 Iadd y x)
    ∷ wide (of2 Iadd (of2 Iadd x y) z) (of2 Iadd x (of2 Iadd y z))
    ∷ wide (of2 Iadd x zero) x
    ∷ wide (of2 Iadd x (of1 Ineg x)) zero
    ∷ wide (of2 Isub x y) (of2 Iadd x (of1 Ineg y))
    ∷ wide (of1 Ineg (of1 Ineg x)) x
    ∷ wide (of1 Ineg x) (of2 Iadd (of1 Inot x) one)
    ∷ wide (of2 Idiv x one) x
    ∷ wide (of2 Imul x y) (of2 Imul y x)
    ∷ wide (of2 Imul (of2 Imul x y) z) (of2 Imul x (of2 Imul y z))
    ∷ wide (of2 Imul x zero) zero
    ∷ wide (of2 Imul x one) x
    ∷ wide (of2 Imul x (of2 Iadd y z)) (of2 Iadd (of2 Imul x y) (of2 Imul x z))
    ∷ wide (of2 Imul x ones) (of1 Ineg x)
    ∷ where_c PosPow2 (of2 Imul x c) (of2 Ishl x (of1 FindLsb c))
    ∷ where_c NegPow2 (of2 Imul x c) (of1 Ineg (of2 Ishl x (of1 FindLsb c)))
    ∷ every (of2 Iand x y) (of2 Iand y x)
    ∷ every (of2 Iand (of2 Iand x y) z) (of2 Iand x (of2 Iand y z))
    ∷ every (of2 Iand x x) x
    ∷ every (of2 Iand x zero) zero
    ∷ every (of2 Iand x ones) x
    ∷ every (of2 Ior x y) (of2 Ior y x)
    ∷ every (of2 Ior (of2 Ior x y) z) (of2 Ior x (of2 Ior y z))
    ∷ every (of2 Ior x x) x
    ∷ every (of2 Ior x zero) x
    ∷ every (of2 Ixor x y) (of2 Ixor y x)
    ∷ every (of2 Ixor (of2 Ixor x y) z) (of2 Ixor x (of2 Ixor y z))
    ∷ every (of2 Ixor x x) zero
    ∷ every (of2 Ixor x zero) x
    ∷ every (of1 Inot x) (of2 Ixor x ones)
    ∷ every (of1 Inot (of2 Iand x y)) (of2 Ior (of1 Inot x) (of1 Inot y))
    ∷ every (of2 Iand x (of2 Ior y z)) (of2 Ior (of2 Iand x y) (of2 Iand x z))
    ∷ every (of2 Iand x (of1 Inot x)) zero
    ∷ wide (of2 Irem x one) zero
    ∷ every (of2 Ieq x x) yes
    ∷ every (of2 Ieq x y) (of2 Ieq y x)
    ∷ every (of2 Ine x y) (of1 Inot (of2 Ieq x y))
    ∷ wide (of2 Ige x y) (of1 Inot (of2 Ilt x y))
    ∷ wide (of2 Uge x y) (of1 Inot (of2 Ult x y))
    ∷ wide (of2 Ilt x x) no
    ∷ wide (of2 Ult x x) no
    ∷ wide (of2 Ieq (of2 Isub x y) zero) (of2 Ieq x y)
    ∷ wide (of2 Ult x zero) no
    ∷ wide (of2 Ult x one) (of2 Ieq x zero)
    ∷ every (of3 Bcsel yes x y) x
    ∷ every (of3 Bcsel no x y) y
    ∷ every (of3 Bcsel b x x) x
    ∷ every (of3 Bcsel (of1 Inot b) x y) (of3 Bcsel b y x)
    ∷ wide (of2 Imin x y) (of3 Bcsel (of2 Ilt x y) x y)
    ∷ wide (of2 Imax x y) (of3 Bcsel (of2 Ilt x y) y x)
    ∷ wide (of2 Umin x y) (of3 Bcsel (of2 Ult x y) x y)
    ∷ wide (of2 Umax x y) (of3 Bcsel (of2 Ult x y) y x)
    ∷ where_c PosPow2 (of2 Udiv x c) (of2 Ushr x (of1 FindLsb c))
    ∷ where_c PosPow2 (of2 Umod x c) (of2 Iand x (of2 Iadd c ones))
    ∷ wide (of2 Ishl x zero) x
    ∷ wide (of2 Ushr x zero) x
    ∷ []

-- ---- a side at a size

-- the unsized bit size of an opcode whose result has this size, where the law has that one
abbrev pub unsized_in : Width → Option Width → Width → Width
unsized_in width None size = size
unsized_in width (Some fixed) size = width

-- the nodes of a side, where the terms that stand one after another have these sizes
abbrev pub sized : Width → List LawNode → List Width → List Node
sized width [] sizes = []
sized width (node ∷ rest) [] = []
sized width (App op ∷ rest) (size ∷ sizes) =
    record { kind = kind.App op; width = size } ∷ sized width rest (source_widths op (unsized_in width (op_info op).out.size size) ++ sizes)
sized width (Letter letter ∷ rest) (size ∷ sizes) = record { kind = kind.Var letter; width = size } ∷ sized width rest sizes
sized width (Lit value boolean ∷ rest) (size ∷ sizes) = record { kind = kind.Lit (residue (width_bits size) value); width = size } ∷ sized width rest sizes

-- the size of the value of a law: that of the result of its left side
abbrev pub root_size : Width → List LawNode → Width
root_size width [] = width
root_size width (App op ∷ rest) = result_width op width
root_size width (Letter letter ∷ rest) = width
root_size width (Lit value boolean ∷ rest) = width

abbrev pub left_at : Law → Width → List Node
left_at law width = sized width law.left (root_size width law.left ∷ [])

abbrev pub right_at : Law → Width → List Node
right_at law width = sized width law.right (root_size width law.left ∷ [])

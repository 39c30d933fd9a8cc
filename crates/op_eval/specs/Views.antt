-- Opcodes on lists of components: place by place, gathering, and comparing whole lists.
use Rattle.std.specs.Prelude.{ℕ, ◌≡◌, List, [], ◌∷◌, Bool, cond, not, map, length, nat_eq, slice_index}
use Rattle.std.specs.List.{range_with_len, slice_index_or}
use Rattle.std.specs.Cmp.Lexicographic.{pointwise}
use Rattle.nir_ops.specs.declared.op.Op.{Op}
use Rattle.nir_ops.specs.declared.op.Op.TheVariants.{Vec2, Vec3, Vec4, BallIequal2, BallIequal3, BallIequal4, BanyInequal2, BanyInequal3, BanyInequal4}
use Rattle.nir_ops.specs.declared.width.Width.{Width}
use Rattle.nir_ops.specs.Opcodes.{op_info}
use Rattle.op_eval.specs.declared.shape.Shape.{Shape}
use Rattle.op_eval.specs.declared.shape.Shape.TheVariants.{EachPlace, Gathers, AllEqual, SomeDiffer}
use Rattle.op_eval.specs.declared.view.View.{View}
use Rattle.op_eval.specs.Meaning.{op_mean}

unfoldable pub shape_of : Op → Shape
shape_of Vec2 = Gathers
shape_of Vec3 = Gathers
shape_of Vec4 = Gathers
shape_of BallIequal2 = AllEqual
shape_of BallIequal3 = AllEqual
shape_of BallIequal4 = AllEqual
shape_of BanyInequal2 = SomeDiffer
shape_of BanyInequal3 = SomeDiffer
shape_of BanyInequal4 = SomeDiffer
shape_of op = EachPlace

-- the components at one place
abbrev pub column : ℕ → List (List ℕ) → List ℕ
column at args = map (λ comps. slice_index comps at) args

abbrev pub bit_of : Bool → ℕ
bit_of test = cond test 1 0

-- whether the lists of the two sources are equal
abbrev pub sources_equal : List (List ℕ) → Bool
sources_equal args = pointwise nat_eq (slice_index_or args 0 []) (slice_index_or args 1 [])

abbrev pub shape_mean : Shape → Op → ℕ → ℕ → ℕ → List (List ℕ) → List ℕ
shape_mean EachPlace op w d count args = map (λ at. op_mean op w d (column at args)) (range_with_len 0 count)
shape_mean Gathers op w d count args = column 0 args
shape_mean AllEqual op w d count args = bit_of (sources_equal args) ∷ []
shape_mean SomeDiffer op w d count args = bit_of (not (sources_equal args)) ∷ []

-- the components of d bits that the opcode makes of the lists of its sources at the unsized bit size w, where its result has so many
unfoldable pub view_mean : Op → ℕ → ℕ → ℕ → List (List ℕ) → List ℕ
view_mean op w d count args = shape_mean (shape_of op) op w d count args

-- so many components, where 0 means as many as the result has
abbrev pub count_at : ℕ → ℕ → ℕ
count_at fixed count = cond (nat_eq fixed 0) count fixed

-- a result and sources of so many components fit the opcode
pub record CountsFit (op : Op) (count : ℕ) (counts : List ℕ) : Type 0 where
  pub result : count_at (op_info op).out_count count ≡ count
  pub sources : map (λ input. count_at input.count count) (op_info op).inputs ≡ counts

-- the bit sizes, the components and the numbers of components of views
abbrev pub views_widths : List View → List Width
views_widths views = map (λ view. view.width) views

abbrev pub views_comps : List View → List (List ℕ)
views_comps views = map (λ view. view.comps) views

abbrev pub views_counts : List View → List ℕ
views_counts views = map (λ view. length view.comps) views

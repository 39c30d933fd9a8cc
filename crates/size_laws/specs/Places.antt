-- Rules over places: two places have one size, or the size of one place passes a test. Classes of places, each named by its first; the lists of sizes that are built place by place.
use Rattle.std.specs.Prelude.{◌*◌, ℕ, zero, suc, Bool, true, not, ◌&&◌, ◌||◌, cond, List, [], ◌∷◌, ◌++◌, length, map, filter, nat_eq, nat_lt}
use Rattle.std.specs.List.{flat_map, slice_index_or}
use Rattle.nir_ops.specs.declared.width.Width.{Width}
use Rattle.nir_ops.specs.declared.width.Width.TheVariants.{W1, W8, W16, W32, W64}
use Rattle.op_eval.specs.Calls.{same_width}

-- two places have one size, or the size of a place passes a test
pub data SizeRule : Type 0 where
  Same : ℕ → ℕ → SizeRule
  Only : ℕ → (Width → Bool) → SizeRule

-- all sizes, and the size at a place
abbrev pub all_widths : List Width
all_widths = W1 ∷ W8 ∷ W16 ∷ W32 ∷ W64 ∷ []

abbrev pub at : List Width → ℕ → Width
at widths place = slice_index_or widths place W1

-- sizes obey rules
abbrev pub holds : (ℕ → Width) → SizeRule → Bool
holds w (Same p q) = same_width (w p) (w q)
holds w (Only p test) = test (w p)

abbrev pub all_hold : (ℕ → Width) → List SizeRule → Bool
all_hold w [] = true
all_hold w (rule ∷ rules) = holds w rule && all_hold w rules

-- rules name places below a number
abbrev pub within : ℕ → SizeRule → Bool
within n (Same p q) = nat_lt p n && nat_lt q n
within n (Only p test) = nat_lt p n

abbrev pub all_within : ℕ → List SizeRule → Bool
all_within n [] = true
all_within n (rule ∷ rules) = within n rule && all_within n rules

-- two classes made one, named by the smaller of their places
abbrev pub redirect : ℕ → ℕ → ℕ → ℕ
redirect from to i = cond (nat_eq i from) to i

abbrev pub merge : (ℕ → ℕ) → ℕ → ℕ → ℕ → ℕ
merge f p q i = cond (nat_lt (f p) (f q)) (redirect (f q) (f p) (f i)) (redirect (f p) (f q) (f i))

-- the classes of places that have one size by rules; a class is named by its first place
abbrev pub merged_by : (ℕ → ℕ) → SizeRule → ℕ → ℕ
merged_by f (Same p q) i = merge f p q i
merged_by f (Only p test) i = f i

abbrev pub classes_from : (ℕ → ℕ) → List SizeRule → ℕ → ℕ
classes_from f [] = f
classes_from f (rule ∷ rules) = classes_from (merged_by f rule) rules

abbrev pub classes : List SizeRule → ℕ → ℕ
classes rules = classes_from (λ i. i) rules

-- a size passes what is asked of the places of a class
abbrev pub passes_at : (ℕ → ℕ) → ℕ → Width → SizeRule → Bool
passes_at f c w (Same p q) = true
passes_at f c w (Only p test) = not (nat_eq (f p) c) || test w

abbrev pub allowed : (ℕ → ℕ) → List SizeRule → ℕ → Width → Bool
allowed f [] c w = true
allowed f (rule ∷ rules) c w = passes_at f c w rule && allowed f rules c w

-- a size at a place, behind the sizes of the places before it
abbrev pub fits : (ℕ → ℕ) → (ℕ → Width → Bool) → List Width → ℕ → Width → Bool
fits f ok before place w = cond (nat_eq (f place) place) (ok place w) (same_width w (at before (f place)))

-- so many sizes fit, each behind those before it
abbrev pub fit_below : (ℕ → ℕ) → (ℕ → Width → Bool) → List Width → ℕ → Bool
fit_below f ok widths zero = true
fit_below f ok widths (suc k) = fit_below f ok widths k && fits f ok widths k (at widths k)

-- the lists of so many sizes, place by place
abbrev pub longer : List Width → Width → List Width
longer list w = list ++ (w ∷ [])

abbrev pub grown : (ℕ → ℕ) → (ℕ → Width → Bool) → ℕ → List Width → List (List Width)
grown f ok place list = map (longer list) (filter (fits f ok list place) all_widths)

abbrev pub product : (ℕ → ℕ) → (ℕ → Width → Bool) → ℕ → List (List Width)
product f ok zero = [] ∷ []
product f ok (suc k) = flat_map (grown f ok k) (product f ok k)

-- how many sizes a place can have, and how many lists that makes
abbrev pub choices : (ℕ → ℕ) → (ℕ → Width → Bool) → ℕ → ℕ
choices f ok place = cond (nat_eq (f place) place) (length (filter (ok place) all_widths)) 1

abbrev pub count : (ℕ → ℕ) → (ℕ → Width → Bool) → ℕ → ℕ
count f ok zero = 1
count f ok (suc k) = count f ok k * choices f ok k

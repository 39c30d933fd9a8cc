-- Where a set of names finds one is its place in the list of them.
use Rattle.std.proofs.Common.{◌≡◌, ℕ, suc, ◌+◌, Bool, true, false, cond, ◌||◌, List, [], ◌∷◌, map, Option, None, Some, is_some, position, Bor, ap, ◌∙◌, refl, arith, option_map}
use Rattle.std.specs.Cmp.Lexicographic.{nat_list_eq_equiv}
use Rattle.std.specs.List.{list_any, position_from}
use Rattle.std.specs.Str.{bytes_eq}
use Rattle.std.proofs.lemmas.Iterator.Adapters.{position_from-zero}
use Rattle.nir_text.specs.Naming.{place_of}

-- what the first item says of a list whose rest has the place r
placed : (i : ℕ) (b : Bool) (r : Option ℕ) → cond b (Some i) (option_map (λ n. i + 1 + n) r) ≡ option_map (λ n. i + n) (cond b (Some 0) (option_map suc r))
placed i true r = ap Some (omega arith)
placed i false None = refl
placed i false (Some n) = ap Some (omega arith)

from_zero : (r : Option ℕ) → option_map (λ n. 0 + n) r ≡ r
from_zero None = refl
from_zero (Some n) = ap Some (omega arith)

is_placed : (b : Bool) (r : Option ℕ) → (b || is_some r) ≡ is_some (cond b (Some 0) (option_map suc r))
is_placed true r = refl
is_placed false None = refl
is_placed false (Some n) = refl

abbrev names_of : List (Bor (List ℕ)) → List (List ℕ)
names_of keys = map (λ key. key.now) keys

from-place_of : (name : List ℕ) (keys : List (Bor (List ℕ))) (i : ℕ)
    → position_from (λ key. bytes_eq name key.now) i keys ≡ option_map (λ n. i + n) (place_of name (names_of keys))
from-place_of name [] i = refl
from-place_of name (key ∷ keys) i =
    ap (λ r. cond (bytes_eq name key.now) (Some i) r) (from-place_of name keys (i + 1))
    ∙ placed i (bytes_eq name key.now) (place_of name (names_of keys))
    ∙ ap (λ b. option_map (λ n. i + n) (cond b (Some 0) (option_map suc (place_of name (names_of keys))))) (nat_list_eq_equiv.symm name key.now)

pub position-place_of : (name : List ℕ) (keys : List (Bor (List ℕ))) → position (λ key. bytes_eq name key.now) keys ≡ place_of name (names_of keys)
position-place_of name keys =
    position_from-zero (λ (key : Bor (List ℕ)). bytes_eq name key.now) keys ∙ from-place_of name keys 0 ∙ from_zero (place_of name (names_of keys))

pub list_any-place_of : (name : List ℕ) (keys : List (Bor (List ℕ))) → list_any (λ key. bytes_eq name key.now) keys ≡ is_some (place_of name (names_of keys))
list_any-place_of name [] = refl
list_any-place_of name (key ∷ keys) =
    ap (λ b. bytes_eq name key.now || b) (list_any-place_of name keys)
    ∙ is_placed (bytes_eq name key.now) (place_of name (names_of keys))
    ∙ ap (λ b. is_some (cond b (Some 0) (option_map suc (place_of name (names_of keys))))) (nat_list_eq_equiv.symm name key.now)

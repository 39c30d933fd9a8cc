-- Laws of options: of two, of which the first counts; of answers under a test; of what is found in a list.
use Rattle.std.specs.Prelude.{◌≡◌, refl, Bool, true, false, Option, Some, None, List, [], ◌∷◌, if◌then◌else◌, cond}
use Rattle.std.specs.List.{find}
use Rattle.std.specs.Option.{option_and_then, option_map, option_or}
use Rattle.std.proofs.Common.{sym, ◌∙◌, ap}
use Rattle.std.proofs.lemmas.Option.{none-some, same_Some}

pub option_or-none : {A : Type 0} (found : Option A) → option_or found None ≡ found
option_or-none None = refl
option_or-none (Some a) = refl

pub option_or-assoc : {A : Type 0} (a b c : Option A) → option_or (option_or a b) c ≡ option_or a (option_or b c)
option_or-assoc None b c = refl
option_or-assoc (Some x) b c = refl

-- what was answered under a test
pub if_some : {A : Type 0} (test : Bool) (answer : Option A) (a : A) → (if test then answer else None) ≡ Some a → (test ≡ true) × (answer ≡ Some a)
if_some true answer a h = (refl, h)
if_some false answer a h = absurd (none-some a h)

-- an answer that was made from an earlier one
pub record Between {A B : Type 0} (first : Option A) (f : A → Option B) (b : B) : Type 0 where
  pub middle : A
  pub before : first ≡ Some middle
  pub behind : f middle ≡ Some b

pub between : {A B : Type 0} (first : Option A) (f : A → Option B) (b : B) → option_and_then f first ≡ Some b → Between first f b
between None f b h = absurd (none-some b h)
between (Some a) f b h = record { middle = a; before = refl; behind = h }

pub record Mapped {A B : Type 0} (f : A → B) (first : Option A) (b : B) : Type 0 where
  pub middle : A
  pub before : first ≡ Some middle
  pub behind : f middle ≡ b

pub mapped : {A B : Type 0} (f : A → B) (first : Option A) (b : B) → option_map f first ≡ Some b → Mapped f first b
mapped f None b h = absurd (none-some b h)
mapped f (Some a) b h = record { middle = a; before = refl; behind = same_Some (f a) b h }

-- what is found passes the test
found_here : {A : Type 0} (test : A → Bool) (a : A) (more : Option A) (x : A) (here : Bool) → test a ≡ here → cond here (Some a) more ≡ Some x → (more ≡ Some x → test x ≡ true) → test x ≡ true
found_here test a more x true is h others = ap test (sym (same_Some a x h)) ∙ is
found_here test a more x false is h others = others h

pub found_passes : {A : Type 0} (test : A → Bool) (list : List A) (x : A) → find test list ≡ Some x → test x ≡ true
found_passes test [] x h = absurd (none-some x h)
found_passes test (a ∷ list) x h = found_here test a (find test list) x (test a) refl h (found_passes test list x)

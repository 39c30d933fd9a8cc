-- The least of faults in parts: the earlier of the least of each.
use Rattle.std.specs.Prelude.{◌≡◌, refl, ℕ, Bool, true, false, ◌||◌, ◌&&◌, cond, nat_eq, nat_lt, List, [], ◌∷◌, ◌++◌, Option, Some, None}
use Rattle.std.proofs.Common.{sym, ◌∙◌, ap, arith}
use Rattle.std.proofs.lemmas.Bool.{cond-true, cond-false}
use Rattle.std.proofs.lemmas.Bool.Decides.{nat_tests}
use Rattle.std.proofs.lemmas.Option.{none-some}
use Rattle.nir_validate.specs.Valid.{Fault, earlier, is_before, least}

-- the earlier of two, where both are given
abbrev pub sooner : Option Fault → Option Fault → Option Fault
sooner None other = other
sooner (Some fault) other = Some (earlier fault other)

comes_before : ℕ → ℕ → ℕ → ℕ → Bool
comes_before i r j s = nat_lt i j || (nat_eq i j && nat_lt r s)

before-trans : (i r j s k t : ℕ) → comes_before i r j s ≡ true → comes_before j s k t ≡ true → comes_before i r k t ≡ true
unfolding comes_before
before-trans i r j s k t a b = grind (arith, nat_tests)

not_before-trans : (i r j s k t : ℕ) → comes_before i r j s ≡ false → comes_before j s k t ≡ false → comes_before i r k t ≡ false
unfolding comes_before
not_before-trans i r j s k t a b = grind (arith, nat_tests)

-- the earlier of two
abbrev first : Fault → Fault → Fault
first a b = cond (is_before b a) b a

first-assoc : (a b c : Fault) (bc ab ca : Bool) → is_before c b ≡ bc → is_before b a ≡ ab → is_before c a ≡ ca → first a (first b c) ≡ first (first a b) c
unfolding comes_before
first-assoc a b c true true ca bc ab is =
    ap (first a) (cond-true (is_before c b) c b bc)
    ∙ cond-true (is_before c a) c a (before-trans c.item c.rule b.item b.rule a.item a.rule bc ab)
    ∙ sym (ap (λ (f : Fault). first f c) (cond-true (is_before b a) b a ab) ∙ cond-true (is_before c b) c b bc)
first-assoc a b c true false ca bc ab is =
    ap (first a) (cond-true (is_before c b) c b bc)
    ∙ sym (ap (λ (f : Fault). first f c) (cond-false (is_before b a) b a ab))
first-assoc a b c false true ca bc ab is =
    ap (first a) (cond-false (is_before c b) c b bc)
    ∙ cond-true (is_before b a) b a ab
    ∙ sym (ap (λ (f : Fault). first f c) (cond-true (is_before b a) b a ab) ∙ cond-false (is_before c b) c b bc)
first-assoc a b c false false ca bc ab is =
    ap (first a) (cond-false (is_before c b) c b bc)
    ∙ cond-false (is_before b a) b a ab
    ∙ sym (ap (λ (f : Fault). first f c) (cond-false (is_before b a) b a ab)
    ∙ cond-false (is_before c a) c a (not_before-trans c.item c.rule b.item b.rule a.item a.rule bc ab))

pub sooner-assoc : (a b c : Option Fault) → sooner a (sooner b c) ≡ sooner (sooner a b) c
sooner-assoc None b c = refl
sooner-assoc (Some a) None c = refl
sooner-assoc (Some a) (Some b) None = refl
sooner-assoc (Some a) (Some b) (Some c) = ap {B = Option Fault} Some (first-assoc a b c (is_before c b) (is_before b a) (is_before c a) refl refl refl)

-- of two neither of which comes before the other, both are one
same_number : (i r j s : ℕ) → comes_before i r j s ≡ false → comes_before j s i r ≡ false → i ≡ j
unfolding comes_before
same_number i r j s a b = grind (arith, nat_tests)

same_rule : (i r j s : ℕ) → comes_before i r j s ≡ false → comes_before j s i r ≡ false → r ≡ s
unfolding comes_before
same_rule i r j s a b = grind (arith, nat_tests)

not_both : (i r j s : ℕ) → comes_before i r j s ≡ true → comes_before j s i r ≡ true → ⊥
unfolding comes_before
not_both i r j s a b = grind (arith, nat_tests)

first-comm : (a b : Fault) (ab ba : Bool) → is_before b a ≡ ab → is_before a b ≡ ba → first a b ≡ first b a
unfolding comes_before
first-comm a b true true ab ba = absurd (not_both b.item b.rule a.item a.rule ab ba)
first-comm a b true false ab ba = cond-true (is_before b a) b a ab ∙ sym (cond-false (is_before a b) a b ba)
first-comm a b false true ab ba = cond-false (is_before b a) b a ab ∙ sym (cond-true (is_before a b) a b ba)
first-comm a b false false ab ba =
    cond-false (is_before b a) b a ab
    ∙ (λ i. record { rule = same_rule a.item a.rule b.item b.rule ba ab i; item = same_number a.item a.rule b.item b.rule ba ab i })
    ∙ sym (cond-false (is_before a b) a b ba)

pub sooner-comm : (a b : Option Fault) → sooner a b ≡ sooner b a
sooner-comm None None = refl
sooner-comm None (Some b) = refl
sooner-comm (Some a) None = refl
sooner-comm (Some a) (Some b) = ap {B = Option Fault} Some (first-comm a b (is_before b a) (is_before a b) refl refl)

pub sooner-none : (a : Option Fault) → sooner a None ≡ a
sooner-none None = refl
sooner-none (Some a) = refl

pub least-append : (a b : List Fault) → least (a ++ b) ≡ sooner (least a) (least b)
least-append [] b = refl
least-append (fault ∷ a) b = ap (sooner (Some fault)) (least-append a b) ∙ sooner-assoc (Some fault) (least a) (least b)

-- there is a least fault exactly where there is a fault
pub least-none : (faults : List Fault) → least faults ≡ None → faults ≡ []
least-none [] is = refl
least-none (fault ∷ faults) is = absurd (none-some (earlier fault (least faults)) (sym is))

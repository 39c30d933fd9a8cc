-- Laws of gates: where their clauses are true each gate makes what it is to make, and values can be found gate by gate that make all clauses true.
use Rattle.std.proofs.Common.{◌≡◌, ℕ, suc, ◌+◌, List, [], ◌∷◌, ◌++◌, length, refl, sym, ◌∙◌, subst, arith, Bool, true, false, cond, not, ◌&&◌, ◌||◌, lt-suc_self, add-zero}
use Rattle.std.proofs.lemmas.Bool.{and_parts, and_from, ne_eqb, eq-eqb, false≢true}
use Rattle.circuit_laws.specs.Literals.{Lit, Is, IsNot, lit, some_of, all_of}
use Rattle.circuit_laws.specs.Gates.{Gate, And, Xor, Mux, gate_clauses, clauses_of, differ, gate_value, AreMade, IsBelow, SourcesBelow, AreOrdered, given, run}
use Rattle.circuit_laws.specs.WordLaws.{lit_negated}

-- ---- clauses of two parts

pub all_parts : (α : ℕ → Bool) (a b : List (List Lit)) → all_of α (a ++ b) ≡ true → (all_of α a ≡ true) × (all_of α b ≡ true)
all_parts α [] b h = (refl, h)
all_parts α (c ∷ cs) b h =
    let parts = and_parts (some_of α c) (all_of α (cs ++ b)) h in
    let rest = all_parts α cs b parts.1 in
    (and_from (some_of α c) (all_of α cs) parts.0 rest.0, rest.1)

pub all_joined : (α : ℕ → Bool) (a b : List (List Lit)) → all_of α a ≡ true → all_of α b ≡ true → all_of α (a ++ b) ≡ true
all_joined α [] b f g = g
all_joined α (c ∷ cs) b f g =
    let parts = and_parts (some_of α c) (all_of α cs) f in
    and_from (some_of α c) (all_of α (cs ++ b)) parts.0 (all_joined α cs b parts.1 g)

-- ---- what the clauses of a gate say, by truth tables

and_bits : (g p q : Bool) → ((not g || (p || false)) && ((not g || (q || false)) && ((g || (not p || (not q || false))) && true))) ≡ true → g ≡ (p && q)
and_bits true true true h = refl
and_bits true true false h = absurd (false≢true h)
and_bits true false q h = absurd (false≢true h)
and_bits false true true h = absurd (false≢true h)
and_bits false true false h = refl
and_bits false false q h = refl

xor_bits : (g p q : Bool) →
    ((not g || (p || (q || false))) && ((not g || (not p || (not q || false))) && ((g || (not p || (q || false))) && ((g || (p || (not q || false))) && true)))) ≡ true
    → g ≡ differ p q
xor_bits true true true h = absurd (false≢true h)
xor_bits true true false h = refl
xor_bits true false true h = refl
xor_bits true false false h = absurd (false≢true h)
xor_bits false true true h = refl
xor_bits false true false h = absurd (false≢true h)
xor_bits false false true h = absurd (false≢true h)
xor_bits false false false h = refl

mux_bits : (g s p q : Bool) →
    ((not s || (not p || (g || false))) && ((not s || (p || (not g || false))) && ((s || (not q || (g || false))) && ((s || (q || (not g || false))) && true)))) ≡ true
    → g ≡ cond s p q
mux_bits true true true q h = refl
mux_bits true true false q h = absurd (false≢true h)
mux_bits true false p true h = refl
mux_bits true false p false h = absurd (false≢true h)
mux_bits false true true q h = absurd (false≢true h)
mux_bits false true false q h = refl
mux_bits false false p true h = absurd (false≢true h)
mux_bits false false p false h = refl

gate_made : (α : ℕ → Bool) (n : ℕ) (g : Gate) → all_of α (gate_clauses n g) ≡ true → α n ≡ gate_value α g
gate_made α n (And p q) h = and_bits (α n) (lit α p) (lit α q) (simp (lit_negated) at h)
gate_made α n (Xor p q) h = xor_bits (α n) (lit α p) (lit α q) (simp (lit_negated) at h)
gate_made α n (Mux s p q) h = mux_bits (α n) (lit α s) (lit α p) (lit α q) (simp (lit_negated) at h)

-- clauses that are true say what each gate makes
pub made : (α : ℕ → Bool) (n : ℕ) (gs : List Gate) → all_of α (clauses_of n gs) ≡ true → AreMade α n gs
made α n [] h = tt
made α n (g ∷ gs) h =
    let parts = all_parts α (gate_clauses n g) (clauses_of (suc n) gs) h in
    (gate_made α n g parts.0, made α (suc n) gs parts.1)

-- ---- and the other way

and_full : (g p q : Bool) → g ≡ (p && q) → ((not g || (p || false)) && ((not g || (q || false)) && ((g || (not p || (not q || false))) && true))) ≡ true
and_full g true true e = rw e refl
and_full g true false e = rw e refl
and_full g false q e = rw e refl

xor_full : (g p q : Bool) → g ≡ differ p q
    → ((not g || (p || (q || false))) && ((not g || (not p || (not q || false))) && ((g || (not p || (q || false))) && ((g || (p || (not q || false))) && true)))) ≡ true
xor_full g true true e = rw e refl
xor_full g true false e = rw e refl
xor_full g false true e = rw e refl
xor_full g false false e = rw e refl

mux_full : (g s p q : Bool) → g ≡ cond s p q
    → ((not s || (not p || (g || false))) && ((not s || (p || (not g || false))) && ((s || (not q || (g || false))) && ((s || (q || (not g || false))) && true)))) ≡ true
mux_full g true true q e = rw e refl
mux_full g true false q e = rw e refl
mux_full g false p true e = rw e refl
mux_full g false p false e = rw e refl

gate_full : (α : ℕ → Bool) (n : ℕ) (g : Gate) → α n ≡ gate_value α g → all_of α (gate_clauses n g) ≡ true
gate_full α n (And p q) e = simp lit_negated (and_full (α n) (lit α p) (lit α q) e)
gate_full α n (Xor p q) e = simp lit_negated (xor_full (α n) (lit α p) (lit α q) e)
gate_full α n (Mux s p q) e = simp lit_negated (mux_full (α n) (lit α s) (lit α p) (lit α q) e)

-- where each gate makes what it is to make, all clauses are true
pub full : (α : ℕ → Bool) (n : ℕ) (gs : List Gate) → AreMade α n gs → all_of α (clauses_of n gs) ≡ true
full α n [] h = refl
full α n (g ∷ gs) h = all_joined α (gate_clauses n g) (clauses_of (suc n) gs) (gate_full α n g h.0) (full α (suc n) gs h.1)

-- ---- values gate by gate

lit_given : (α : ℕ → Bool) (n : ℕ) (b : Bool) (l : Lit) → IsBelow n l → lit (given α n b) l ≡ lit α l
lit_given α n b (Is v) h = rw (ne_eqb v n (λ e. omega (arith, e, h))) refl
lit_given α n b (IsNot v) h = rw (ne_eqb v n (λ e. omega (arith, e, h))) refl

-- what stands before the gates keeps its value
pub run_keeps : (α : ℕ → Bool) (n : ℕ) (gs : List Gate) (l : Lit) → IsBelow n l → lit (run α n gs) l ≡ lit α l
run_keeps α n [] l h = refl
run_keeps α n (g ∷ gs) l h = run_keeps (given α n (gate_value α g)) (suc n) gs l (omega (arith, h)) ∙ lit_given α n (gate_value α g) l h

value_kept : (α β : ℕ → Bool) (n : ℕ) (g : Gate) → ((l : Lit) → IsBelow n l → lit β l ≡ lit α l) → SourcesBelow n g → gate_value β g ≡ gate_value α g
value_kept α β n (And p q) k h = rw (k p h.0, k q h.1) refl
value_kept α β n (Xor p q) k h = rw (k p h.0, k q h.1) refl
value_kept α β n (Mux s p q) k h = rw (k s h.0, k p h.1, k q h.2) refl

-- the values found gate by gate are what the gates make
pub run_made : (α : ℕ → Bool) (n : ℕ) (gs : List Gate) → AreOrdered n gs → AreMade (run α n gs) n gs
run_made α n [] h = tt
run_made α n (g ∷ gs) h =
    let one : ℕ → Bool = given α n (gate_value α g) in
    let β : ℕ → Bool = run one (suc n) gs in
    let itself : β n ≡ gate_value α g = run_keeps one (suc n) gs (Is n) (lt-suc_self n) ∙ rw (eq-eqb n n refl) refl in
    let kept : gate_value β g ≡ gate_value α g = value_kept α β n g (λ l b. run_keeps α n (g ∷ gs) l b) h.0 in
    (itself ∙ sym kept, run_made one (suc n) gs h.1)

-- ---- gates of two parts

pub made_parts : (α : ℕ → Bool) (n : ℕ) (a b : List Gate) → AreMade α n (a ++ b) → AreMade α n a × AreMade α (n + length a) b
made_parts α n [] b h = (tt, subst (λ m. AreMade α m b) (sym (add-zero n)) h)
made_parts α n (g ∷ gs) b h =
    let rest = made_parts α (suc n) gs b h.1 in
    ((h.0, rest.0), subst (λ m. AreMade α m b) (omega arith) rest.1)

pub ordered_joined : (n : ℕ) (a b : List Gate) → AreOrdered n a → AreOrdered (n + length a) b → AreOrdered n (a ++ b)
ordered_joined n [] b f g = subst (λ m. AreOrdered m b) (add-zero n) g
ordered_joined n (x ∷ xs) b f g = (f.0, ordered_joined (suc n) xs b f.1 (subst (λ m. AreOrdered m b) (omega arith) g))

-- The first law of every grammar: what is read is spelled.
use Rattle.std.proofs.Common.{◌≡◌, ℕ, zero, suc, true, false, List, [], ◌∷◌, length, Option, Some, None, Result, Ok, Err, ◌⊎◌, inl, inr, ⊎_elim, refl, sym, ap, ◌∙◌, subst}
use Rattle.grammar.specs.Terminals.{Terminal, Class, has, starts}
use Rattle.grammar.specs.Grammar.{Vocabulary, Grammar, empty, terminal, sequence, choice, repetition, named, widened, Take}
use Rattle.grammar.specs.Lookahead.{Lookahead}
use Rattle.grammar.specs.Reading.{Reading, Reader, taken, read_terminal, takes_first, and_then, item_then, read_each, read, Outcome, stopped}
use Rattle.grammar.specs.Spelling.{Behind, Spelling, SpellsTerminal, SpellsEach, Spells}
use Rattle.list_laws.specs.BoolLaws.{chosen}

module _ (voc : Vocabulary) where
  -- ---- steps

  abbrev pub done : {A : Type 0} → Reading voc A → Outcome voc A
  done f = Ok f

  pub ok_is : {A : Type 0} (f g : Reading voc A) → done f ≡ done g → f ≡ g
  ok_is f g e = cc

  pub then_ok : {A B : Type 0} (r : Outcome voc A) (k : Reading voc A → Outcome voc B) (g : Reading voc B) → and_then voc r k ≡ Ok g
      → (f : Reading voc A) × (r ≡ Ok f) × (k f ≡ Ok g)
  then_ok (Ok f) k g e = (f, refl, e)
  then_ok (Err d) k g e = absurd cc

  pub then_goes : {A B : Type 0} (r : Outcome voc A) (k : Reading voc A → Outcome voc B) (f : Reading voc A) (g : Outcome voc B) → r ≡ Ok f → k f ≡ g
      → and_then voc r k ≡ g
  then_goes r k f g e h = ap (λ r. and_then voc r k) e ∙ h

  -- ---- one terminal

  abbrev pub gave : {A : Type 0} → A × voc.state → Result (A × voc.state) voc.fault
  gave t = Ok t

  pub takes_ok : {A : Type 0} (ts rest : List Terminal) (r : Result (A × voc.state) voc.fault) (f : Reading voc A) → taken voc ts r rest ≡ Ok f
      → (r ≡ Ok (f.value, f.state)) × (rest ≡ f.rest)
  takes_ok ts rest (Ok t) f e =
      let h = ok_is (record { value = t.0; state = t.1; rest = rest }) f e in
      subst (λ f. (gave t ≡ gave (f.value, f.state)) × (rest ≡ f.rest)) h (refl, refl)
  takes_ok ts rest (Err d) f e = absurd cc

  take_one_ok : {A : Type 0} (class : Class) (take : Take voc A) (x : voc.state) (ts : List Terminal) (f : Reading voc A)
      → read_terminal voc class take x ts ≡ Ok f → (K : Behind voc) → K f.state f.rest → SpellsTerminal voc class take x f.value K ts
  take_one_ok class take x [] f e K k = absurd cc
  take_one_ok {A} class take x (s ∷ ts) f e K k = go (chosen (has class s) _ _ _ e)
    where
      go : ((has class s ≡ true) × (taken voc (s ∷ ts) (take x s) ts ≡ Ok f)) ⊎ ((has class s ≡ false) × (stopped voc {A = A} voc.expected (s ∷ ts) ≡ Ok f))
          → SpellsTerminal voc class take x f.value K (s ∷ ts)
      go (inl h) =
          let t = takes_ok (s ∷ ts) ts (take x s) f h.1 in
          (f.state, h.0, t.0, subst (K f.state) (sym t.1) k)
      go (inr h) = absurd cc

  -- ---- what is read is spelled

  abbrev pub IsSound : {A : Type 0} → Spelling voc A → Reader voc A → Type 1
  IsSound {A} S R = (x : voc.state) (ts : List Terminal) (f : Reading voc A) → R x ts ≡ Ok f → (K : Behind voc) → K f.state f.rest → S x f.value K ts

  item_ok : {A : Type 0} (item : Spelling voc (Option A)) (x : voc.state) (ts : List Terminal) (o : Option A) (i : Reading voc (Option A))
      (k : Reader voc (List A)) (f : Reading voc (List A)) → item_then voc o i k ≡ Ok f → (K : Behind voc) → K f.state f.rest
      → ((J : Behind voc) → J i.state i.rest → item x o J ts) → IsSound (SpellsEach voc item) k → SpellsEach voc item x f.value K ts
  item_ok item x ts None i k f e K here step rest =
      let same = ok_is (record { value = []; state = i.state; rest = i.rest }) f e in
      subst (λ f. K f.state f.rest → SpellsEach voc item x f.value K ts) same (λ here. inr (step K here)) here
  item_ok item x ts (Some a) i k f e K here step rest =
      let t = then_ok (k i.state i.rest) (λ g. Ok (record { value = a ∷ g.value; state = g.state; rest = g.rest })) f e in
      let same = ok_is (record { value = a ∷ t.0.value; state = t.0.state; rest = t.0.rest }) f t.2 in
      subst (λ f. K f.state f.rest → SpellsEach voc item x f.value K ts) same
      (λ here. step (λ y. SpellsEach voc item y t.0.value K) (rest i.state i.rest t.0 t.1 K here)) here

  each_sound : {A : Type 0} (firsts : List Class) (S : Spelling voc (Option A)) (R : Reader voc (Option A)) → IsSound S R → (n : ℕ)
      → IsSound (SpellsEach voc S) (read_each voc firsts R n)
  each_sound firsts S R sound zero x ts f e K k =
      let same = ok_is (record { value = []; state = x; rest = ts }) f e in
      subst (λ f. K f.state f.rest → SpellsEach voc S x f.value K ts) same inl k
  each_sound firsts S R sound (suc n) x ts f e K k =
      ⊎_elim
      (λ h.
      let t = then_ok (R x ts) (λ f. item_then voc f.value f (read_each voc firsts R n)) f h.1 in
      item_ok S x ts t.0.value t.0 (read_each voc firsts R n) f t.2 K k (λ J j. sound x ts t.0 t.1 J j) (each_sound firsts S R sound n))
      (λ h.
      let same = ok_is (record { value = []; state = x; rest = ts }) f h.1 in
      subst (λ f. K f.state f.rest → SpellsEach voc S x f.value K ts) same inl k)
      (chosen (starts firsts ts) _ _ _ e)

  module _ (S : (n : voc.nonterminal) → Spelling voc (voc.denoted n)) (R : (n : voc.nonterminal) → Reader voc (voc.denoted n)) where
    pub read_is_spelled : ((n : voc.nonterminal) → IsSound (S n) (R n)) → {p : Lookahead} {A : Type 0} (g : Grammar voc p A)
        → IsSound (Spells voc S g) (read voc R g)
    read_is_spelled env (empty a) x ts f e K k =
        let same = ok_is (record { value = a; state = x; rest = ts }) f e in
        subst (λ f. K f.state f.rest → (a ≡ f.value) × K x ts) same (λ k. (refl, k)) k
    read_is_spelled env (terminal class take) x ts f e K k = take_one_ok class take x ts f e K k
    read_is_spelled env (sequence g h) x ts f e K k =
        let t = then_ok (read voc R g x ts) (λ f. read voc R (h f.value) f.state f.rest) f e in (
          t.0.value,
          read_is_spelled env g x ts t.0 t.1 (λ y. Spells voc S (h t.0.value) y f.value K)
              (read_is_spelled env (h t.0.value) t.0.state t.0.rest f t.2 K k),
        )
    read_is_spelled env (choice {p = p} {q = q} g h) x ts f e K k =
        ⊎_elim
        (λ t. inl (read_is_spelled env g x ts f t.1 K k))
        (λ t. inr (read_is_spelled env h x ts f t.1 K k))
        (chosen (takes_first voc p q ts) _ _ _ e)
    read_is_spelled env (repetition {p = p} g) x ts f e K k =
        each_sound p.firsts (Spells voc S g) (read voc R g) (read_is_spelled env g) (length ts) x ts f e K k
    read_is_spelled env (named n) x ts f e K k = env n x ts f e K k
    read_is_spelled env (widened q sub g) x ts f e K k = read_is_spelled env g x ts f e K k

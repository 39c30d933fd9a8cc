-- A reader looks one terminal ahead: what follows the terminal at which it stopped changes nothing.
use Rattle.std.proofs.Common.{◌≡◌, ℕ, zero, suc, ◌+◌, ◌≤◌, Bool, true, false, cond, not, ◌&&◌, ◌||◌, List, [], ◌∷◌, ◌++◌, length, Option, Some, None, Result, Ok, Err, refl, sym, ap, subst, arith}
use Rattle.grammar.specs.Terminals.{Terminal, Class, has, starts, all_apart}
use Rattle.grammar.specs.Grammar.{Vocabulary, Grammar, empty, terminal, sequence, choice, repetition, named, widened, Take}
use Rattle.grammar.specs.Lookahead.{Lookahead}
use Rattle.grammar.specs.Reading.{Reading, Reader, taken, read_terminal, takes_first, and_then, item_then, read_each, read, stopped, Outcome}
use Rattle.std.proofs.lemmas.Bool.{and_parts, not-true}
use Rattle.grammar.specs.ChoiceLaws.{least, implied}
use Rattle.grammar.specs.CompleteLaws.{IsTaking, read_takes, within_parts}

module _ (voc : Vocabulary) where
  -- no more than so many terminals are left
  abbrev pub Keeps : {A : Type 0} → ℕ → Outcome voc A → Type 0
  Keeps n (Ok f) = length f.rest ≤ n
  Keeps n (Err e) = length e.rest ≤ n

  keeps_more : {A : Type 0} (m n : ℕ) (o : Outcome voc A) → m ≤ n → Keeps m o → Keeps n o
  keeps_more m n (Ok f) l k = omega (arith, l, k)
  keeps_more m n (Err e) l k = omega (arith, l, k)

  then_keeps : {A B : Type 0} (n : ℕ) (o : Outcome voc A) (k : Reading voc A → Outcome voc B) → Keeps n o
      → ((f : Reading voc A) → length f.rest ≤ n → Keeps n (k f)) → Keeps n (and_then voc o k)
  then_keeps n (Ok f) k h later = later f h
  then_keeps n (Err e) k h later = h

  cond_keeps : {A : Type 0} (n : ℕ) (b : Bool) (u v : Outcome voc A) → Keeps n u → Keeps n v → Keeps n (cond b u v)
  cond_keeps n true u v h k = h
  cond_keeps n false u v h k = k

  abbrev pub IsKeeping : {A : Type 0} → Reader voc A → Type 0
  IsKeeping R = (x : voc.state) (ts : List Terminal) → Keeps (length ts) (R x ts)

  item_keeps : {A : Type 0} (n : ℕ) (o : Option A) (f : Reading voc (Option A)) (k : Reader voc (List A)) → length f.rest ≤ n → IsKeeping k
      → Keeps n (item_then voc o f k)
  item_keeps n None f k l keeps = l
  item_keeps n (Some a) f k l keeps = then_keeps n (k f.state f.rest) _ (keeps_more (length f.rest) n (k f.state f.rest) l (keeps f.state f.rest)) (λ g h. h)

  each_keeps : {A : Type 0} (firsts : List Class) (R : Reader voc (Option A)) → IsKeeping R → (n : ℕ) → IsKeeping (read_each voc firsts R n)
  each_keeps firsts R keeps zero x ts = omega arith
  each_keeps firsts R keeps (suc n) x ts =
      cond_keeps (length ts) (starts firsts ts) (and_then voc (R x ts) (λ f. item_then voc f.value f (read_each voc firsts R n)))
      (Ok (record { value = []; state = x; rest = ts }))
      (then_keeps (length ts) (R x ts) _ (keeps x ts) (λ f l. item_keeps (length ts) f.value f (read_each voc firsts R n) l (each_keeps firsts R keeps n)))
      (omega arith)

  takes_keeps : {A : Type 0} (n : ℕ) (ts rest : List Terminal) (r : Result (A × voc.state) voc.fault) → length ts ≤ n → length rest ≤ n
      → Keeps n (taken voc ts r rest)
  takes_keeps n ts rest (Ok t) l k = k
  takes_keeps n ts rest (Err e) l k = l

  pub read_keeps : (R : (n : voc.nonterminal) → Reader voc (voc.denoted n)) → ((n : voc.nonterminal) → IsKeeping (R n))
      → {p : Lookahead} {A : Type 0} (g : Grammar voc p A) → IsKeeping (read voc R g)
  read_keeps R env (empty a) x ts = omega arith
  read_keeps R env (terminal class take) x [] = omega arith
  read_keeps R env (terminal class take) x (s ∷ ts) =
      cond_keeps (suc (length ts)) (has class s) (taken voc (s ∷ ts) (take x s) ts) (stopped voc voc.expected (s ∷ ts))
      (takes_keeps (suc (length ts)) (s ∷ ts) ts (take x s) (omega arith) (omega arith)) (omega arith)
  read_keeps R env (sequence g h) x ts =
      then_keeps (length ts) (read voc R g x ts) (λ f. read voc R (h f.value) f.state f.rest) (read_keeps R env g x ts)
      (λ f l. keeps_more (length f.rest) (length ts) _ l (read_keeps R env (h f.value) f.state f.rest))
  read_keeps R env (choice {p = p} {q = q} g h) x ts =
      cond_keeps (length ts) (takes_first voc p q ts) (read voc R g x ts) (read voc R h x ts) (read_keeps R env g x ts) (read_keeps R env h x ts)
  read_keeps R env (repetition {p = p} g) x ts = each_keeps p.firsts (read voc R g) (read_keeps R env g) (length ts) x ts
  read_keeps R env (named n) x ts = env n x ts
  read_keeps R env (widened q sub g) x ts = read_keeps R env g x ts

  -- two texts that are the same up to some terminal and with it
  module _ (s : Terminal) (r r' : List Terminal) where
    pub data Twin {A : Type 0} (o o' : Outcome voc A) : Type 0 where
      BothRead : (a : A) (y : voc.state) (pre : List Terminal) → o ≡ Ok (record { value = a; state = y; rest = pre ++ s ∷ r })
          → o' ≡ Ok (record { value = a; state = y; rest = pre ++ s ∷ r' }) → Twin o o'
      BothStop : (fault : voc.fault) (pre : List Terminal) → o ≡ Err (record { fault = fault; rest = pre ++ s ∷ r })
          → o' ≡ Err (record { fault = fault; rest = pre ++ s ∷ r' }) → Twin o o'
      IsPast : Keeps (length r) o → Twin o o'

    abbrev pub IsLocal : {A : Type 0} → Reader voc A → Type 0
    IsLocal R = (x : voc.state) (pre : List Terminal) → Twin (R x (pre ++ s ∷ r)) (R x (pre ++ s ∷ r'))

    pub same_start : (cs : List Class) (pre : List Terminal) → starts cs (pre ++ s ∷ r) ≡ starts cs (pre ++ s ∷ r')
    same_start cs [] = refl
    same_start cs (t ∷ pre) = refl

    twin_cond : {A : Type 0} (b b' : Bool) (u v u' v' : Outcome voc A) → b ≡ b' → (b ≡ true → Twin u u') → Twin v v' → Twin (cond b u v) (cond b' u' v')
    twin_cond true true u v u' v' e h k = h refl
    twin_cond false false u v u' v' e h k = k
    twin_cond true false u v u' v' e h k = absurd cc
    twin_cond false true u v u' v' e h k = absurd cc

    twin_then : {A B : Type 0} (o o' : Outcome voc A) (k k' : Reading voc A → Outcome voc B) → Twin o o'
        → ((a : A) (y : voc.state) (pre : List Terminal) → o ≡ Ok (record { value = a; state = y; rest = pre ++ s ∷ r }) → o' ≡ Ok
        (record { value = a; state = y; rest = pre ++ s ∷ r' })
        → Twin (k (record { value = a; state = y; rest = pre ++ s ∷ r })) (k' (record { value = a; state = y; rest = pre ++ s ∷ r' })))
        → ((f : Reading voc A) → length f.rest ≤ length r → Keeps (length r) (k f)) → Twin (and_then voc o k) (and_then voc o' k')
    twin_then o o' k k' (BothRead a y pre e e') same past =
        subst (λ c. Twin (and_then voc c k) (and_then voc o' k')) (sym e)
        (subst (λ c. Twin (k (record { value = a; state = y; rest = pre ++ s ∷ r })) (and_then voc c k')) (sym e') (same a y pre e e'))
    twin_then o o' k k' (BothStop fault pre e e') same past =
        BothStop fault pre (ap (λ c. and_then voc c k) e) (ap (λ c. and_then voc c k') e')
    twin_then o o' k k' (IsPast kept) same past = IsPast (then_keeps (length r) o k kept past)

    twin_takes : {A : Type 0} (t : Terminal) (pre : List Terminal) (v : Result (A × voc.state) voc.fault)
        → Twin (taken voc (t ∷ (pre ++ s ∷ r)) v (pre ++ s ∷ r)) (taken voc (t ∷ (pre ++ s ∷ r')) v (pre ++ s ∷ r'))
    twin_takes t pre (Ok v) = BothRead v.0 v.1 pre refl refl
    twin_takes t pre (Err e) = BothStop e (t ∷ pre) refl refl

    twin_here : {A : Type 0} (v : Result (A × voc.state) voc.fault) → Twin (taken voc (s ∷ r) v r) (taken voc (s ∷ r') v r')
    twin_here (Ok v) = IsPast (omega arith)
    twin_here (Err e) = BothStop e [] refl refl

    take_local : {A : Type 0} (class : Class) (take : Take voc A) → IsLocal (read_terminal voc class take)
    take_local class take x [] = twin_cond (has class s) (has class s) _ _ _ _ refl (λ e. twin_here (take x s)) (BothStop voc.expected [] refl refl)
    take_local class take x (t ∷ pre) =
        twin_cond (has class t) (has class t) _ _ _ _ refl (λ e. twin_takes t pre (take x t)) (BothStop voc.expected (t ∷ pre) refl refl)

    module _ {A : Type 0} (p : Lookahead) (R : Reader voc (Option A)) (taking : IsTaking voc p.nullable R) (keeps : IsKeeping R)
        (never : p.nullable ≡ false) (local : IsLocal R) where
      abbrev both_fuels : ℕ → ℕ → List Terminal → Type 0
      both_fuels n n' pre = (length (pre ++ s ∷ r) ≤ n) × (length (pre ++ s ∷ r') ≤ n')

      no_fuel : (pre us : List Terminal) → length (pre ++ s ∷ us) ≤ 0 → ⊥
      no_fuel [] us l = omega (arith, l)
      no_fuel (t ∷ pre) us l = omega (arith, l)

      used : (x : voc.state) (ts : List Terminal) (f : Reading voc (Option A)) → R x ts ≡ Ok f → suc (length f.rest) ≤ length ts
      used x ts f e =
          let here : length f.rest + least false ≤ length ts = subst (λ b. length f.rest + least b ≤ length ts) never (taking x ts f e) in omega (arith, here)

      item_local : (o : Option A) (y : voc.state) (pre : List Terminal) (k k' : Reader voc (List A)) → Twin (k y (pre ++ s ∷ r)) (k' y (pre ++ s ∷ r'))
          → IsKeeping k
          → Twin (item_then voc o (record { value = o; state = y; rest = pre ++ s ∷ r }) k)
          (item_then voc o (record { value = o; state = y; rest = pre ++ s ∷ r' }) k')
      item_local None y pre k k' twin kept = BothRead [] y pre refl refl
      item_local (Some a) y pre k k' twin kept =
          twin_then (k y (pre ++ s ∷ r)) (k' y (pre ++ s ∷ r')) _ _ twin (λ others z pre e e'. BothRead (a ∷ others) z pre refl refl) (λ f l. l)

      each_local : (n n' : ℕ) (x : voc.state) (pre : List Terminal) → both_fuels n n' pre
          → Twin (read_each voc p.firsts R n x (pre ++ s ∷ r)) (read_each voc p.firsts R n' x (pre ++ s ∷ r'))
      each_local zero n' x pre l = absurd (no_fuel pre r l.0)
      each_local (suc n) zero x pre l = absurd (no_fuel pre r' l.1)
      each_local (suc n) (suc n') x pre l =
          twin_cond (starts p.firsts (pre ++ s ∷ r)) (starts p.firsts (pre ++ s ∷ r')) _ _ _ _ (same_start p.firsts pre)
          (λ e.
          twin_then (R x (pre ++ s ∷ r)) (R x (pre ++ s ∷ r')) (λ f. item_then voc f.value f (read_each voc p.firsts R n))
          (λ f. item_then voc f.value f (read_each voc p.firsts R n')) (local x pre)
          (λ o y left e e'.
          let less = used x (pre ++ s ∷ r) (record { value = o; state = y; rest = left ++ s ∷ r }) e in
          let less' = used x (pre ++ s ∷ r') (record { value = o; state = y; rest = left ++ s ∷ r' }) e' in
          item_local o y left (read_each voc p.firsts R n) (read_each voc p.firsts R n')
          (each_local n n' y left (omega (arith, less, l), omega (arith, less', l))) (each_keeps p.firsts R keeps n))
          (λ f few. item_keeps (length r) f.value f (read_each voc p.firsts R n) few (each_keeps p.firsts R keeps n)))
          (BothRead [] x pre refl refl)

    module _ (R : (n : voc.nonterminal) → Reader voc (voc.denoted n)) (taking : (n : voc.nonterminal) → IsTaking voc (voc.ahead n).nullable (R n))
        (keeping : (n : voc.nonterminal) → IsKeeping (R n)) (local : (n : voc.nonterminal) → IsLocal (R n)) where
      pub read_local : {p : Lookahead} {A : Type 0} (g : Grammar voc p A) → p.decides ≡ true → IsLocal (read voc R g)
      read_local (empty a) ok x pre = BothRead a x pre refl refl
      read_local (terminal class take) ok x pre = take_local class take x pre
      read_local (sequence {p = p} {q = q} g h) ok x pre =
          let oks = and_parts p.decides (q.decides && all_apart p.continues q.firsts) ok in
          let clear = and_parts q.decides (all_apart p.continues q.firsts) oks.1 in
          twin_then (read voc R g x (pre ++ s ∷ r)) (read voc R g x (pre ++ s ∷ r')) (λ f. read voc R (h f.value) f.state f.rest)
          (λ f. read voc R (h f.value) f.state f.rest) (read_local g oks.0 x pre)
          (λ a y left e e'. read_local (h a) clear.0 y left)
          (λ f l. keeps_more (length f.rest) (length r) _ l (read_keeps R keeping (h f.value) f.state f.rest))
      read_local (choice {p = p} {q = q} g h) ok x pre =
          let oks = and_parts p.decides (q.decides && (all_apart p.firsts q.firsts && not (p.nullable && q.nullable))) ok in
          let repetition = and_parts q.decides (all_apart p.firsts q.firsts && not (p.nullable && q.nullable)) oks.1 in
          twin_cond (takes_first voc p q (pre ++ s ∷ r)) (takes_first voc p q (pre ++ s ∷ r')) _ _ _ _
          (λ i. same_start p.firsts pre i || (p.nullable && not (same_start q.firsts pre i)))
          (λ e. read_local g oks.0 x pre)
          (read_local h repetition.0 x pre)
      read_local (repetition {p = p} g) ok x pre =
          let oks = and_parts p.decides (not p.nullable && all_apart p.continues p.firsts) ok in
          let parts = and_parts (not p.nullable) (all_apart p.continues p.firsts) oks.1 in
          each_local p (read voc R g) (read_takes voc R taking g) (read_keeps R keeping g) (not-true p.nullable parts.0) (read_local g oks.0)
          (length (pre ++ s ∷ r)) (length (pre ++ s ∷ r')) x pre (omega arith, omega arith)
      read_local (named n) ok x pre = local n x pre
      read_local (widened {p = p} q sub g) ok x pre = read_local g (implied q.decides p.decides (within_parts voc p q sub).3 ok) x pre

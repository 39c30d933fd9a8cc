-- What is spelled is read.
use Rattle.std.proofs.Common.{◌≡◌, ℕ, zero, suc, ◌+◌, ◌≤◌, Bool, true, false, not, ◌&&◌, ◌||◌, List, [], ◌∷◌, ◌++◌, length, Option, Some, None, Result, Ok, ◌⊎◌, inl, inr, ⊎_elim, refl, ap, ◌∙◌, subst, arith}
use Rattle.grammar.specs.Terminals.{Terminal, Class, has, starts, all_apart, all_included}
use Rattle.grammar.specs.Grammar.{Vocabulary, Grammar, empty, terminal, sequence, choice, repetition, named, widened}
use Rattle.grammar.specs.Lookahead.{Lookahead, ◌∪◌, if_so, within, star}
use Rattle.grammar.specs.Reading.{and_then, Reading, Reader, taken, takes_first, item_then, read_each, read, stopped, Outcome}
use Rattle.grammar.specs.Spelling.{Behind, Spelling, SpellsEach, Spells}
use Rattle.std.proofs.lemmas.Bool.{and_parts, and_from, not-true, or_left, or_right, both_ways}
use Rattle.list_laws.specs.BoolLaws.{chosen}
use Rattle.grammar.specs.ChoiceLaws.{refuted, cond_true, cond_false, first_taken, second_taken, one_only, implied, least, least_and, least_left, least_right, least_implied}
use Rattle.grammar.specs.ClassLaws.{starts_apart, starts_included, starts_none, starts_left, starts_right, if_so_true, if_so_none, starts_some}
use Rattle.grammar.specs.SoundLaws.{done, ok_is, then_ok, then_goes, takes_ok}

module _ (voc : Vocabulary) where
  -- ---- with what a spelled text begins

  abbrev pub Starts : Bool → List Class → Behind voc → List Terminal → Type 0
  Starts nullable firsts K ts = (starts firsts ts ≡ true) ⊎ ((nullable ≡ true) × ((y : voc.state) × K y ts))

  abbrev pub IsStarting : Lookahead → {A : Type 0} → Spelling voc A → Type 1
  IsStarting p {A} S = (x : voc.state) (a : A) (K : Behind voc) (ts : List Terminal) → S x a K ts → Starts p.nullable p.firsts K ts

  each_starts : (p : Lookahead) {A : Type 0} (S : Spelling voc (Option A)) → IsStarting p S → IsStarting (star p) (SpellsEach voc S)
  each_starts p S begins x [] K ts (inl k) = inr (refl, (x, k))
  each_starts p S begins x [] K ts (inr s) = ⊎_elim inl (λ u. inr (refl, u.1)) (begins x None K ts s)
  each_starts p S begins x (a ∷ others) K ts s =
      ⊎_elim inl (λ u. each_starts p S begins u.1.0 others K ts u.1.1) (begins x (Some a) (λ y. SpellsEach voc S y others K) ts s)

  pub within_parts : (p q : Lookahead) → within p q ≡ true
      → ((not p.nullable || q.nullable) ≡ true) × (all_included p.firsts q.firsts ≡ true) × (all_included p.continues q.continues ≡ true) ×
      ((not q.decides || p.decides) ≡ true)
  within_parts p q e =
      let h = and_parts (not p.nullable || q.nullable) _ e in
      let k = and_parts (all_included p.firsts q.firsts) _ h.1 in
      let l = and_parts (all_included p.continues q.continues) _ k.1 in
      (h.0, k.0, l.0, l.1)

  pub spelled_starts : (S : (n : voc.nonterminal) → Spelling voc (voc.denoted n)) → ((n : voc.nonterminal) → IsStarting (voc.ahead n) (S n))
      → {p : Lookahead} {A : Type 0} (g : Grammar voc p A) → IsStarting p (Spells voc S g)
  spelled_starts S env (empty b) x a K ts s = inr (refl, (x, s.1))
  spelled_starts S env (terminal class take) x a K [] s = absurd s
  spelled_starts S env (terminal class take) x a K (first ∷ ts) s = inl (or_left (has class first) false s.1)
  spelled_starts S env (sequence {p = p} {q = q} g h) x a K ts s =
      ⊎_elim
      (λ e. inl (starts_left p.firsts (if_so p.nullable q.firsts) ts e))
      (λ u.
      ⊎_elim
      (λ e. inl (starts_right p.firsts (if_so p.nullable q.firsts) ts (if_so_true p.nullable q.firsts ts u.0 e)))
      (λ v. inr (and_from p.nullable q.nullable u.0 v.0, v.1))
      (spelled_starts S env (h s.0) u.1.0 a K ts u.1.1))
      (spelled_starts S env g x s.0 (λ y. Spells voc S (h s.0) y a K) ts s.1)
  spelled_starts S env (choice {p = p} {q = q} g h) x a K ts (inl s) =
      ⊎_elim
      (λ e. inl (starts_left p.firsts q.firsts ts e))
      (λ u. inr (or_left p.nullable q.nullable u.0, u.1))
      (spelled_starts S env g x a K ts s)
  spelled_starts S env (choice {p = p} {q = q} g h) x a K ts (inr s) =
      ⊎_elim
      (λ e. inl (starts_right p.firsts q.firsts ts e))
      (λ u. inr (or_right p.nullable q.nullable u.0, u.1))
      (spelled_starts S env h x a K ts s)
  spelled_starts S env (repetition {p = p} g) x a K ts s = each_starts p (Spells voc S g) (spelled_starts S env g) x a K ts s
  spelled_starts S env (named n) x a K ts s = env n x a K ts s
  spelled_starts S env (widened {p = p} q sub g) x a K ts s =
      let parts = within_parts p q sub in
      ⊎_elim
      (λ e. inl (starts_included p.firsts q.firsts ts parts.1 e))
      (λ u. inr (implied p.nullable q.nullable parts.0 u.0, u.1))
      (spelled_starts S env g x a K ts s)

  -- ---- how many terminals a reader takes at least

  abbrev pub IsTaking : Bool → {A : Type 0} → Reader voc A → Type 0
  IsTaking nullable {A} R = (x : voc.state) (ts : List Terminal) (f : Reading voc A) → R x ts ≡ Ok f → length f.rest + least nullable ≤ length ts

  item_takes : {A : Type 0} (o : Option A) (i : Reading voc (Option A)) (k : Reader voc (List A)) (f : Reading voc (List A)) → item_then voc o i k ≡ Ok f
      → IsTaking true k → length f.rest ≤ length i.rest
  item_takes None i k f e rest =
      let same = ok_is voc (record { value = []; state = i.state; rest = i.rest }) f e in subst (λ f. length f.rest ≤ length i.rest) same (omega arith)
  item_takes (Some a) i k f e rest =
      let t = then_ok voc (k i.state i.rest) (λ g. Ok (record { value = a ∷ g.value; state = g.state; rest = g.rest })) f e in
      let same = ok_is voc (record { value = a ∷ t.0.value; state = t.0.state; rest = t.0.rest }) f t.2 in
      let few = rest i.state i.rest t.0 t.1 in
      subst (λ f. length f.rest ≤ length i.rest) same (omega (arith, few))

  each_takes : {A : Type 0} (firsts : List Class) (nullable : Bool) (R : Reader voc (Option A)) → IsTaking nullable R → (n : ℕ)
      → IsTaking true (read_each voc firsts R n)
  each_takes firsts nullable R taking zero x ts f e =
      let same = ok_is voc (record { value = []; state = x; rest = ts }) f e in
      subst (λ f. length f.rest + 0 ≤ length ts) same (omega arith)
  each_takes firsts nullable R taking (suc n) x ts f e =
      ⊎_elim
      (λ h.
      let t = then_ok voc (R x ts) (λ f. item_then voc f.value f (read_each voc firsts R n)) f h.1 in
      let one = taking x ts t.0 t.1 in
      let others = item_takes t.0.value t.0 (read_each voc firsts R n) f t.2 (each_takes firsts nullable R taking n) in
      omega (arith, one, others))
      (λ h.
      let same = ok_is voc (record { value = []; state = x; rest = ts }) f h.1 in
      subst (λ f. length f.rest + 0 ≤ length ts) same (omega arith))
      (chosen (starts firsts ts) _ _ _ e)

  pub read_takes : (R : (n : voc.nonterminal) → Reader voc (voc.denoted n)) → ((n : voc.nonterminal) → IsTaking (voc.ahead n).nullable (R n))
      → {p : Lookahead} {A : Type 0} (g : Grammar voc p A) → IsTaking p.nullable (read voc R g)
  read_takes R env (empty a) x ts f e =
      let same = ok_is voc (record { value = a; state = x; rest = ts }) f e in
      subst (λ f. length f.rest + 0 ≤ length ts) same (omega arith)
  read_takes R env (terminal class take) x [] f e = absurd cc
  read_takes R env (terminal class take) x (first ∷ ts) f e =
      ⊎_elim
      (λ h. let t = takes_ok voc (first ∷ ts) ts (take x first) f h.1 in let same = ap length t.1 in omega (arith, same))
      (λ h. absurd cc)
      (chosen (has class first) (taken voc (first ∷ ts) (take x first) ts) (stopped voc voc.expected (first ∷ ts)) (Ok f) e)
  read_takes R env (sequence {p = p} {q = q} g h) x ts f e =
      let t = then_ok voc (read voc R g x ts) (λ f. read voc R (h f.value) f.state f.rest) f e in
      let first = read_takes R env g x ts t.0 t.1 in
      let second = read_takes R env (h t.0.value) t.0.state t.0.rest f t.2 in
      let sum = least_and p.nullable q.nullable in
      omega (arith, first, second, sum)
  read_takes R env (choice {p = p} {q = q} g h) x ts f e =
      ⊎_elim
      (λ t. let here = read_takes R env g x ts f t.1 in let few = least_left p.nullable q.nullable in omega (arith, here, few))
      (λ t. let here = read_takes R env h x ts f t.1 in let few = least_right p.nullable q.nullable in omega (arith, here, few))
      (chosen (takes_first voc p q ts) _ _ _ e)
  read_takes R env (repetition {p = p} g) x ts f e = each_takes p.firsts p.nullable (read voc R g) (read_takes R env g) (length ts) x ts f e
  read_takes R env (named n) x ts f e = env n x ts f e
  read_takes R env (widened {p = p} q sub g) x ts f e =
      let here = read_takes R env g x ts f e in
      let few = least_implied p.nullable q.nullable (within_parts p q sub).0 in
      omega (arith, here, few)

  -- ---- what is spelled is read

  pub record Reads {A : Type 0} (R : Reader voc A) (x : voc.state) (ts : List Terminal) (a : A) (K : Behind voc) : Type 0 where
    pub state : voc.state
    pub rest : List Terminal
    pub reads : R x ts ≡ Ok (record { value = a; state = state; rest = rest })
    pub behind : K state rest

  -- what may stand behind goes not on with the text
  abbrev pub IsEnding : List Class → Behind voc → Type 0
  IsEnding continues K = (y : voc.state) (ts : List Terminal) → K y ts → starts continues ts ≡ false

  abbrev pub IsComplete : Lookahead → {A : Type 0} → Spelling voc A → Reader voc A → Type 1
  IsComplete p {A} S R = (x : voc.state) (a : A) (K : Behind voc) (ts : List Terminal) → S x a K ts → IsEnding p.continues K → Reads R x ts a K

  pub each_stops : {A : Type 0} (firsts : List Class) (R : Reader voc (Option A)) (n : ℕ) (x : voc.state) (ts : List Terminal) → starts firsts ts ≡ false
      → read_each voc firsts R n x ts ≡ Ok (record { value = []; state = x; rest = ts })
  each_stops firsts R zero x ts e = refl
  each_stops firsts R (suc n) x ts e = cond_false (starts firsts ts) _ _ _ e refl

  module _ {A : Type 0} (p : Lookahead) (S : Spelling voc (Option A)) (R : Reader voc (Option A)) (begins : IsStarting p S) (taking : IsTaking p.nullable R)
      (complete : IsComplete p S R) (never : p.nullable ≡ false) (clear : all_apart p.continues p.firsts ≡ true) where
    -- an item takes a terminal at least
    item_first : (x : voc.state) (o : Option A) (K : Behind voc) (ts : List Terminal) → S x o K ts → starts p.firsts ts ≡ true
    item_first x o K ts s = ⊎_elim (λ e. e) (λ u. absurd (both_ways p.nullable never u.0)) (begins x o K ts s)

    item_less : (x : voc.state) (ts : List Terminal) (f : Reading voc (Option A)) → R x ts ≡ Ok f → suc (length f.rest) ≤ length ts
    item_less x ts f e =
        let here : length f.rest + least false ≤ length ts = subst (λ b. length f.rest + least b ≤ length ts) never (taking x ts f e) in
        omega (arith, here)

    item_ends : (others : List A) (K : Behind voc) → IsEnding (p.firsts ++ p.continues) K → IsEnding p.continues (λ y. SpellsEach voc S y others K)
    item_ends [] K ends y ts (inl k) = (starts_none p.firsts p.continues ts (ends y ts k)).1
    item_ends [] K ends y ts (inr s) = starts_apart p.continues p.firsts ts clear (item_first y None K ts s)
    item_ends (a ∷ others) K ends y ts s = starts_apart p.continues p.firsts ts clear (item_first y (Some a) (λ z. SpellsEach voc S z others K) ts s)

    no_fuel : (ts : List Terminal) → starts p.firsts ts ≡ true → length ts ≤ zero → ⊥
    no_fuel ts e l = let some = starts_some p.firsts ts e in omega (arith, some, l)

    -- an item is read, and then what it wants
    turn : (n : ℕ) (x : voc.state) (ts : List Terminal) (f : Reading voc (Option A)) (o : Outcome voc (List A)) → starts p.firsts ts ≡ true → R x ts ≡ Ok f
        → item_then voc f.value f (read_each voc p.firsts R n) ≡ o → read_each voc p.firsts R (suc n) x ts ≡ o
    turn n x ts f o e h k =
        cond_true (starts p.firsts ts) _ _ o e (then_goes voc (R x ts) (λ f. item_then voc f.value f (read_each voc p.firsts R n)) f o h k)

    abbrev with_first : A → Reading voc (List A) → Reading voc (List A)
    with_first a g = record { value = a ∷ g.value; state = g.state; rest = g.rest }

    before_others : (n : ℕ) (y : voc.state) (us : List Terminal) (a : A) (g : Reading voc (List A)) → read_each voc p.firsts R n y us ≡ done voc g
        → and_then voc (read_each voc p.firsts R n y us) (λ g. done voc (with_first a g)) ≡ done voc (with_first a g)
    before_others n y us a g h = ap (λ o. and_then voc o (λ g. done voc (with_first a g))) h

    each_complete : (n : ℕ) (x : voc.state) (all : List A) (K : Behind voc) (ts : List Terminal) → length ts ≤ n
        → SpellsEach voc S x all K ts → IsEnding (p.firsts ++ p.continues) K → Reads (read_each voc p.firsts R n) x ts all K
    each_complete n x [] K ts l (inl k) ends =
        record { state = x; rest = ts; reads = each_stops p.firsts R n x ts (starts_none p.firsts p.continues ts (ends x ts k)).0; behind = k }
    each_complete zero x [] K ts l (inr s) ends = absurd (no_fuel ts (item_first x None K ts s) l)
    each_complete (suc n) x [] K ts l (inr s) ends =
        let i = complete x None K ts s (λ y us k. (starts_none p.firsts p.continues us (ends y us k)).1) in
        record {
          state = i.state;
          rest = i.rest;
          reads =
              turn n x ts (record { value = None; state = i.state; rest = i.rest }) (done voc (record { value = []; state = i.state; rest = i.rest }))
              (item_first x None K ts s) i.reads refl;
          behind = i.behind;
        }
    each_complete zero x (a ∷ others) K ts l s ends = absurd (no_fuel ts (item_first x (Some a) (λ y. SpellsEach voc S y others K) ts s) l)
    each_complete (suc n) x (a ∷ others) K ts l s ends =
        let i = complete x (Some a) (λ y. SpellsEach voc S y others K) ts s (item_ends others K ends) in
        let less = item_less x ts (record { value = Some a; state = i.state; rest = i.rest }) i.reads in
        let r = each_complete n i.state others K i.rest (omega (arith, less, l)) i.behind ends in
        record {
          state = r.state;
          rest = r.rest;
          reads =
              turn n x ts (record { value = Some a; state = i.state; rest = i.rest })
              (done voc (record { value = a ∷ others; state = r.state; rest = r.rest }))
              (item_first x (Some a) (λ y. SpellsEach voc S y others K) ts s)
              i.reads
              (before_others n i.state i.rest a (record { value = others; state = r.state; rest = r.rest }) r.reads);
          behind = r.behind;
        }

  module _ (S : (n : voc.nonterminal) → Spelling voc (voc.denoted n)) (R : (n : voc.nonterminal) → Reader voc (voc.denoted n))
      (begins : (n : voc.nonterminal) → IsStarting (voc.ahead n) (S n))
      (taking : (n : voc.nonterminal) → IsTaking (voc.ahead n).nullable (R n))
      (known : (n : voc.nonterminal) → IsComplete (voc.ahead n) (S n) (R n)) where
    take_goes : {A : Type 0} (ts rest : List Terminal) (r : Result (A × voc.state) voc.fault) (a : A) (y : voc.state) → r ≡ Ok (a, y)
        → taken voc ts r rest ≡ Ok (record { value = a; state = y; rest = rest })
    take_goes ts rest r a y e = ap (λ r. taken voc ts r rest) e

    chooses_left : (p q : Lookahead) (K : Behind voc) (ts : List Terminal) → Starts p.nullable p.firsts K ts → IsEnding (p ∪ q).continues K
        → takes_first voc p q ts ≡ true
    chooses_left p q K ts (inl e) ends = first_taken (starts p.firsts ts) p.nullable (starts q.firsts ts) (inl e)
    chooses_left p q K ts (inr u) ends =
        let all = starts_none p.continues (q.continues ++ if_so (p.nullable || q.nullable) (p.firsts ++ q.firsts)) ts (ends u.1.0 ts u.1.1) in
        let both = starts_none q.continues (if_so (p.nullable || q.nullable) (p.firsts ++ q.firsts)) ts all.1 in
        let none = starts_none p.firsts q.firsts ts
        (if_so_none (p.nullable || q.nullable) (p.firsts ++ q.firsts) ts (or_left p.nullable q.nullable u.0) both.1) in
        first_taken (starts p.firsts ts) p.nullable (starts q.firsts ts) (inr (u.0, none.1))

    chooses_right : (p q : Lookahead) (K : Behind voc) (ts : List Terminal) → Starts q.nullable q.firsts K ts → IsEnding (p ∪ q).continues K
        → all_apart p.firsts q.firsts ≡ true → not (p.nullable && q.nullable) ≡ true → takes_first voc p q ts ≡ false
    chooses_right p q K ts (inl e) ends clear one =
        second_taken (starts p.firsts ts) p.nullable (starts q.firsts ts) (starts_apart p.firsts q.firsts ts clear e) (inr e)
    chooses_right p q K ts (inr u) ends clear one =
        let all = starts_none p.continues (q.continues ++ if_so (p.nullable || q.nullable) (p.firsts ++ q.firsts)) ts (ends u.1.0 ts u.1.1) in
        let both = starts_none q.continues (if_so (p.nullable || q.nullable) (p.firsts ++ q.firsts)) ts all.1 in
        let none = starts_none p.firsts q.firsts ts
        (if_so_none (p.nullable || q.nullable) (p.firsts ++ q.firsts) ts (or_right p.nullable q.nullable u.0) both.1) in
        second_taken (starts p.firsts ts) p.nullable (starts q.firsts ts) none.0 (inl (one_only p.nullable q.nullable one u.0))

    -- the same text, read by a reader that goes on as the other does
    reads_by : {A : Type 0} (R : Reader voc A) (Q : Reader voc A) (x : voc.state) (ts : List Terminal) (a : A) (K : Behind voc) → Reads R x ts a K
        → Q x ts ≡ R x ts → Reads Q x ts a K
    reads_by R Q x ts a K r e = record { state = r.state; rest = r.rest; reads = e ∙ r.reads; behind = r.behind }

    pub spelled_is_read : {p : Lookahead} {A : Type 0} (g : Grammar voc p A) → p.decides ≡ true → IsComplete p (Spells voc S g) (read voc R g)
    spelled_is_read (empty b) ok x a K ts s ends =
        record { state = x; rest = ts; reads = ap (λ a. done voc (record { value = a; state = x; rest = ts })) s.0; behind = s.1 }
    spelled_is_read (terminal class take) ok x a K [] s ends = absurd s
    spelled_is_read (terminal class take) ok x a K (first ∷ ts) s ends =
        record {
          state = s.0;
          rest = ts;
          reads =
              cond_true (has class first) (taken voc (first ∷ ts) (take x first) ts) (stopped voc voc.expected (first ∷ ts)) _ s.1
              (take_goes (first ∷ ts) ts (take x first) a s.0 s.2);
          behind = s.3;
        }
    spelled_is_read (sequence {p = p} {q = q} g h) ok x a K ts s ends =
        let oks = and_parts p.decides (q.decides && all_apart p.continues q.firsts) ok in
        let clear = and_parts q.decides (all_apart p.continues q.firsts) oks.1 in
        let first =
        spelled_is_read g oks.0 x s.0 (λ y. Spells voc S (h s.0) y a K) ts s.1
        (λ y us t.
        ⊎_elim
        (λ e. starts_apart p.continues q.firsts us clear.1 e)
        (λ u. if_so_none q.nullable p.continues us u.0 (starts_none q.continues (if_so q.nullable p.continues) us (ends u.1.0 us u.1.1)).1)
        (spelled_starts S begins (h s.0) y a K us t)) in
        let second = spelled_is_read (h s.0) clear.0 first.state a K first.rest first.behind
        (λ y us k. (starts_none q.continues (if_so q.nullable p.continues) us (ends y us k)).0) in
        record {
          state = second.state;
          rest = second.rest;
          reads =
              then_goes voc (read voc R g x ts) (λ f. read voc R (h f.value) f.state f.rest)
              (record { value = s.0; state = first.state; rest = first.rest }) _ first.reads second.reads;
          behind = second.behind;
        }
    spelled_is_read (choice {p = p} {q = q} g h) ok x a K ts (inl s) ends =
        let oks = and_parts p.decides (q.decides && (all_apart p.firsts q.firsts && not (p.nullable && q.nullable))) ok in
        let r = spelled_is_read g oks.0 x a K ts s
        (λ y us k. (starts_none p.continues (q.continues ++ if_so (p.nullable || q.nullable) (p.firsts ++ q.firsts)) us (ends y us k)).0) in
        reads_by (read voc R g) (read voc R (choice g h)) x ts a K r
        (cond_true (takes_first voc p q ts) (read voc R g x ts) (read voc R h x ts) (read voc R g x ts)
        (chooses_left p q K ts (spelled_starts S begins g x a K ts s) ends) refl)
    spelled_is_read (choice {p = p} {q = q} g h) ok x a K ts (inr s) ends =
        let oks = and_parts p.decides (q.decides && (all_apart p.firsts q.firsts && not (p.nullable && q.nullable))) ok in
        let repetition = and_parts q.decides (all_apart p.firsts q.firsts && not (p.nullable && q.nullable)) oks.1 in
        let last = and_parts (all_apart p.firsts q.firsts) (not (p.nullable && q.nullable)) repetition.1 in
        let r =
        spelled_is_read h repetition.0 x a K ts s
        (λ y us k.
        (starts_none q.continues (if_so (p.nullable || q.nullable) (p.firsts ++ q.firsts)) us
        (starts_none p.continues (q.continues ++ if_so (p.nullable || q.nullable) (p.firsts ++ q.firsts)) us (ends y us k)).1).0) in
        reads_by (read voc R h) (read voc R (choice g h)) x ts a K r
        (cond_false (takes_first voc p q ts) (read voc R g x ts) (read voc R h x ts) (read voc R h x ts)
        (chooses_right p q K ts (spelled_starts S begins h x a K ts s) ends last.0 last.1) refl)
    spelled_is_read (repetition {p = p} g) ok x a K ts s ends =
        let oks = and_parts p.decides (not p.nullable && all_apart p.continues p.firsts) ok in
        let parts = and_parts (not p.nullable) (all_apart p.continues p.firsts) oks.1 in
        reads_by (read_each voc p.firsts (read voc R g) (length ts)) (read voc R (repetition g)) x ts a K
        (each_complete p (Spells voc S g) (read voc R g) (spelled_starts S begins g) (read_takes R taking g) (spelled_is_read g oks.0)
        (not-true p.nullable parts.0) parts.1 (length ts) x a K ts (omega arith) s ends)
        refl
    spelled_is_read (named n) ok x a K ts s ends = known n x a K ts s ends
    spelled_is_read (widened {p = p} q sub g) ok x a K ts s ends =
        let parts = within_parts p q sub in
        spelled_is_read g (implied q.decides p.decides parts.3 ok) x a K ts s
        (λ y us k. refuted (starts p.continues us)
        (λ e. both_ways (starts q.continues us) (ends y us k) (starts_included p.continues q.continues us parts.2 e)))

-- Readers to depths above the number of terminals agree, so the first fault is that of texts of any depth.
use Rattle.std.proofs.Common.{◌≡◌, ℕ, zero, suc, ◌+◌, ◌≤◌, ◌<◌, true, false, cond, not, List, [], ◌∷◌, ◌++◌, length, Option, Some, None, Ok, Err, refl, ap, ◌∙◌, subst, arith}
use Rattle.grammar.specs.Terminals.{Terminal, Class, starts}
use Rattle.grammar.specs.Grammar.{Vocabulary, Grammar, empty, terminal, sequence, choice, repetition, named, widened, Productions, guarded}
use Rattle.grammar.specs.Lookahead.{Lookahead}
use Rattle.grammar.specs.Reading.{Reading, Reader, takes_first, and_then, item_then, read_each, read, read_to, read_text, read_deep, ended, Outcome}
use Rattle.grammar.specs.Spelling.{IsTextOfAnyDepth}
use Rattle.std.proofs.lemmas.Bool.{and_parts, not-true}
use Rattle.grammar.specs.ChoiceLaws.{least}
use Rattle.grammar.specs.CompleteLaws.{IsTaking, read_takes}
use Rattle.grammar.specs.OneAheadLaws.{Keeps, IsKeeping, read_keeps}
use Rattle.grammar.specs.DepthLaws.{depth_takes, depth_keeps}
use Rattle.grammar.specs.TextLaws.{text_is_spelled, fault_is_first, deep_is_read}

module _ (voc : Vocabulary) where
  then_same : {A B : Type 0} (n : ℕ) (o : Outcome voc A) (k k' : Reading voc A → Outcome voc B) → Keeps voc n o
      → ((f : Reading voc A) → o ≡ Ok f → length f.rest ≤ n → k f ≡ k' f) → and_then voc o k ≡ and_then voc o k'
  then_same n (Ok f) k k' l same = same f refl l
  then_same n (Err e) k k' l same = refl

  item_same : {A : Type 0} (o : Option A) (f : Reading voc (Option A)) (k k' : Reader voc (List A)) → k f.state f.rest ≡ k' f.state f.rest
      → item_then voc o f k ≡ item_then voc o f k'
  item_same None f k k' e = refl
  item_same (Some a) f k k' e = ap (λ o. and_then voc o (λ g. Ok (record { value = a ∷ g.value; state = g.state; rest = g.rest }))) e

  abbrev pub AreSame : {A : Type 0} → ℕ → Reader voc A → Reader voc A → Type 0
  AreSame m R R' = (x : voc.state) (ts : List Terminal) → length ts ≤ m → R x ts ≡ R' x ts

  each_same : {A : Type 0} (m : ℕ) (firsts : List Class) (R R' : Reader voc (Option A)) → IsKeeping voc R → AreSame m R R' → (n : ℕ)
      → AreSame m (read_each voc firsts R n) (read_each voc firsts R' n)
  each_same m firsts R R' keeps same zero x ts l = refl
  each_same m firsts R R' keeps same (suc n) x ts l =
      ap (λ o. cond (starts firsts ts) o (Ok (record { value = []; state = x; rest = ts })))
      (then_same (length ts) (R x ts) (λ f. item_then voc f.value f (read_each voc firsts R n)) (λ f. item_then voc f.value f (read_each voc firsts R' n))
      (keeps x ts)
      (λ f h few. item_same f.value f (read_each voc firsts R n) (read_each voc firsts R' n)
      (each_same m firsts R R' keeps same n f.state f.rest (omega (arith, l, few))))
      ∙ ap (λ o. and_then voc o (λ f. item_then voc f.value f (read_each voc firsts R' n))) (same x ts l))

  module _ (m : ℕ) (R R' : (n : voc.nonterminal) → Reader voc (voc.denoted n)) (keeping : (n : voc.nonterminal) → IsKeeping voc (R n))
      (env : (n : voc.nonterminal) → AreSame m (R n) (R' n)) where
    read_same : {p : Lookahead} {A : Type 0} (g : Grammar voc p A) → AreSame m (read voc R g) (read voc R' g)
    read_same (empty a) x ts l = refl
    read_same (terminal class take) x ts l = refl
    read_same (sequence g h) x ts l =
        then_same (length ts) (read voc R g x ts) (λ f. read voc R (h f.value) f.state f.rest) (λ f. read voc R' (h f.value) f.state f.rest)
        (read_keeps voc R keeping g x ts)
        (λ f e few. read_same (h f.value) f.state f.rest (omega (arith, l, few)))
        ∙ ap (λ o. and_then voc o (λ f. read voc R' (h f.value) f.state f.rest)) (read_same g x ts l)
    read_same (choice {p = p} {q = q} g h) x ts l = λ i. cond (takes_first voc p q ts) (read_same g x ts l i) (read_same h x ts l i)
    read_same (repetition {p = p} g) x ts l =
        each_same m p.firsts (read voc R g) (read voc R' g) (read_keeps voc R keeping g) (read_same g) (length ts) x ts l
    read_same (named n) x ts l = env n x ts l
    read_same (widened q sub g) x ts l = read_same g x ts l

  module _ (m : ℕ) (R R' : (n : voc.nonterminal) → Reader voc (voc.denoted n)) (taking : (n : voc.nonterminal) → IsTaking voc (voc.ahead n).nullable (R n))
      (keeping : (n : voc.nonterminal) → IsKeeping voc (R n)) (env : (k : ℕ) → suc k ≤ m → (n : voc.nonterminal) → AreSame k (R n) (R' n)) where
    guarded_same : {p : Lookahead} {A : Type 0} (g : Grammar voc p A) → guarded g ≡ true → AreSame m (read voc R g) (read voc R' g)
    guarded_same (empty a) ok x ts l = refl
    guarded_same (terminal class take) ok x ts l = refl
    guarded_same (sequence {p = p} g h) ok x ts l =
        let oks = and_parts (guarded g) (not p.nullable) ok in
        let never = not-true p.nullable oks.1 in
        then_same (length ts) (read voc R g x ts) (λ f. read voc R (h f.value) f.state f.rest) (λ f. read voc R' (h f.value) f.state f.rest)
        (read_keeps voc R keeping g x ts)
        (λ f e few.
        let less : length f.rest + least false ≤ length ts = subst (λ b. length f.rest + least b ≤ length ts) never (read_takes voc R taking g x ts f e) in
        read_same (length f.rest) R R' keeping (env (length f.rest) (omega (arith, less, l))) (h f.value) f.state f.rest (omega arith))
        ∙ ap (λ o. and_then voc o (λ f. read voc R' (h f.value) f.state f.rest)) (guarded_same g oks.0 x ts l)
    guarded_same (choice {p = p} {q = q} g h) ok x ts l =
        let oks = and_parts (guarded g) (guarded h) ok in
        λ i. cond (takes_first voc p q ts) (guarded_same g oks.0 x ts l i) (guarded_same h oks.1 x ts l i)
    guarded_same (repetition g) ok x ts l = absurd cc
    guarded_same (named n) ok x ts l = absurd cc
    guarded_same (widened q sub g) ok x ts l = guarded_same g ok x ts l

  module _ (productions : Productions voc) (each : (n : voc.nonterminal) → guarded (productions n) ≡ true) where
    depth_same : (m d d' : ℕ) → m < d → m < d' → (n : voc.nonterminal) → AreSame m (read_to voc productions d n) (read_to voc productions d' n)
    depth_same m zero d' l l' n x ts e = absurd (omega (arith, l))
    depth_same m (suc d) zero l l' n x ts e = absurd (omega (arith, l'))
    depth_same zero (suc d) (suc d') l l' n x ts e =
        guarded_same zero (read_to voc productions d) (read_to voc productions d') (depth_takes voc productions d) (depth_keeps voc productions d)
        (λ k h n. absurd (omega (arith, h))) (productions n) (each n) x ts e
    depth_same (suc m) (suc d) (suc d') l l' n x ts e =
        guarded_same (suc m) (read_to voc productions d) (read_to voc productions d') (depth_takes voc productions d) (depth_keeps voc productions d)
        (λ k h n x us few. depth_same m d d' (omega (arith, l)) (omega (arith, l')) n x us (omega (arith, h, few)))
        (productions n) (each n) x ts e

    -- a nonterminal to a depth that is enough for what is left of the text
    abbrev pub read_any : (n : voc.nonterminal) → Reader voc (voc.denoted n)
    read_any n x ts = read_to voc productions (suc (length ts)) n x ts

    any_same : (d : ℕ) (n : voc.nonterminal) (x : voc.state) (ts : List Terminal) → length ts < d → read_to voc productions d n x ts ≡ read_any n x ts
    any_same d n x ts l = depth_same (length ts) d (suc (length ts)) l (omega arith) n x ts (omega arith)

    -- it is read by its production
    pub named_is_production : (n : voc.nonterminal) (x : voc.state) (ts : List Terminal) → read_any n x ts ≡ read voc read_any (productions n) x ts
    named_is_production n x ts =
        guarded_same (length ts) (read_to voc productions (length ts)) read_any (depth_takes voc productions (length ts)) (depth_keeps voc productions (length ts))
        (λ k less n y us few. any_same (length ts) n y us (omega (arith, less, few))) (productions n) (each n) x ts (omega arith)

    -- and so is a whole text
    pub deep_is_any : {p : Lookahead} {A : Type 0} (g : Grammar voc p A) (x : voc.state) (ts : List Terminal)
        → read_deep voc productions g x ts ≡ ended voc (read voc read_any g x ts)
    deep_is_any g x ts =
        ap (ended voc) (read_same (length ts) (read_to voc productions (suc (length ts))) read_any (depth_keeps voc productions (suc (length ts)))
        (λ n y us few. any_same (suc (length ts)) n y us (omega (arith, few))) g x ts (omega arith))

    module _ {p : Lookahead} {A : Type 0} (g : Grammar voc p A) (x : voc.state) (ok : p.decides ≡ true)
        (oks : (n : voc.nonterminal) → (voc.ahead n).decides ≡ true) where
      texts_same : (d d' : ℕ) (ts : List Terminal) → length ts < d → length ts < d' → read_text voc productions g d x ts ≡ read_text voc productions g d' x ts
      texts_same d d' ts l l' =
          ap (ended voc) (read_same (length ts) (read_to voc productions d) (read_to voc productions d') (depth_keeps voc productions d)
          (depth_same (length ts) d d' l l') g x ts (omega arith))

      pub deep_fault_is_first : (pre : List Terminal) (s : Terminal) (r : List Terminal) (fault : voc.fault)
          → read_deep voc productions g x (pre ++ s ∷ r) ≡ Err (record { fault = fault; rest = s ∷ r })
          → (r' : List Terminal) (a : A) (z : voc.state) → IsTextOfAnyDepth voc productions g x a z (pre ++ s ∷ r') → ⊥
      deep_fault_is_first pre s r fault e r' a z t =
          let n = length (pre ++ s ∷ r) in
          let n' = length (pre ++ s ∷ r') in
          let reads = deep_is_read voc productions g x ok oks each a z (pre ++ s ∷ r') t in
          let there = text_is_spelled voc productions g (suc (n + n')) x a z (pre ++ s ∷ r')
          (texts_same (suc (n + n')) (suc n') (pre ++ s ∷ r') (omega arith) (omega arith) ∙ reads) in
          fault_is_first voc productions g (suc (n + n')) x ok oks pre s r fault
          (texts_same (suc (n + n')) (suc n) (pre ++ s ∷ r) (omega arith) (omega arith) ∙ e) r' a z there

-- Whole texts: they are read exactly where they are spelled, and a fault stands at the first terminal with which no text goes on.
use Rattle.std.proofs.Common.{◌≡◌, ℕ, suc, ◌≤◌, true, false, List, [], ◌∷◌, ◌++◌, length, Result, Ok, Err, refl, sym, ap, ◌∙◌, subst, arith}
use Rattle.grammar.specs.Terminals.{Terminal, starts}
use Rattle.grammar.specs.Grammar.{Vocabulary, Grammar, Productions, guarded}
use Rattle.grammar.specs.Lookahead.{Lookahead}
use Rattle.grammar.specs.Reading.{Stop, read, read_to, read_text, ended, at_end, read_deep, Outcome}
use Rattle.grammar.specs.Spelling.{SpelledTo, IsText, IsTextOfAnyDepth}
use Rattle.grammar.specs.SoundLaws.{read_is_spelled, done}
use Rattle.grammar.specs.CompleteLaws.{spelled_is_read}
use Rattle.grammar.specs.OneAheadLaws.{Twin, BothRead, BothStop, IsPast, Keeps, read_local}
use Rattle.grammar.specs.DeepLaws.{text_moves, deep_enough}
use Rattle.grammar.specs.DepthLaws.{depth_sound, depth_starts, depth_takes, depth_keeps, depth_complete, depth_local}

module _ (voc : Vocabulary) (productions : Productions voc) where
  abbrev text_of : {A : Type 0} → A → voc.state → Result (A × voc.state) (Stop voc)
  text_of a z = Ok (a, z)

  pair_is : {A : Type 0} (t u : A × voc.state) → text_of t.0 t.1 ≡ text_of u.0 u.1 → t ≡ u
  pair_is t u e = cc

  ended_ok : {A : Type 0} (o : Outcome voc A) (a : A) (z : voc.state) → ended voc o ≡ Ok (a, z) → o ≡ Ok (record { value = a; state = z; rest = [] })
  ended_ok (Ok f) a z e = at f.value f.state f.rest e
    where
      at : {A : Type 0} {a : A} {z : voc.state} (b : A) (y : voc.state) (ts : List Terminal) → at_end voc b y ts ≡ Ok (a, z)
          → done voc (record { value = b; state = y; rest = ts }) ≡ Ok (record { value = a; state = z; rest = [] })
      at {a = a} {z = z} b y [] e = let same = pair_is (b, y) (a, z) e in λ i. Ok (record { value = (same i).0; state = (same i).1; rest = [] })
      at b y (s ∷ ts) e = absurd cc
  ended_ok (Err d) a z e = absurd cc

  module _ {p : Lookahead} {A : Type 0} (g : Grammar voc p A) (d : ℕ) (x : voc.state) where
    pub text_is_spelled : (a : A) (z : voc.state) (ts : List Terminal) → read_text voc productions g d x ts ≡ Ok (a, z) → IsText voc productions g d x a z ts
    text_is_spelled a z ts e =
        read_is_spelled voc (SpelledTo voc productions d) (read_to voc productions d) (depth_sound voc productions d) g x ts
        (record { value = a; state = z; rest = [] }) (ended_ok (read voc (read_to voc productions d) g x ts) a z e) (λ y rest. (y ≡ z) × (rest ≡ []))
        (refl, refl)

    abbrev stops : Stop voc → Result (A × voc.state) (Stop voc)
    stops e = Err e

    abbrev rest_of : Result (A × voc.state) (Stop voc) → List Terminal
    rest_of (Ok t) = []
    rest_of (Err e) = e.rest

    module _ (ok : p.decides ≡ true) (oks : (n : voc.nonterminal) → (voc.ahead n).decides ≡ true) where
      pub text_is_read : (a : A) (z : voc.state) (ts : List Terminal) → IsText voc productions g d x a z ts → read_text voc productions g d x ts ≡ Ok (a, z)
      text_is_read a z ts t =
          let r =
          spelled_is_read voc (SpelledTo voc productions d) (read_to voc productions d) (depth_starts voc productions d) (depth_takes voc productions d)
          (depth_complete voc productions oks d) g ok x a (λ y rest. (y ≡ z) × (rest ≡ [])) ts t
          (λ y us k. subst (λ us. starts p.continues us ≡ false) (sym k.1) refl) in
          ap (ended voc) r.reads ∙ (λ i. at_end voc a (r.behind.0 i) (r.behind.1 i))

      never_ends : (b : A) (y : voc.state) (s : Terminal) (us r : List Terminal) (a : A) (z : voc.state) → at_end voc b y (us ++ s ∷ r) ≡ Ok (a, z) → ⊥
      never_ends b y s [] r a z e = cc
      never_ends b y s (u ∷ us) r a z e = cc

      too_short : (s : Terminal) (r ts : List Terminal) → ts ≡ s ∷ r → length ts ≤ length r → ⊥
      too_short s r ts e l = let same = ap length e in omega (arith, same, l)

      err_rest : (e e' : Stop voc) → stops e ≡ stops e' → e.rest ≡ e'.rest
      err_rest e e' h = ap (λ r. rest_of r) h

      kept_short : (s : Terminal) (r : List Terminal) (fault : voc.fault) (o : Outcome voc A) → ended voc o ≡ stops (record { fault = fault; rest = s ∷ r })
          → Keeps voc (length r) o → ⊥
      kept_short s r fault (Ok f) e k = at f.value f.state f.rest e k
        where
          at : (b : A) (y : voc.state) (ts : List Terminal) → at_end voc b y ts ≡ stops (record { fault = fault; rest = s ∷ r }) → length ts ≤ length r → ⊥
          at b y [] e k = cc
          at b y (v ∷ vs) e k =
              too_short s r (v ∷ vs) (err_rest (record { fault = voc.expected; rest = v ∷ vs }) (record { fault = fault; rest = s ∷ r }) e) k
      kept_short s r fault (Err d) e k = too_short s r d.rest (err_rest d (record { fault = fault; rest = s ∷ r }) e) k

      -- a fault that stands at some terminal: no text begins with the terminals up to this one
      pub fault_is_first : (pre : List Terminal) (s : Terminal) (r : List Terminal) (fault : voc.fault)
          → read_text voc productions g d x (pre ++ s ∷ r) ≡ Err (record { fault = fault; rest = s ∷ r })
          → (r' : List Terminal) (a : A) (z : voc.state) → IsText voc productions g d x a z (pre ++ s ∷ r') → ⊥
      fault_is_first pre s r fault e r' a z t =
          go (read_local voc s r r' (read_to voc productions d) (depth_takes voc productions d) (depth_keeps voc productions d)
          (depth_local voc productions oks s r r' d) g ok x pre)
        where
          reads : read_text voc productions g d x (pre ++ s ∷ r') ≡ Ok (a, z)
          reads = text_is_read a z (pre ++ s ∷ r') t

          go : Twin voc s r r' (read voc (read_to voc productions d) g x (pre ++ s ∷ r)) (read voc (read_to voc productions d) g x (pre ++ s ∷ r')) → ⊥
          go (BothRead b y us h h') = never_ends b y s us r' a z (ap (ended voc) (sym h') ∙ reads)
          go (BothStop f us h h') = let same : stops (record { fault = f; rest = us ++ s ∷ r' }) ≡ Ok (a, z) = ap (ended voc) (sym h') ∙ reads in absurd cc
          go (IsPast kept) = kept_short s r fault (read voc (read_to voc productions d) g x (pre ++ s ∷ r)) e kept

  -- ---- however deep

  module _ {p : Lookahead} {A : Type 0} (g : Grammar voc p A) (x : voc.state) where
    pub deep_is_spelled : (a : A) (z : voc.state) (ts : List Terminal) → read_deep voc productions g x ts ≡ Ok (a, z)
        → IsTextOfAnyDepth voc productions g x a z ts
    deep_is_spelled a z ts e = (suc (length ts), text_is_spelled g (suc (length ts)) x a z ts e)

    module _ (ok : p.decides ≡ true) (oks : (n : voc.nonterminal) → (voc.ahead n).decides ≡ true)
        (each : (n : voc.nonterminal) → guarded (productions n) ≡ true) where
      pub deep_is_read : (a : A) (z : voc.state) (ts : List Terminal) → IsTextOfAnyDepth voc productions g x a z ts
          → read_deep voc productions g x ts ≡ Ok (a, z)
      deep_is_read a z ts t =
          text_is_read g (suc (length ts)) x ok oks a z ts
          (text_moves voc (length ts) (SpelledTo voc productions t.0) (SpelledTo voc productions (suc (length ts)))
          (deep_enough voc productions each (length ts) t.0) g x a (λ y rest. (y ≡ z) × (rest ≡ [])) (λ y rest. (y ≡ z) × (rest ≡ [])) ts (omega arith)
          (λ y us l k. k) t.1)

-- No text has more nonterminals over one another than terminals, where a terminal stands before each of them.
use Rattle.std.proofs.Common.{◌≡◌, ℕ, zero, suc, ◌+◌, ◌≤◌, Bool, true, false, not, List, [], ◌∷◌, length, Option, Some, None, inl, inr, subst, arith}
use Rattle.grammar.specs.Terminals.{Terminal}
use Rattle.grammar.specs.Grammar.{Vocabulary, Grammar, empty, terminal, sequence, choice, repetition, named, widened, Productions, guarded}
use Rattle.grammar.specs.Lookahead.{Lookahead}
use Rattle.grammar.specs.Spelling.{Behind, Spelling, SpellsEach, Spells, SpelledTo}
use Rattle.std.proofs.lemmas.Bool.{and_parts, not-true}
use Rattle.grammar.specs.ChoiceLaws.{least, least_and, least_left, least_right, least_implied}
use Rattle.grammar.specs.CompleteLaws.{within_parts}

module _ (voc : Vocabulary) where
  -- what may stand behind a part, and what else may, where the part takes a terminal or none
  abbrev pub Leads : Bool → Behind voc → Behind voc → List Terminal → Type 0
  Leads nullable K K' ts = (y : voc.state) (us : List Terminal) → length us + least nullable ≤ length ts → K y us → K' y us

  -- what is spelled one way is spelled another way, in texts up to some length
  abbrev pub Moves : ℕ → Bool → {A : Type 0} → Spelling voc A → Spelling voc A → Type 1
  Moves m nullable {A} S S' =
      (x : voc.state) (a : A) (K K' : Behind voc) (ts : List Terminal) → length ts ≤ m → Leads nullable K K' ts → S x a K ts → S' x a K' ts

  leads_less : (b : Bool) (K K' : Behind voc) (ts us : List Terminal) → Leads true K K' ts → length us ≤ length ts → Leads b K K' us
  leads_less b K K' ts us leads l y vs few k = leads y vs (omega (arith, l, few)) k

  each_moves : (m : ℕ) (b : Bool) {A : Type 0} (S S' : Spelling voc (Option A)) → Moves m b S S' → Moves m true (SpellsEach voc S) (SpellsEach voc S')
  each_moves m b S S' moves x [] K K' ts l leads (inl k) = inl (leads x ts (omega arith) k)
  each_moves m b S S' moves x [] K K' ts l leads (inr s) = inr (moves x None K K' ts l (leads_less b K K' ts ts leads (omega arith)) s)
  each_moves m b S S' moves x (a ∷ others) K K' ts l leads s =
      moves x (Some a) (λ y. SpellsEach voc S y others K) (λ y. SpellsEach voc S' y others K') ts l
      (λ y us few t. each_moves m b S S' moves y others K K' us (omega (arith, l, few)) (leads_less true K K' ts us leads (omega (arith, few))) t)
      s

  module _ (m : ℕ) (S S' : (n : voc.nonterminal) → Spelling voc (voc.denoted n))
      (env : (n : voc.nonterminal) → Moves m (voc.ahead n).nullable (S n) (S' n)) where
    pub text_moves : {p : Lookahead} {A : Type 0} (g : Grammar voc p A) → Moves m p.nullable (Spells voc S g) (Spells voc S' g)
    text_moves (empty b) x a K K' ts l leads s = (s.0, leads x ts (omega arith) s.1)
    text_moves (terminal class take) x a K K' [] l leads s = absurd s
    text_moves (terminal class take) x a K K' (first ∷ ts) l leads s = (s.0, s.1, s.2, leads s.0 ts (omega arith) s.3)
    text_moves (sequence {p = p} {q = q} g h) x a K K' ts l leads s = (
      s.0,
      text_moves g x s.0 (λ y. Spells voc S (h s.0) y a K) (λ y. Spells voc S' (h s.0) y a K') ts l
          (λ y us few t.
          text_moves (h s.0) y a K K' us (omega (arith, l, few))
          (λ z vs less k. leads z vs (let both = least_and p.nullable q.nullable in omega (arith, both, few, less)) k)
          t)
          s.1,
    )
    text_moves (choice {p = p} {q = q} g h) x a K K' ts l leads (inl s) =
        inl (text_moves g x a K K' ts l (λ y us few k. leads y us (let less = least_left p.nullable q.nullable in omega (arith, less, few)) k) s)
    text_moves (choice {p = p} {q = q} g h) x a K K' ts l leads (inr s) =
        inr (text_moves h x a K K' ts l (λ y us few k. leads y us (let less = least_right p.nullable q.nullable in omega (arith, less, few)) k) s)
    text_moves (repetition {p = p} g) x a K K' ts l leads s = each_moves m p.nullable (Spells voc S g) (Spells voc S' g) (text_moves g) x a K K' ts l leads s
    text_moves (named n) x a K K' ts l leads s = env n x a K K' ts l leads s
    text_moves (widened {p = p} q sub g) x a K K' ts l leads s =
        text_moves g x a K K' ts l (λ y us few k. leads y us
        (let less = least_implied p.nullable q.nullable (within_parts voc p q sub).0 in omega (arith, less, few)) k) s

  module _ (m : ℕ) (S S' : (n : voc.nonterminal) → Spelling voc (voc.denoted n))
      (env : (k : ℕ) → suc k ≤ m → (n : voc.nonterminal) → Moves k (voc.ahead n).nullable (S n) (S' n)) where
    pub guarded_moves : {p : Lookahead} {A : Type 0} (g : Grammar voc p A) → guarded g ≡ true → Moves m p.nullable (Spells voc S g) (Spells voc S' g)
    guarded_moves (empty b) ok x a K K' ts l leads s = (s.0, leads x ts (omega arith) s.1)
    guarded_moves (terminal class take) ok x a K K' [] l leads s = absurd s
    guarded_moves (terminal class take) ok x a K K' (first ∷ ts) l leads s = (s.0, s.1, s.2, leads s.0 ts (omega arith) s.3)
    guarded_moves (sequence {p = p} {q = q} g h) ok x a K K' ts l leads s =
        let oks = and_parts (guarded g) (not p.nullable) ok in
        let never = not-true p.nullable oks.1 in (
          s.0,
          guarded_moves g oks.0 x s.0 (λ y. Spells voc S (h s.0) y a K) (λ y. Spells voc S' (h s.0) y a K') ts l
              (λ y us few t.
              let less : length us + least false ≤ length ts = subst (λ b. length us + least b ≤ length ts) never few in
              text_moves (length us) S S' (env (length us) (omega (arith, less, l))) (h s.0) y a K K' us (omega arith)
              (λ z vs left k. leads z vs (let both = least_and p.nullable q.nullable in omega (arith, both, few, left)) k)
              t)
              s.1,
        )
    guarded_moves (choice {p = p} {q = q} g h) ok x a K K' ts l leads (inl s) =
        inl (guarded_moves g (and_parts (guarded g) (guarded h) ok).0 x a K K' ts l
        (λ y us few k. leads y us (let less = least_left p.nullable q.nullable in omega (arith, less, few)) k) s)
    guarded_moves (choice {p = p} {q = q} g h) ok x a K K' ts l leads (inr s) =
        inr (guarded_moves h (and_parts (guarded g) (guarded h) ok).1 x a K K' ts l
        (λ y us few k. leads y us (let less = least_right p.nullable q.nullable in omega (arith, less, few)) k) s)
    guarded_moves (repetition {p = p} g) ok x a K K' ts l leads s = absurd cc
    guarded_moves (named n) ok x a K K' ts l leads s = absurd cc
    guarded_moves (widened {p = p} q sub g) ok x a K K' ts l leads s =
        guarded_moves g ok x a K K' ts l
        (λ y us few k. leads y us (let less = least_implied p.nullable q.nullable (within_parts voc p q sub).0 in omega (arith, less, few)) k) s

  module _ (productions : Productions voc) (each : (n : voc.nonterminal) → guarded (productions n) ≡ true) where
    pub deep_enough : (m d : ℕ) (n : voc.nonterminal) → Moves m (voc.ahead n).nullable (SpelledTo voc productions d n) (SpelledTo voc productions (suc m) n)
    deep_enough m zero n x a K K' ts l leads s = absurd s
    deep_enough zero (suc d) n x a K K' ts l leads s =
        guarded_moves zero (SpelledTo voc productions d) (SpelledTo voc productions zero) (λ k e n. absurd (omega (arith, e))) (productions n)
        (each n) x a K K' ts l leads s
    deep_enough (suc m) (suc d) n x a K K' ts l leads s =
        guarded_moves (suc m) (SpelledTo voc productions d) (SpelledTo voc productions (suc m))
        (λ k e n x a K K' ts l leads s. deep_enough m d n x a K K' ts (omega (arith, e, l)) leads s)
        (productions n) (each n) x a K K' ts l leads s

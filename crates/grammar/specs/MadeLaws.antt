-- Each value that a text denotes is made of parts as the grammar says: what each production keeps holds of each value that a text denotes.
use Rattle.std.specs.Prelude.{◌≡◌, refl, ℕ, zero, suc, List, [], ◌∷◌, Ok, Option, Some, None}
use Rattle.std.proofs.Common.{◌⊎◌, inl, inr, subst}
use Rattle.grammar.specs.Terminals.{Terminal}
use Rattle.grammar.specs.Lookahead.{Lookahead}
use Rattle.grammar.specs.Grammar.{Vocabulary, Grammar, empty, terminal, sequence, choice, repetition, named, widened, Productions}
use Rattle.grammar.specs.Spelling.{Behind, Spelling, SpellsEach, Spells, SpelledTo, AtEnd, IsText}
use Rattle.grammar.specs.Made.{Fact, MadeOfEach, Made}
use Rattle.grammar.specs.Reading.{Reading, read, read_to}
use Rattle.grammar.specs.SoundLaws.{read_is_spelled}
use Rattle.grammar.specs.DepthLaws.{depth_sound}

module _ (voc : Vocabulary) where
  -- the fact holds up to some state, and what is asked behind holds there
  pub record Ended {A : Type 0} (F : Fact voc A) (x : voc.state) (a : A) (K : Behind voc) : Type 0 where
    pub state : voc.state
    pub rest : List Terminal
    pub made : F x a state
    pub behind : K state rest

  -- what is spelled has the fact
  abbrev pub Gives : {A : Type 0} → Spelling voc A → Fact voc A → Type 1
  Gives {A} S F = (x : voc.state) (a : A) (K : Behind voc) (ts : List Terminal) → S x a K ts → Ended F x a K

  each_made : {A : Type 0} (S : Spelling voc (Option A)) (F : Fact voc (Option A)) → Gives S F → Gives (SpellsEach voc S) (MadeOfEach voc F)
  each_made S F gives x [] K ts (inl k) = record { state = x; rest = ts; made = inl refl; behind = k }
  each_made S F gives x [] K ts (inr s) =
      let item = gives x None K ts s in
      record { state = item.state; rest = item.rest; made = inr item.made; behind = item.behind }
  each_made S F gives x (a ∷ others) K ts s =
      let item = gives x (Some a) (λ y. SpellsEach voc S y others K) ts s in
      let left = each_made S F gives item.state others K item.rest item.behind in
      record { state = left.state; rest = left.rest; made = (item.state, item.made, left.made); behind = left.behind }

  module _ (S : (n : voc.nonterminal) → Spelling voc (voc.denoted n)) (Named : (n : voc.nonterminal) → Fact voc (voc.denoted n))
      (env : (n : voc.nonterminal) → Gives (S n) (Named n)) where
    pub spelled_made : {p : Lookahead} {A : Type 0} (g : Grammar voc p A) → Gives (Spells voc S g) (Made voc Named g)
    spelled_made (empty b) x a K ts s = record { state = x; rest = ts; made = (s.0, refl); behind = s.1 }
    spelled_made (terminal class take) x a K [] s = absurd s
    spelled_made (terminal class take) x a K (t ∷ ts) s = record { state = s.0; rest = ts; made = (t, s.1, s.2); behind = s.3 }
    spelled_made (sequence g h) x a K ts s =
        let first = spelled_made g x s.0 (λ y. Spells voc S (h s.0) y a K) ts s.1 in
        let second = spelled_made (h s.0) first.state a K first.rest first.behind in
        record { state = second.state; rest = second.rest; made = (s.0, first.state, first.made, second.made); behind = second.behind }
    spelled_made (choice g h) x a K ts (inl s) =
        let first = spelled_made g x a K ts s in
        record { state = first.state; rest = first.rest; made = inl first.made; behind = first.behind }
    spelled_made (choice g h) x a K ts (inr s) =
        let second = spelled_made h x a K ts s in
        record { state = second.state; rest = second.rest; made = inr second.made; behind = second.behind }
    spelled_made (repetition g) x a K ts s = each_made (Spells voc S g) (Made voc Named g) (spelled_made g) x a K ts s
    spelled_made (named n) x a K ts s = env n x a K ts s
    spelled_made (widened q sub g) x a K ts s =
        let inner = spelled_made g x a K ts s in
        record { state = inner.state; rest = inner.rest; made = inner.made; behind = inner.behind }

  module _ (productions : Productions voc) (Named : (n : voc.nonterminal) → Fact voc (voc.denoted n))
      (kept : (n : voc.nonterminal) (x : voc.state) (a : voc.denoted n) (y : voc.state) → Made voc Named (productions n) x a y → Named n x a y) where
    depth_made : (depth : ℕ) (n : voc.nonterminal) → Gives (SpelledTo voc productions depth n) (Named n)
    depth_made zero n x a K ts s = absurd s
    depth_made (suc depth) n x a K ts s =
        let inner = spelled_made (SpelledTo voc productions depth) Named (depth_made depth) (productions n) x a K ts s in
        record { state = inner.state; rest = inner.rest; made = kept n x a inner.state inner.made; behind = inner.behind }

    -- whatever each production keeps of the values of nonterminals
    pub text_made : {p : Lookahead} {A : Type 0} (g : Grammar voc p A) (depth : ℕ) (x : voc.state) (a : A) (z : voc.state) (ts : List Terminal)
        → IsText voc productions g depth x a z ts → Made voc Named g x a z
    text_made g depth x a z ts t =
        let whole = spelled_made (SpelledTo voc productions depth) Named (depth_made depth) g x a (AtEnd voc z) ts t in
        subst (Made voc Named g x a) whole.behind.0 whole.made

    -- so is what is read, whatever stands behind it
    pub read_made : {p : Lookahead} {A : Type 0} (g : Grammar voc p A) (depth : ℕ) (x : voc.state) (ts : List Terminal) (f : Reading voc A)
        → read voc (read_to voc productions depth) g x ts ≡ Ok f → Made voc Named g x f.value f.state
    read_made g depth x ts f e =
        let spelled = read_is_spelled voc (SpelledTo voc productions depth) (read_to voc productions depth) (depth_sound voc productions depth) g x ts f e
        (λ y rest. y ≡ f.state) refl in
        let whole = spelled_made (SpelledTo voc productions depth) Named (depth_made depth) g x f.value (λ y rest. y ≡ f.state) ts spelled in
        subst (Made voc Named g x f.value) whole.behind whole.made

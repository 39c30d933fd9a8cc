-- Laws of reading where each item that is read is added to what is held, and no list of items is made.
use Rattle.std.proofs.Common.{◌≡◌, Bool, true, false, not, cond, ◌&&◌, ◌||◌, List, [], ◌∷◌, ◌++◌, Option, Some, None, Ok, Err, is_some, refl, sym, ap, ◌∙◌, subst, length, ◌+◌, ◌≤◌, ◌<◌, arith}
use Rattle.std.proofs.lemmas.List.{append-nil}
use Rattle.grammar.specs.ChoiceLaws.{least, cond_true, cond_false}
use Rattle.grammar.specs.Grammar.{Grammar, sequence, choice, repetition}
use Rattle.grammar.specs.Lookahead.{Lookahead, nothing, if_so, ◌⨟◌}
use Rattle.grammar.specs.Reading.{takes_first}
use Rattle.grammar.specs.Terminals.{Terminal, starts}
use Rattle.grammar.specs.Words.{each_behind_comma_then_maybe_one, listed, mark, maybe_none, optional}
use Rattle.rule_spelling.specs.RuleFiles.{rule_files}
use Rattle.term_read.specs.declared.fault.RuleFault.{RuleFault}
use Rattle.term_read.specs.declared.fault.RuleFault.TheVariants.{OutOfMemory}
use Rattle.term_read.specs.Source.{Source, Answer, ◌then◌, item_then, reads}
use Rattle.term_read.specs.ReadingLaws.{each_goes, shorter}

-- an answer with another value
abbrev pub mapped : {A B : Type 0} → (A → B) → Answer A → Answer B
mapped f o = o then λ a s. Ok (f a, s)

-- an item is added where there is one
abbrev pub with_found : {A B : Type 0} → (B → A → B) → B → Option A → B
with_found step b None = b
with_found step b (Some a) = step b a

-- whether there was an item, and what is held then
abbrev pub added : {A B : Type 0} → (B → A → B) → B → Option A → Bool × B
added step b found = (is_some found, with_found step b found)

-- ---- answers

abbrev pub gave : {A : Type 0} → A × Source → Answer A
gave found = Ok found

gave_same : {A : Type 0} (found other : A × Source) → gave found ≡ gave other → found ≡ other
gave_same found other e = cc

-- what an answer with another value tells of the answer
pub mapped_ok : {A B : Type 0} (f : A → B) (o : Answer A) (b : B) (s : Source) → mapped f o ≡ Ok (b, s) → (a : A) × (o ≡ Ok (a, s)) × (f a ≡ b)
mapped_ok f (Ok found) b s e =
    let same = gave_same (f found.0, found.1) (b, s) e in
    (found.0, (λ i. gave (found.0, (same i).1)), (λ i. (same i).0))
mapped_ok f (Err fault) b s e = absurd cc

-- the same fault of another answer
abbrev refault : {A B : Type 0} → Answer B → Answer A
refault (Ok found) = Err OutOfMemory
refault (Err fault) = Err fault

pub mapped_err : {A B : Type 0} (f : A → B) (o : Answer A) (fault : RuleFault) → mapped f o ≡ Err fault → o ≡ Err fault
mapped_err f (Ok found) fault e = absurd cc
mapped_err f (Err other) fault e = ap refault e

-- less is left
pub mapped_less : {p : Lookahead} {A B : Type 0} (f : A → B) (g : Grammar rule_files p A) → p.nullable ≡ false → (s : Source) (b : B) (s' : Source)
    → mapped f (reads g s) ≡ Ok (b, s') → length s'.rest < length s.rest
mapped_less f g never s b s' e =
    let found = mapped_ok f (reads g s) b s' e in
    let less = subst (λ n. length s'.rest + least n ≤ length s.rest) never (shorter g s found.0 s' found.1) in
    omega (arith, less)

-- ---- choices

starts_same : (p : Lookahead) (rest : List Terminal) → starts (p ⨟ nothing).firsts rest ≡ starts p.firsts rest
starts_same p rest = ap (λ firsts. starts (p.firsts ++ firsts) rest) (none p.nullable) ∙ ap (λ firsts. starts firsts rest) (append-nil p.firsts)
  where
    none : (b : Bool) → if_so b [] ≡ []
    none true = refl
    none false = refl

first_is : (p q : Lookahead) (rest : List Terminal) (b : Bool) → p.nullable ≡ false → starts p.firsts rest ≡ b → takes_first rule_files p q rest ≡ b
first_is p q rest b never begun =
    ap (λ (n : Bool). starts p.firsts rest || (n && not (starts q.firsts rest))) never ∙ ap (λ (m : Bool). m || false) begun ∙ or_none b
  where
    or_none : (b : Bool) → (b || false) ≡ b
    or_none true = refl
    or_none false = refl

module _ {p : Lookahead} {A : Type 0} (s : Source) (never : p.nullable ≡ false) where
  -- the first of two grammars is read where one of its texts begins, else the second
  pub first_reads : {q : Lookahead} (g : Grammar rule_files p A) (h : Grammar rule_files q A) → starts p.firsts s.rest ≡ true
      → reads (choice g h) s ≡ reads g s
  first_reads {q = q} g h begun = cond_true (takes_first rule_files p q s.rest) _ _ _ (first_is p q s.rest true never begun) refl

  pub second_reads : {q : Lookahead} (g : Grammar rule_files p A) (h : Grammar rule_files q A) → starts p.firsts s.rest ≡ false
      → reads (choice g h) s ≡ reads h s
  second_reads {q = q} g h none = cond_false (takes_first rule_files p q s.rest) _ _ _ (first_is p q s.rest false never none) refl

  -- an item or none
  pub optional_reads : (g : Grammar rule_files p A) → starts p.firsts s.rest ≡ true → reads (optional rule_files g) s ≡ mapped (λ a. Some a) (reads g s)
  optional_reads g begun =
      cond_true (takes_first rule_files (p ⨟ nothing) nothing s.rest) _ _ _
      (first_is (p ⨟ nothing) nothing s.rest true (ap (λ (n : Bool). n && true) never) (starts_same p s.rest ∙ begun)) refl

  pub some_reads : (g : Grammar rule_files p (List A)) → starts p.firsts s.rest ≡ true → reads (maybe_none rule_files g) s ≡ reads g s
  some_reads g begun = cond_true (takes_first rule_files p nothing s.rest) _ _ _ (first_is p nothing s.rest true never begun) refl

-- a comma and an item behind it, which is added
pub sought_adds : {p : Lookahead} {A B : Type 0} (step : B → A → B) (g : Grammar rule_files p A) → p.nullable ≡ false → (b : B) (s s' : Source)
    → reads (mark rule_files 44) s ≡ Ok (tt, s') → starts p.firsts s'.rest ≡ true
    → mapped (added step b) (reads (sequence (mark rule_files 44) (λ _. optional rule_files g)) s)
    ≡ (mapped (step b) (reads g s') then λ b s. Ok ((true, b), s))
sought_adds {A = A} {B = B} step g never b s s' comma begun =
    ap (λ (o : Answer (Unit {0})). mapped (added step b) (o then λ _ s. reads (optional rule_files g) s)) comma
    ∙ ap (mapped (added step b)) (optional_reads s' never g begun)
    ∙ go (reads g s')
  where
    go : (o : Answer A) → mapped (added step b) (mapped (λ a. Some a) o) ≡ (mapped (step b) o then λ b s. Ok ((true, b), s))
    go (Ok found) = refl
    go (Err fault) = refl

-- ---- many items

module _ {A B : Type 0} (fold : B → List A → B) (step : B → A → B) (nil : (b : B) → fold b [] ≡ b)
    (more : (b : B) (a : A) (list : List A) → fold b (a ∷ list) ≡ fold (step b a) list) where
  before : (b : B) (a : A) (o : Answer (List A)) → mapped (fold b) (o then λ list s. Ok (a ∷ list, s)) ≡ mapped (fold (step b a)) o
  before b a (Ok found) = ap (λ b. gave (b, found.1)) (more b a found.0)
  before b a (Err fault) = refl

  -- an item, and then the others behind commas
  pub listed_folds : {p : Lookahead} (g : Grammar rule_files p A) (b : B) (s : Source)
      → mapped (fold b) (reads (listed rule_files g) s)
      ≡ (mapped (step b) (reads g s) then λ b s. mapped (fold b) (reads (each_behind_comma_then_maybe_one rule_files g) s))
  listed_folds g b s = go (reads g s)
    where
      go : (o : Answer A)
          → mapped (fold b) (o then λ first s. reads (each_behind_comma_then_maybe_one rule_files g) s then λ others s. Ok (first ∷ others, s))
          ≡ (mapped (step b) o then λ b s. mapped (fold b) (reads (each_behind_comma_then_maybe_one rule_files g) s))
      go (Ok found) = before b found.0 (reads (each_behind_comma_then_maybe_one rule_files g) found.1)
      go (Err fault) = refl

  abbrev goes : (Source → Answer (List A)) → Bool → B → Source → Answer B
  goes others found b s = cond found (mapped (fold b) (others s)) (Ok (b, s))

  turn : (b b' : B) (more_found : Bool) (s' : Source) (o : Answer (Option A)) (others : Source → Answer (List A))
      → mapped (added step b) o ≡ Ok ((more_found, b'), s')
      → mapped (fold b) (o then λ found s. item_then found s others) ≡ goes others more_found b' s'
  turn b b' more_found s' (Ok (None, s)) others e =
      ap (λ b. gave (b, s)) (nil b)
      ∙ ap (λ (found : (Bool × B) × Source). goes others found.0.0 found.0.1 found.1) (gave_same (added step b None, s) ((more_found, b'), s') e)
  turn b b' more_found s' (Ok (Some a, s)) others e =
      before b a (others s)
      ∙ ap (λ (found : (Bool × B) × Source). goes others found.0.0 found.0.1 found.1) (gave_same (added step b (Some a), s) ((more_found, b'), s') e)
  turn b b' more_found s' (Err fault) others e = absurd cc

  module _ {p : Lookahead} (g : Grammar rule_files p (Option A)) (never : p.nullable ≡ false) (b : B) (s : Source) (total : Answer B)
      (so_far : mapped (fold b) (reads (repetition g) s) ≡ total) where
    -- an item was read and added, or the end of the items was read
    pub fold_turns : (more_found : Bool) (b' : B) (s' : Source) → starts p.firsts s.rest ≡ true → mapped (added step b) (reads g s) ≡ Ok ((more_found, b'), s')
        → total ≡ cond more_found (mapped (fold b') (reads (repetition g) s')) (Ok (b', s'))
    fold_turns more_found b' s' begun is =
        sym so_far ∙ ap (mapped (fold b)) (each_goes g s never begun) ∙ turn b b' more_found s' (reads g s) (reads (repetition g)) is

    -- an item is not read
    pub fold_fails : (fault : RuleFault) → starts p.firsts s.rest ≡ true → mapped (added step b) (reads g s) ≡ Err fault → total ≡ Err fault
    fold_fails fault begun is =
        sym so_far
        ∙ ap (mapped (fold b)) (each_goes g s never begun
        ∙ ap (λ o. o then λ found s'. item_then found s' (reads (repetition g))) (mapped_err (added step b) (reads g s) fault is))

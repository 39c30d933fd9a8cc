-- Laws of reading what is left of a text: a nonterminal is read by its production, and a repetition item by item.
use Rattle.std.proofs.Common.{◌≡◌, ℕ, zero, suc, ◌+◌, ◌≤◌, ◌<◌, Bool, true, false, cond, List, [], ◌∷◌, ◌++◌, length, Option, Some, None, Result, Ok, Err, refl, sym, ap, ◌∙◌, subst, append_assoc, arith}
use Rattle.std.proofs.lemmas.List.{append-nil}
use Rattle.rule_term.specs.Terms.{Terms}
use Rattle.grammar.specs.AnyDepthLaws.{read_any, named_is_production}
use Rattle.grammar.specs.ChoiceLaws.{least, cond_true, cond_false}
use Rattle.grammar.specs.CompleteLaws.{read_takes}
use Rattle.grammar.specs.DepthLaws.{depth_takes}
use Rattle.grammar.specs.Grammar.{Grammar, empty, terminal, sequence, choice, repetition, named, widened, guarded}
use Rattle.grammar.specs.Lookahead.{Lookahead}
use Rattle.grammar.specs.Reading.{Reading, Stop, Outcome, Reader, takes_first, and_then, read_each, read}
use Rattle.grammar.specs.Reading as reading
use Rattle.grammar.specs.Terminals.{Terminal, Class, starts}
use Rattle.rule_spelling.specs.RuleFiles.{rule_files, productions, expr}
use Rattle.rule_spelling.specs.Tokens.{Place, Search, Replace, Evidence}
use Rattle.term_read.specs.declared.fault.RuleFault.{RuleFault}
use Rattle.term_read.specs.declared.fault.RuleFault.TheVariants.{Lex, Expected, UnknownOp, Arity, Unbound, TooLarge, BadOption, Excluded, Weight, OutOfMemory}
use Rattle.term_read.specs.Gives.{Fails}
use Rattle.term_read.specs.Source.{Source, Answer, answer, ◌then◌, item_then, reads, reads_each, reads_named}

pub guarded_all : (place : Place) → guarded (productions place) ≡ true
guarded_all Search = refl
guarded_all Replace = refl
guarded_all Evidence = refl

abbrev pub any : (place : Place) → Reader rule_files Terms
any = read_any rule_files productions guarded_all

-- ---- what is read is what the grammar reads

part_is : {A B : Type 0} (text : List ℕ) (o : Outcome rule_files A) (k : A → Source → Answer B) (k' : Reading rule_files A → Outcome rule_files B)
    → ((f : Reading rule_files A) → k f.value (record { text = text; state = f.state; rest = f.rest }) ≡ answer text (k' f))
    → (answer text o then k) ≡ answer text (and_then rule_files o k')
part_is text (Ok f) k k' same = same f
part_is text (Err e) k k' same = refl

either_is : {A : Type 0} (text : List ℕ) (b : Bool) (u v : Answer A) (u' v' : Outcome rule_files A) → u ≡ answer text u' → v ≡ answer text v'
    → cond b u v ≡ answer text (cond b u' v')
either_is text true u v u' v' same other = same
either_is text false u v u' v' same other = other

item_is : {A : Type 0} (text : List ℕ) (found : Option A) (f : Reading rule_files (Option A)) (k : Source → Answer (List A)) (k' : Reader rule_files (List A))
    → k (record { text = text; state = f.state; rest = f.rest }) ≡ answer text (k' f.state f.rest)
    → item_then found (record { text = text; state = f.state; rest = f.rest }) k ≡ answer text (reading.item_then rule_files found f k')
item_is text None f k k' same = refl
item_is text (Some a) f k k' same =
    ap (λ o. o then λ list s'. Ok (a ∷ list, s')) same
    ∙ part_is text (k' f.state f.rest) (λ list s'. Ok (a ∷ list, s')) (λ g. Ok (record { value = a ∷ g.value; state = g.state; rest = g.rest })) (λ g. refl)

each_is : {A : Type 0} (firsts : List Class) (item : Source → Answer (Option A)) (item' : Reader rule_files (Option A))
    → ((s : Source) → item s ≡ answer s.text (item' s.state s.rest)) → (n : ℕ) (s : Source)
    → reads_each firsts item n s ≡ answer s.text (read_each rule_files firsts item' n s.state s.rest)
each_is firsts item item' same zero s = refl
each_is firsts item item' same (suc n) s =
    either_is s.text (starts firsts s.rest) _ _ _ _
    (ap (λ o. o then (λ found s'. item_then found s' (reads_each firsts item n))) (same s)
    ∙ part_is s.text (item' s.state s.rest) (λ found s'. item_then found s' (reads_each firsts item n))
    (λ f. reading.item_then rule_files f.value f (read_each rule_files firsts item' n))
    (λ f. item_is s.text f.value f (reads_each firsts item n) (read_each rule_files firsts item' n)
    (each_is firsts item item' same n (record { text = s.text; state = f.state; rest = f.rest }))))
    refl

pub reads_is : {p : Lookahead} {A : Type 0} (g : Grammar rule_files p A) (s : Source) → reads g s ≡ answer s.text (read rule_files any g s.state s.rest)
unfolding reads_named
reads_is (empty a) s = refl
reads_is (terminal class take) s = refl
reads_is (sequence g h) s =
    ap (λ o. o then λ b s'. reads (h b) s') (reads_is g s)
    ∙ part_is s.text (read rule_files any g s.state s.rest) (λ b s'. reads (h b) s') (λ f. read rule_files any (h f.value) f.state f.rest)
    (λ f. reads_is (h f.value) (record { text = s.text; state = f.state; rest = f.rest }))
reads_is (choice {p = p} {q = q} g h) s = either_is s.text (takes_first rule_files p q s.rest) _ _ _ _ (reads_is g s) (reads_is h s)
reads_is (repetition {p = p} g) s = each_is p.firsts (reads g) (read rule_files any g) (reads_is g) (length s.rest) s
reads_is (named place) s = refl
reads_is (widened q sub g) s = reads_is g s

-- ---- nonterminals

pub named_reads : (place : Place) (s : Source) → reads_named place s ≡ reads (expr place) s
unfolding reads_named
named_reads place s = ap (answer s.text) (named_is_production rule_files productions guarded_all place s.state s.rest) ∙ sym (reads_is (productions place) s)

-- ---- how many terminals are left

abbrev rest_or : {A : Type 0} → List Terminal → Answer A → List Terminal
rest_or rest (Ok found) = found.1.rest
rest_or rest (Err fault) = rest

answer_shorter : {A : Type 0} (text : List ℕ) (size more : ℕ) (o : Outcome rule_files A) (a : A) (s' : Source)
    → ((f : Reading rule_files A) → o ≡ Ok f → length f.rest + more ≤ size) → answer text o ≡ Ok (a, s') → length s'.rest + more ≤ size
answer_shorter text size more (Ok f) a s' short is =
    let same : f.rest ≡ s'.rest = ap (rest_or []) is in
    subst (λ (rest : List Terminal). length rest + more ≤ size) same (short f refl)
answer_shorter text size more (Err e) a s' short is = absurd cc

pub shorter : {p : Lookahead} {A : Type 0} (g : Grammar rule_files p A) (s : Source) (a : A) (s' : Source) → reads g s ≡ Ok (a, s')
    → length s'.rest + least p.nullable ≤ length s.rest
shorter {p = p} g s a s' is =
    answer_shorter s.text (length s.rest) (least p.nullable) (read rule_files any g s.state s.rest) a s'
    (λ f e. read_takes rule_files any (λ n x ts f e. depth_takes rule_files productions (suc (length ts)) n x ts f e) g s.state s.rest f e)
    (sym (reads_is g s) ∙ is)

pub less_from : (a b : ℕ) → a + 1 ≤ b → a < b
less_from a b l = omega (arith, l)

-- ---- repetitions

abbrev Takes : {A : Type 0} → (Source → Answer (Option A)) → Type 0
Takes {A} item = (s : Source) (found : Option A) (s' : Source) → item s ≡ Ok (found, s') → length s'.rest + 1 ≤ length s.rest

none_starts : (firsts : List Class) (rest : List Terminal) → length rest ≤ 0 → starts firsts rest ≡ false
none_starts firsts [] l = refl
none_starts firsts (t ∷ rest) l = absurd (omega (arith, l))

same_then : {A B : Type 0} (o : Answer A) (k k' : A → Source → Answer B) → ((a : A) (s' : Source) → o ≡ Ok (a, s') → k a s' ≡ k' a s') → (o then k) ≡ (o then k')
same_then (Ok found) k k' same = same found.0 found.1 refl
same_then (Err fault) k k' same = refl

same_item : {A : Type 0} (found : Option A) (s : Source) (k k' : Source → Answer (List A)) → k s ≡ k' s → item_then found s k ≡ item_then found s k'
same_item None s k k' same = refl
same_item (Some a) s k k' same = ap (λ o. o then λ list s'. Ok (a ∷ list, s')) same

same_choice : {A : Type 0} (b : Bool) (u u' v : Answer A) → u ≡ u' → cond b u v ≡ cond b u' v
same_choice true u u' v same = same
same_choice false u u' v same = refl

enough : {A : Type 0} (firsts : List Class) (item : Source → Answer (Option A)) → Takes item → (n m : ℕ) (s : Source) → length s.rest ≤ n → length s.rest ≤ m
    → reads_each firsts item n s ≡ reads_each firsts item m s
enough firsts item takes zero zero s l l' = refl
enough firsts item takes zero (suc m) s l l' = sym (cond_false (starts firsts s.rest) _ _ _ (none_starts firsts s.rest l) refl)
enough firsts item takes (suc n) zero s l l' = cond_false (starts firsts s.rest) _ _ _ (none_starts firsts s.rest l') refl
enough firsts item takes (suc n) (suc m) s l l' =
    same_choice (starts firsts s.rest) _ _ _
    (same_then (item s) _ _
    (λ found s' e. same_item found s' _ _
    (enough firsts item takes n m s' (let less = takes s found s' e in omega (arith, less, l)) (let less = takes s found s' e in omega (arith, less, l')))))

one_turn : {A : Type 0} (firsts : List Class) (item : Source → Answer (Option A)) → Takes item → (n : ℕ) (s : Source) → length s.rest ≡ n → starts firsts s.rest ≡ true
    → reads_each firsts item n s ≡ (item s then λ found s'. item_then found s' (λ s'. reads_each firsts item (length s'.rest) s'))
one_turn firsts item takes zero s is begun = let none = none_starts firsts s.rest (omega (arith, is)) in absurd cc
one_turn firsts item takes (suc n) s is begun =
    cond_true (starts firsts s.rest) _ _ _ begun
    (same_then (item s) _ _
    (λ found s' e. same_item found s' _ _ (enough firsts item takes n (length s'.rest) s' (let less = takes s found s' e in omega (arith, less, is)) (omega arith))))

-- an item, and then the others
pub each_goes : {p : Lookahead} {A : Type 0} (g : Grammar rule_files p (Option A)) (s : Source) → p.nullable ≡ false → starts p.firsts s.rest ≡ true
    → reads (repetition g) s ≡ (reads g s then λ found s'. item_then found s' (reads (repetition g)))
each_goes {p = p} g s never begun =
    one_turn p.firsts (reads g) (λ s found s' e. subst (λ b. length s'.rest + least b ≤ length s.rest) never (shorter g s found s' e)) (length s.rest) s refl begun

-- no item begins
pub each_ends : {p : Lookahead} {A : Type 0} (g : Grammar rule_files p (Option A)) (s : Source) → starts p.firsts s.rest ≡ false → reads (repetition g) s ≡ Ok ([], s)
each_ends {p = p} g s none = ends (length s.rest) refl
  where
    ends : (n : ℕ) → length s.rest ≡ n → reads_each p.firsts (reads g) n s ≡ Ok ([], s)
    ends zero is = refl
    ends (suc n) is = cond_false (starts p.firsts s.rest) _ _ _ none refl

-- ---- loops

-- items before those that are read
abbrev pub with_front : {A : Type 0} → List A → Answer (List A) → Answer (List A)
with_front front o = o then λ list s. Ok (front ++ list, s)

pub regroup : {A : Type 0} (front : List A) (a : A) (o : Answer (List A)) → with_front front (o then λ list s. Ok (a ∷ list, s)) ≡ with_front (front ++ a ∷ []) o
regroup front a (Ok found) = ap (λ list. Ok (list, found.1)) (sym (append_assoc front (a ∷ []) found.0))
regroup front a (Err fault) = refl

-- what begins with nothing
pub no_front : {A : Type 0} (o : Answer (List A)) → with_front [] o ≡ o
no_front (Ok found) = refl
no_front (Err fault) = refl

module _ {p : Lookahead} {A : Type 0} (g : Grammar rule_files p (Option A)) (never : p.nullable ≡ false) (front : List A) (s : Source) (total : Answer (List A))
    (so_far : with_front front (reads (repetition g) s) ≡ total) where
  -- an item was read, and stands behind those before it
  pub loop_goes : (a : A) (s' : Source) → starts p.firsts s.rest ≡ true → reads g s ≡ Ok (Some a, s') → with_front (front ++ a ∷ []) (reads (repetition g) s') ≡ total
  loop_goes a s' begun is =
      sym (regroup front a (reads (repetition g) s'))
      ∙ sym (ap (with_front front) (each_goes g s never begun ∙ ap (λ o. o then λ found s'. item_then found s' (reads (repetition g))) is))
      ∙ so_far

  -- the end of the items was read
  pub loop_closes : (s' : Source) → starts p.firsts s.rest ≡ true → reads g s ≡ Ok (None, s') → total ≡ Ok (front, s')
  loop_closes s' begun is =
      sym so_far
      ∙ ap (with_front front) (each_goes g s never begun ∙ ap (λ o. o then λ found s'. item_then found s' (reads (repetition g))) is)
      ∙ ap (λ list. Ok (list, s')) (append-nil front)

  -- an item is not read
  pub loop_fails : (fault : RuleFault) → starts p.firsts s.rest ≡ true → reads g s ≡ Err fault → total ≡ Err fault
  loop_fails fault begun is =
      sym so_far
      ∙ ap (with_front front) (each_goes g s never begun ∙ ap (λ o. o then λ found s'. item_then found s' (reads (repetition g))) is)

  -- no item begins
  pub loop_ends : starts p.firsts s.rest ≡ false → total ≡ Ok (front, s)
  loop_ends none = sym so_far ∙ ap (with_front front) (each_ends g s none) ∙ ap (λ list. Ok (list, s)) (append-nil front)

-- ---- faults

-- where a part has a fault the whole has it
pub fails : {B C : Type 0} (fault : RuleFault) (part : Result B RuleFault) (total : Result C RuleFault)
    → ((fault : RuleFault) → part ≡ Err fault → total ≡ Err fault) → Fails fault part → Fails fault total
fails (Lex fault) part total h e = h (Lex fault) e
fails (Expected place) part total h e = h (Expected place) e
fails (UnknownOp place) part total h e = h (UnknownOp place) e
fails (Arity place) part total h e = h (Arity place) e
fails (Unbound place) part total h e = h (Unbound place) e
fails (TooLarge place) part total h e = h (TooLarge place) e
fails (BadOption place) part total h e = h (BadOption place) e
fails (Excluded place) part total h e = h (Excluded place) e
fails (Weight place) part total h e = h (Weight place) e
fails OutOfMemory part total h e = tt

-- a part before others
pub fails_then : {A B : Type 0} (fault : RuleFault) (o : Answer A) (k : A → Source → Answer B) → Fails fault o → Fails fault (o then k)
fails_then fault o k e = fails fault o (o then k) (λ f is. ap (λ o. o then k) is) e

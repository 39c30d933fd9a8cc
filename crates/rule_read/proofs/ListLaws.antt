-- Lists of evidence are read item by item.
use Rattle.std.proofs.Common.{◌≡◌, ◌+◌, ◌≤◌, Bool, true, false, not, List, [], ◌∷◌, ◌++◌, ◌||◌, ◌&&◌, length, Option, Some, Ok, Err, refl, ap, ◌∙◌, arith}
use Rattle.std.proofs.lemmas.List.{append-nil}
use Rattle.grammar.specs.ChoiceLaws.{cond_true, cond_false}
use Rattle.grammar.specs.Grammar.{Grammar, empty, sequence, repetition}
use Rattle.grammar.specs.Lookahead.{one, nothing, ◌⨟◌}
use Rattle.grammar.specs.Terminals.{Class, TheMark, has, starts}
use Rattle.grammar.specs.Words.{each_behind_comma, mark}
use Rattle.rule_spelling.specs.RuleFiles.{rule_files}
use Rattle.term_read.specs.ReadingLaws.{each_ends, each_goes, regroup, shorter, with_front}
use Rattle.term_read.specs.Source.{Source, Answer, ◌then◌, item_then, reads}
use Rattle.term_read.specs.Views.{here, terminals}
use Rattle.term_read.specs.declared.point.Point.{Point}
use Rattle.rule_read.specs.Lists.{another, another_behind, inside, with_others}

-- whether a comma stands here
pub begun : (p : Point) → has (TheMark 44) (here p) ≡ true → starts (TheMark 44 ∷ []) (terminals p) ≡ true
begun p is = ap (λ b. b || false) is

pub none_begun : (p : Point) → has (TheMark 44) (here p) ≡ false → starts (TheMark 44 ∷ []) (terminals p) ≡ false
none_begun p is = ap (λ b. b || false) is

-- an item behind its comma, as repetitions have it
abbrev behind_comma : {c : Class} {A : Type 0} → Grammar rule_files (one c) A → Grammar rule_files (one (TheMark 44) ⨟ one c ⨟ nothing) (Option A)
behind_comma item = sequence (mark rule_files 44) (λ _. sequence item (λ a. empty (Some a)))

item_first : {A : Type 0} (o : Answer A) (behind : Source → Answer (List A)) (front : List A)
    → with_front front ((o then λ a s'. Ok (Some a, s')) then λ found s'. item_then found s' behind)
    ≡ ((o then λ a s'. Ok (front ++ a ∷ [], s')) then λ list s'. with_front list (behind s'))
item_first (Ok found) behind front = regroup front found.0 (behind found.1)
item_first (Err fault) behind front = refl

comma_first : {A : Type 0} (o : Answer (Unit {0})) (item : Source → Answer A) (behind : Source → Answer (List A)) (front : List A)
    → with_front front ((o then λ _ s'. (item s' then λ a s''. Ok (Some a, s''))) then λ found s'. item_then found s' behind)
    ≡ ((o then λ _ s'. (item s' then λ a s''. Ok (front ++ a ∷ [], s''))) then λ list s'. with_front list (behind s'))
comma_first (Ok found) item behind front = item_first (item found.1) behind front
comma_first (Err fault) item behind front = refl

module _ {c : Class} {A : Type 0} (item : Grammar rule_files (one c) A) (front : List A) (s : Source) where
  -- where a comma stands there is another item
  pub others_go : starts (TheMark 44 ∷ []) s.rest ≡ true → with_others item front s ≡ (another_behind item front s then with_others item)
  others_go begun =
      ap (with_front front) (each_goes (behind_comma item) s refl begun)
      ∙ comma_first (reads (mark rule_files 44) s) (reads item) (reads (repetition (behind_comma item))) front

  -- and else there is none
  pub others_end : starts (TheMark 44 ∷ []) s.rest ≡ false → with_others item front s ≡ Ok (front, s)
  others_end none = ap (with_front front) (each_ends (behind_comma item) s none) ∙ ap (λ list. Ok (list, s)) (append-nil front)

-- ---- how many terminals are left

then_took : {A B : Type 0} (o : Answer A) (k : A → Source → Answer B) (b : B) (s' : Source) → (o then k) ≡ Ok (b, s')
    → (a : A) × (s1 : Source) × (o ≡ Ok (a, s1)) × (k a s1 ≡ Ok (b, s'))
then_took (Ok found) k b s' e = (found.0, found.1, refl, e)
then_took (Err fault) k b s' e = absurd cc

abbrev source_or : {A : Type 0} → Source → Answer A → Source
source_or s (Ok found) = found.1
source_or s (Err fault) = s

module _ {c : Class} {A : Type 0} (item : Grammar rule_files (one c) A) (front list : List A) (s s' : Source) where
  pub another_shorter : another item front s ≡ Ok (list, s') → length s'.rest + 1 ≤ length s.rest
  another_shorter e =
      let took = then_took (reads item s) (λ a s'. Ok (front ++ a ∷ [], s')) list s' e in
      let less = shorter item s took.0 took.1 took.2 in
      let same : length took.1.rest ≡ length s'.rest = ap (λ (o : Answer (List A)). length (source_or s o).rest) took.3 in
      omega (arith, less, same)

module _ {c : Class} {A : Type 0} (item : Grammar rule_files (one c) A) (front list : List A) (s s' : Source) where
  pub behind_shorter : another_behind item front s ≡ Ok (list, s') → length s'.rest + 1 ≤ length s.rest
  behind_shorter e =
      let took = then_took (reads (mark rule_files 44) s) (λ _ s1. another item front s1) list s' e in
      let comma = shorter (mark rule_files 44) s took.0 took.1 took.2 in
      let less = another_shorter item front list took.1 s' took.3 in
      omega (arith, comma, less)

-- ---- what stands between brackets

separated_is : {A : Type 0} (o : Answer A) (behind : Source → Answer (List A))
    → (o then λ first s1. (behind s1 then λ others s2. Ok (first ∷ others, s2)))
    ≡ ((o then λ a s'. Ok ([] ++ a ∷ [], s')) then λ front s'. (behind s' then λ others s''. Ok (front ++ others, s'')))
separated_is (Ok found) behind = refl
separated_is (Err fault) behind = refl

takes : (b other value : Bool) → b ≡ value → (b || (false && other)) ≡ value
takes true other value is = is
takes false other value is = is

module _ {c : Class} {A : Type 0} (item : Grammar rule_files (one c) A) (s : Source) where
  pub inside_some : starts (c ∷ []) s.rest ≡ true → inside item s ≡ (another item [] s then with_others item)
  inside_some begun =
      cond_true _ _ _ _ (takes (starts (c ∷ []) s.rest) (not (starts [] s.rest)) true begun) (separated_is (reads item s) (reads (each_behind_comma rule_files item)))

  pub inside_none : starts (c ∷ []) s.rest ≡ false → inside item s ≡ Ok ([], s)
  inside_none none = cond_false _ _ _ _ (takes (starts (c ∷ []) s.rest) (not (starts [] s.rest)) false none) refl

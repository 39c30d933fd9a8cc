-- Sources, lists with commas and definitions that were read are spelled.
use Rattle.std.proofs.Common.{◌≡◌, ℕ, zero, suc, ◌+◌, ◌<◌, true, false, List, [], ◌∷◌, length, Some, Result, Ok, codes, refl, sym, ap, ◌∙◌, subst, inl, inr, arith, ne_eqb}
use Rattle.std.specs.Prelude.{slice_get}
use Rattle.std.specs.List.{range_with_len}
use Rattle.std.specs.Option.{option_and_then}
use Rattle.std.specs.Str.{bytes_eq}
use Rattle.nir_ir.specs.declared.ids.ValueId.{ValueId}
use Rattle.nir_ir.specs.declared.instr.Src.{Src}
use Rattle.nir_ir.specs.Shaped.{IsSwizzle}
use Rattle.nir_lex.specs.Kinds as token_kind
use Rattle.nir_lex.specs.declared.token.TokenKind.TheVariants.{Word, Punct}
use Rattle.nir_text.specs.declared.counts.Counts as counts
use Rattle.nir_text.specs.declared.fault.TextFault.{TextFault}
use Rattle.nir_text.specs.declared.fault.TextFault.TheVariants.{Expected}
use Rattle.nir_text.specs.Signs.{word_of, is_mark, is_word}
use Rattle.nir_text.specs.Naming.{Naming}
use Rattle.nir_text.specs.Reading.{Point, here, next, mark_at, word_at, wanted, value_used_at, commas_at, separated_at, more_at, bracketed_at}
use Rattle.nir_text.specs.Instrs.{swizzle_of, count_of, src_at}
use Rattle.nir_spelling.specs.Lexemes.{Part, ◌▹◌, IsWord, IsMark, EachBehindComma, Separated}
use Rattle.nir_spelling.specs.Spelling.{swizzle_word, IsValue, TakesAll, SpellsSwizzle, SpellsSrc}
use Rattle.nir_spelling.proofs.Names.{get-within}
use Rattle.nir_spelling.proofs.Passes.{Known, known_here, pass_word}
use Rattle.nir_spelling.proofs.Tables.{swizzle_of-is, swizzle_word-other}
use Rattle.nir_text.specs.ReadingLaws.{ok_is, bind_ok, held, wanted_ok}
use Rattle.list_laws.specs.BoolLaws.{chosen}
use Rattle.nir_spelling.proofs.Tokens.{mark_kind, word_kind, there_by_kind, One, begun}
use Rattle.nir_spelling.proofs.Took.{Took, Took-then, Took-none, Took-known, took_next, mark_took, tested_mark, value_took, word_of_some}

-- the number of components that the naming gives a value
pub count_of-get : (counts : List ℕ) (n : ℕ) (values blocks : List (List ℕ)) → n < length counts → slice_get counts n ≡ Some (count_of (record { values = values; counts = counts; blocks = blocks }) (record { 0 = n }))
count_of-get [] n values blocks lt = absurd (omega arith)
count_of-get (count ∷ counts) zero values blocks lt = refl
count_of-get (count ∷ counts) (suc n) values blocks lt = count_of-get counts n values blocks (omega arith)

-- what is no `=`
pub plain_mark : (byte : ℕ) (p : Point) → (61 ≡ byte → ⊥) → is_mark byte (here p) ≡ true → is_mark 61 (here p) ≡ false
plain_mark byte p differs e = ap (token_kind.is_mark 61) (mark_kind byte (here p).kind e) ∙ other byte differs
  where
    other : (byte : ℕ) → (61 ≡ byte → ⊥) → token_kind.is_mark 61 (Punct byte) ≡ false
    other byte differs = ne_eqb byte 61 (λ e. differs (sym e))

pub mark_ok : (byte : ℕ) (p q : Point) → mark_at byte p ≡ Ok q → is_mark byte (here p) ≡ true
unfolding mark_at
mark_ok byte p q e = (held (is_mark byte (here p)) (Expected (here p).place) (Ok (next p)) q e).0

pub mark_next : (byte : ℕ) (p q : Point) → mark_at byte p ≡ Ok q → next p ≡ q
unfolding mark_at
mark_next byte p q e = ok_is (next p) q (held (is_mark byte (here p)) (Expected (here p).place) (Ok (next p)) q e).1

pub word_next : (word : List ℕ) (p q : Point) → word_at word p ≡ Ok q → next p ≡ q
unfolding word_at
word_next word p q e = ok_is (next p) q (held (is_word word (here p)) (Expected (here p).place) (Ok (next p)) q e).1

module _ (names : Naming) (total : counts.Counts) (level : length names.counts ≡ length names.values) where
  swizzle_took : (p : Point) (x : List ℕ × Point) → Known names total p.rest → wanted (option_and_then swizzle_of (word_of (here p))) p ≡ Ok x → Took names total p x.1 (One (IsWord (swizzle_word x.0))) × IsSwizzle x.0
  swizzle_took p x known e =
      let w = wanted_ok (option_and_then swizzle_of (word_of (here p))) p x e in
      let found = word_of_some names total swizzle_of (word_of (here p)) x.0 w.0 in
      let word = word_kind (here p).kind (here p).text found.0 found.1 in
      let swizzle = swizzle_of-is found.0 x.0 found.2 in
      let some = there_by_kind p.rest Word word.0 refl in
      let text = word.1 ∙ swizzle.0 in (
        took_next names total p x.1 (IsWord (swizzle_word x.0)) w.1 some (word.0, text)
            (pass_word names total p some word.0 (ap (λ t. bytes_eq t (codes "block")) text ∙ swizzle_word-other x.0 swizzle.1) (known_here names total p.rest some known)),
        swizzle.1,
      )

  -- a value that was used is there
  value_there : (p q : Point) (value : ValueId) → Took names total p q (One (IsValue names value)) → value.0 < length names.counts
  value_there p q value took =
      let here = begun (IsValue names value) (λ rest. Unit {0}) p.rest (took.spells (λ rest. Unit {0}) tt) in
      let lt : value.0 < length names.values = get-within names.values value.0 (here_text p) here.is.1 in
      omega (arith, lt, level)
    where
      here_text : Point → List ℕ
      here_text p = (here p).text

  all_of : (value : ValueId) → value.0 < length names.counts → TakesAll names (record { value = value; swizzle = range_with_len 0 (count_of names value) })
  all_of value lt = (count_of names value, count_of-get names.counts value.0 names.values names.blocks lt, refl)

  pub src_took : (p : Point) (x : Src × Point) → Known names total p.rest → is_mark 61 (here x.1) ≡ false → src_at names p ≡ Ok x → Took names total p x.1 (SpellsSrc names x.0)
  unfolding src_at
  src_took p x known plain e =
      let a = bind_ok (value_used_at names p) _ x e in
      elim (chosen (is_mark 46 (here a.0.1)) _ _ (Ok x) a.2) [
        | inl way ↦
            let b = bind_ok (wanted (option_and_then swizzle_of (word_of (here (next a.0.1)))) (next a.0.1)) _ x way.1 in
            let value = value_took names total p a.0 known (plain_mark 46 a.0.1 (λ e. omega (arith, e)) way.0) a.1 in
            let known_dot = Took-known names total p a.0.1 (One (IsValue names a.0.0)) value known in
            let dot = tested_mark names total 46 a.0.1 way.0 in
            let swizzle = swizzle_took (next a.0.1) b.0 (Took-known names total a.0.1 (next a.0.1) (One (IsMark 46)) dot known_dot) b.1 in
            let behind_dot = Took-then names total a.0.1 (next a.0.1) b.0.1 (One (IsMark 46)) (One (IsWord (swizzle_word b.0.0))) dot swizzle.0 in
            let made : Src × Point = (record { value = a.0.0; swizzle = b.0.0 }, b.0.1) in
            let part : Took names total a.0.1 b.0.1 (SpellsSwizzle names made.0) = record { passes = behind_dot.passes; spells = λ behind left. inl (swizzle.1, behind_dot.spells behind left) } in
            subst (λ (y : Src × Point). Took names total p y.1 (SpellsSrc names y.0)) {x = made} (ok_is made x b.2)
            (Took-then names total p a.0.1 b.0.1 (One (IsValue names a.0.0)) (SpellsSwizzle names made.0) value part)
        | inr way ↦
            let made : Src × Point = (record { value = a.0.0; swizzle = range_with_len 0 (count_of names a.0.0) }, a.0.1) in
            let same = ok_is made x way.1 in
            let value = value_took names total p a.0 known (ap (λ y. is_mark 61 (here y.1)) same ∙ plain) a.1 in
            let part : Took names total p a.0.1 (SpellsSrc names made.0) = record {
              passes = value.passes;
              spells = λ behind left. value.spells (SpellsSwizzle names made.0 behind) (inr (all_of a.0.0 (value_there p a.0.1 a.0.0 value), left));
            } in
            subst (λ (y : Src × Point). Took names total p y.1 (SpellsSrc names y.0)) {x = made} same part
      ]

module _ (names : Naming) (total : counts.Counts) {A : Type 0} (part : A → Part) (read : ℕ → Point → Result (A × Point) TextFault) where
  -- each item that is read is spelled
  pub record TakesEach : Type 1 where
    pub item : (k : ℕ) (p : Point) (x : A × Point) → Known names total p.rest → is_mark 61 (here x.1) ≡ false → read k p ≡ Ok x → Took names total p x.1 (part x.0)

  pub record TookSeries (p : Point) (count : ℕ) (x : List A × Point) (whole : List A → Part) : Type 1 where
    pub took : Took names total p x.1 (whole x.0)
    pub len : length x.0 ≡ count

module _ (names : Naming) (total : counts.Counts) {A : Type 0} (part : A → Part) (read : ℕ → Point → Result (A × Point) TextFault) (each : TakesEach names total part read) where
  -- behind an item is a comma, or what stands behind the last
  commas_plain : (n k : ℕ) (p : Point) (x : List A × Point) → is_mark 61 (here x.1) ≡ false → commas_at read k n p ≡ Ok x → is_mark 61 (here p) ≡ false
  unfolding commas_at
  commas_plain zero k p x plain e = ap (λ y. is_mark 61 (here y.1)) (ok_is ([], p) x e) ∙ plain
  commas_plain (suc n) k p x plain e =
      let a = bind_ok (mark_at 44 p) _ x e in
      plain_mark 44 p (λ e. omega (arith, e)) (mark_ok 44 p a.0 a.1)

  commas_took : (n k : ℕ) (p : Point) (x : List A × Point) → Known names total p.rest → is_mark 61 (here x.1) ≡ false → commas_at read k n p ≡ Ok x → TookSeries names total part read p n x (EachBehindComma part)
  unfolding commas_at
  commas_took zero k p x known plain e = subst (λ y. TookSeries names total part read p zero y (EachBehindComma part)) (ok_is ([], p) x e) (record { took = Took-none names total p; len = refl })
  commas_took (suc n) k p x known plain e =
      let a = bind_ok (mark_at 44 p) _ x e in
      let b = bind_ok (read k a.0) _ x a.2 in
      let c = bind_ok (commas_at read (k + 1) n b.0.1) _ x b.2 in
      let made : List A × Point = (b.0.0 ∷ c.0.0, c.0.1) in
      let same = ok_is made x c.2 in
      let plain_end : is_mark 61 (here c.0.1) ≡ false = ap (λ (y : List A × Point). is_mark 61 (here y.1)) {x = made} same ∙ plain in
      let comma = mark_took names total 44 p a.0 a.1 in
      let first = each.item k a.0 b.0 (Took-known names total p a.0 (One (IsMark 44)) comma known) (commas_plain n (k + 1) b.0.1 c.0 plain_end c.1) b.1 in
      let both = Took-then names total p a.0 b.0.1 (One (IsMark 44)) (part b.0.0) comma first in
      let others = commas_took n (k + 1) b.0.1 c.0 (Took-known names total p b.0.1 _ both known) plain_end c.1 in
      subst (λ y. TookSeries names total part read p (suc n) y (EachBehindComma part)) {x = made} same
      (record { took = Took-then names total p b.0.1 c.0.1 (λ behind. IsMark 44 ▹ part b.0.0 behind) (EachBehindComma part c.0.0) both others.took; len = ap suc others.len })

  pub separated_took : (n : ℕ) (p : Point) (x : List A × Point) → Known names total p.rest → is_mark 61 (here x.1) ≡ false → separated_at read n p ≡ Ok x → TookSeries names total part read p n x (Separated part)
  unfolding separated_at
  separated_took zero p x known plain e = subst (λ y. TookSeries names total part read p zero y (Separated part)) (ok_is ([], p) x e) (record { took = Took-none names total p; len = refl })
  separated_took (suc n) p x known plain e =
      let b = bind_ok (read 0 p) _ x e in
      let c = bind_ok (commas_at read 1 n b.0.1) _ x b.2 in
      let made : List A × Point = (b.0.0 ∷ c.0.0, c.0.1) in
      let same = ok_is made x c.2 in
      let plain_end : is_mark 61 (here c.0.1) ≡ false = ap (λ (y : List A × Point). is_mark 61 (here y.1)) {x = made} same ∙ plain in
      let first = each.item 0 p b.0 known (commas_plain n 1 b.0.1 c.0 plain_end c.1) b.1 in
      let others = commas_took n 1 b.0.1 c.0 (Took-known names total p b.0.1 (part b.0.0) first known) plain_end c.1 in
      subst (λ y. TookSeries names total part read p (suc n) y (Separated part)) {x = made} same
      (record { took = Took-then names total p b.0.1 c.0.1 (part b.0.0) (EachBehindComma part c.0.0) first others.took; len = ap suc others.len })

  -- ---- brackets

  abbrev MoreOf : List A → Part
  MoreOf items behind = EachBehindComma part items (IsMark 93 ▹ behind)

  abbrev pub BracketsOf : List A → Part
  BracketsOf items behind = IsMark 91 ▹ Separated part items (IsMark 93 ▹ behind)

  more_plain : (fuel k : ℕ) (p : Point) (x : List A × Point) → more_at read k fuel p ≡ Ok x → is_mark 61 (here p) ≡ false
  unfolding more_at
  more_plain zero k p x e = absurd cc
  more_plain (suc fuel) k p x e =
      elim (chosen (is_mark 44 (here p)) _ _ (Ok x) e) [
        | inl way ↦ plain_mark 44 p (λ e. omega (arith, e)) way.0
        | inr way ↦ let a = bind_ok (mark_at 93 p) _ x way.1 in plain_mark 93 p (λ e. omega (arith, e)) (mark_ok 93 p a.0 a.1)
      ]

  more_took : (fuel k : ℕ) (p : Point) (x : List A × Point) → Known names total p.rest → more_at read k fuel p ≡ Ok x → Took names total p x.1 (MoreOf x.0)
  unfolding more_at
  more_took zero k p x known e = absurd cc
  more_took (suc fuel) k p x known e =
      elim (chosen (is_mark 44 (here p)) _ _ (Ok x) e) [
        | inl way ↦
            let b = bind_ok (read k (next p)) _ x way.1 in
            let c = bind_ok (more_at read (k + 1) fuel b.0.1) _ x b.2 in
            let made : List A × Point = (b.0.0 ∷ c.0.0, c.0.1) in
            let comma = tested_mark names total 44 p way.0 in
            let first = each.item k (next p) b.0 (Took-known names total p (next p) (One (IsMark 44)) comma known) (more_plain fuel (k + 1) b.0.1 c.0 c.1) b.1 in
            let both = Took-then names total p (next p) b.0.1 (One (IsMark 44)) (part b.0.0) comma first in
            let others = more_took fuel (k + 1) b.0.1 c.0 (Took-known names total p b.0.1 _ both known) c.1 in
            subst (λ (y : List A × Point). Took names total p y.1 (MoreOf y.0)) {x = made} (ok_is made x c.2)
            (Took-then names total p b.0.1 c.0.1 (λ behind. IsMark 44 ▹ part b.0.0 behind) (MoreOf c.0.0) both others)
        | inr way ↦
            let a = bind_ok (mark_at 93 p) _ x way.1 in
            subst (λ (y : List A × Point). Took names total p y.1 (MoreOf y.0)) {x = ([], a.0)} (ok_is ([], a.0) x a.2) (mark_took names total 93 p a.0 a.1)
      ]

  pub bracketed_took : (p : Point) (x : List A × Point) → Known names total p.rest → bracketed_at read p ≡ Ok x → Took names total p x.1 (BracketsOf x.0)
  unfolding bracketed_at
  bracketed_took p x known e =
      let a = bind_ok (mark_at 91 p) _ x e in
      let begin = mark_took names total 91 p a.0 a.1 in
      let known_items = Took-known names total p a.0 (One (IsMark 91)) begin known in
      elim (chosen (is_mark 93 (here a.0)) _ _ (Ok x) a.2) [
        | inl way ↦
            subst (λ (y : List A × Point). Took names total p y.1 (BracketsOf y.0)) {x = ([], next a.0)} (ok_is ([], next a.0) x way.1)
            (Took-then names total p a.0 (next a.0) (One (IsMark 91)) (One (IsMark 93)) begin (tested_mark names total 93 a.0 way.0))
        | inr way ↦
            let b = bind_ok (read 0 a.0) _ x way.1 in
            let c = bind_ok (more_at read 1 (length b.0.1.rest) b.0.1) _ x b.2 in
            let made : List A × Point = (b.0.0 ∷ c.0.0, c.0.1) in
            let first = each.item 0 a.0 b.0 known_items (more_plain (length b.0.1.rest) 1 b.0.1 c.0 c.1) b.1 in
            let others = more_took (length b.0.1.rest) 1 b.0.1 c.0 (Took-known names total a.0 b.0.1 (part b.0.0) first known_items) c.1 in
            let items = Took-then names total a.0 b.0.1 c.0.1 (part b.0.0) (MoreOf c.0.0) first others in
            subst (λ (y : List A × Point). Took names total p y.1 (BracketsOf y.0)) {x = made} (ok_is made x c.2)
            (Took-then names total p a.0 c.0.1 (One (IsMark 91)) (λ behind. part b.0.0 (MoreOf c.0.0 behind)) begin items)
      ]

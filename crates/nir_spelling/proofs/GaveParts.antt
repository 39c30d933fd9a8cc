-- Sources and lists with commas that are spelled are read.
use Rattle.std.proofs.Common.{◌≡◌, ℕ, zero, suc, ◌+◌, ◌<◌, ◌≤◌, false, List, [], ◌∷◌, length, drop, Some, Result, Ok, codes, refl, sym, ap, ◌∙◌, inl, inr, arith}
use Rattle.std.specs.Prelude.{slice_get}
use Rattle.std.specs.List.{range_with_len}
use Rattle.std.specs.Option.{option_and_then}
use Rattle.std.specs.Str.{bytes_eq}
use Rattle.std.proofs.lemmas.Option.{same_Some}
use Rattle.nir_ir.specs.declared.ids.ValueId.{ValueId}
use Rattle.nir_ir.specs.declared.instr.Src.{Src}
use Rattle.nir_ir.specs.declared.node.PhiSource.{PhiSource}
use Rattle.nir_lex.specs.Kinds as token_kind
use Rattle.nir_lex.specs.declared.token.TokenKind.TheVariants.{Punct}
use Rattle.nir_text.specs.declared.counts.Counts as counts
use Rattle.nir_text.specs.declared.fault.TextFault.{TextFault}
use Rattle.nir_text.specs.Signs.{Sign, word_of, is_mark, first_of}
use Rattle.nir_text.specs.Naming.{Naming}
use Rattle.nir_text.specs.Reading.{Point, here, next, mark_at, wanted, value_used_at, block_used_at, commas_at, separated_at, more_at, bracketed_at}
use Rattle.nir_text.specs.Instrs.{swizzle_of, count_of, src_at, source_at}
use Rattle.nir_spelling.specs.Lexemes.{lexemes_of, Behind, Part, ◌▹◌, IsWord, IsMark, EachBehindComma, Separated}
use Rattle.nir_spelling.specs.Spelling.{swizzle_word, IsValue, SpellsSwizzle, SpellsSrc, SpellsPhiSource}
use Rattle.nir_spelling.proofs.Names.{get-within}
use Rattle.nir_spelling.proofs.Passes.{Passes-refl, Passes-then, pass_mark, pass_word, word_known}
use Rattle.nir_spelling.proofs.Tables.{swizzle_of-swizzle_word, swizzle_word-other}
use Rattle.nir_spelling.proofs.Tokens.{kind_mark, kind_word_of, length-drop1, begun}
use Rattle.nir_spelling.proofs.TookParts.{count_of-get}
use Rattle.nir_spelling.proofs.Gave.{Follows, Plain, follows_mark, cond_true, cond_false, bind_reads, wanted_reads, IsWhole, Gave, gave_mark, gave_value, gave_block}

-- the number of components that the naming tells
count_is : (names : Naming) (value : ValueId) (count : ℕ) → slice_get names.counts value.0 ≡ Some count → count_of names value ≡ count
count_is names value count e =
    let there = count_of-get names.counts value.0 names.values names.blocks (get-within names.counts value.0 count e) in
    same_Some (count_of names value) count (sym there ∙ e)

-- a mark that is here is no other
pub other_mark : (byte other : ℕ) (signs : List Sign) → (first_of signs).kind ≡ Punct byte → token_kind.is_mark other (Punct byte) ≡ false → is_mark other (first_of signs) ≡ false
other_mark byte other signs is differs = ap (token_kind.is_mark other) is ∙ differs

module _ (names : Naming) (total : counts.Counts) (is : IsWhole names total) where
  swizzle_plain : (src : Src) (behind : Behind) → Follows behind → Plain (SpellsSwizzle names src behind)
  swizzle_plain src behind follows = λ signs left. elim left [
    | inl way ↦ let dot = begun (IsMark 46) (IsWord (swizzle_word src.swizzle) ▹ behind) signs way.1 in other_mark 46 61 signs dot.is refl
    | inr way ↦ (follows signs way.1).equals
  ]

  pub src_gave : (src : Src) (p : Point) (behind : Behind) → Follows behind → SpellsSrc names src behind (lexemes_of p.rest) → Gave names total (src_at names p) src p behind
  unfolding src_at
  src_gave src p behind follows h =
      let value = gave_value names total is src.value p (SpellsSwizzle names src behind) (swizzle_plain src behind follows) h in
      elim value.left [
        | inl way ↦
            let dot = begun (IsMark 46) (IsWord (swizzle_word src.swizzle) ▹ behind) value.at.rest way.1 in
            let word = begun (IsWord (swizzle_word src.swizzle)) behind (drop 1 value.at.rest) dot.left in
            let at_word = next value.at in
            let found = ap (option_and_then swizzle_of) (kind_word_of (here at_word) (swizzle_word src.swizzle) word.is.0 word.is.1) ∙ swizzle_of-swizzle_word src.swizzle way.0 in
            let pass_letters = pass_word names total at_word word.some word.is.0 (ap (λ t. bytes_eq t (codes "block")) word.is.1 ∙ swizzle_word-other src.swizzle way.0) (word_known names total at_word word.is.0 (follows (drop 1 at_word.rest) word.left).colon) in
            record {
              at = next at_word;
              passes = Passes-then names total p value.at (next at_word) value.passes (Passes-then names total value.at at_word (next at_word) (pass_mark names total value.at 46 dot.some dot.is) pass_letters);
              reads = bind_reads (value_used_at names p) _ (src.value, value.at) value.reads
                  ∙ cond_true (is_mark 46 (here value.at)) _ _ (kind_mark 46 (here value.at).kind dot.is)
                  ∙ bind_reads (wanted (option_and_then swizzle_of (word_of (here at_word))) at_word) _ (src.swizzle, next at_word) (wanted_reads (option_and_then swizzle_of (word_of (here at_word))) at_word src.swizzle found);
              left = word.left;
            }
        | inr way ↦
            let all : range_with_len 0 (count_of names src.value) ≡ src.swizzle = ap (range_with_len 0) (count_is names src.value way.0.0 way.0.1) ∙ sym way.0.2 in
            record {
              at = value.at;
              passes = value.passes;
              reads = bind_reads (value_used_at names p) _ (src.value, value.at) value.reads
                  ∙ cond_false (is_mark 46 (here value.at)) _ _ (follows value.at.rest way.1).dot
                  ∙ ap (λ s. Ok (record { value = src.value; swizzle = s }, value.at)) all;
              left = way.1;
            }
      ]

  pub source_gave : (source : PhiSource) (p : Point) (behind : Behind) → Plain behind → SpellsPhiSource names source behind (lexemes_of p.rest) → Gave names total (source_at names p) source p behind
  unfolding source_at
  source_gave source p behind plain h =
      let block = gave_block names total is source.from p (IsValue names source.value ▹ behind) h in
      let colon = gave_mark names total 58 block.at (IsValue names source.value ▹ behind) block.left in
      let value = gave_value names total is source.value (next block.at) behind plain colon.left in
      record {
        at = value.at;
        passes = Passes-then names total p block.at value.at block.passes (Passes-then names total block.at (next block.at) value.at colon.passes value.passes);
        reads = bind_reads (block_used_at names p) _ (source.from, block.at) block.reads ∙ bind_reads (mark_at 58 block.at) _ (next block.at) colon.reads ∙ bind_reads (value_used_at names (next block.at)) _ (source.value, value.at) value.reads;
        left = value.left;
      }

module _ (names : Naming) (total : counts.Counts) {A : Type 0} (part : A → Part) (read : ℕ → Point → Result (A × Point) TextFault) (limit : ℕ) where
  -- each item that is spelled is read, and begins with no closing bracket
  pub record GivesEach : Type 1 where
    pub item : (k : ℕ) (x : A) (p : Point) (behind : Behind) → k < limit → Follows behind → part x behind (lexemes_of p.rest) → Gave names total (read k p) x p behind
    pub opens : (x : A) (behind : Behind) (signs : List Sign) → part x behind (lexemes_of signs) → is_mark 93 (first_of signs) ≡ false

module _ (names : Naming) (total : counts.Counts) {A : Type 0} (part : A → Part) (read : ℕ → Point → Result (A × Point) TextFault) (limit : ℕ) (each : GivesEach names total part read limit) where
  commas_follow : (items : List A) (behind : Behind) → Follows behind → Follows (EachBehindComma part items behind)
  commas_follow [] behind follows = follows
  commas_follow (item ∷ items) behind follows = follows_mark 44 (part item (EachBehindComma part items behind)) refl refl refl

  commas_gave : (k : ℕ) (items : List A) (p : Point) (behind : Behind) → k + length items ≤ limit → Follows behind → EachBehindComma part items behind (lexemes_of p.rest) → Gave names total (commas_at read k (length items) p) items p behind
  unfolding commas_at
  commas_gave k [] p behind le follows h = record { at = p; passes = Passes-refl names total p; reads = refl; left = h }
  commas_gave k (item ∷ items) p behind le follows h =
      let comma = gave_mark names total 44 p (part item (EachBehindComma part items behind)) h in
      let first = each.item k item (next p) (EachBehindComma part items behind) (omega (arith, le)) (commas_follow items behind follows) comma.left in
      let others = commas_gave (k + 1) items first.at behind (omega (arith, le)) follows first.left in
      record {
        at = others.at;
        passes = Passes-then names total p (next p) others.at comma.passes (Passes-then names total (next p) first.at others.at first.passes others.passes);
        reads = bind_reads (mark_at 44 p) _ (next p) comma.reads ∙ bind_reads (read k (next p)) _ (item, first.at) first.reads ∙ bind_reads (commas_at read (k + 1) (length items) first.at) _ (items, others.at) others.reads;
        left = others.left;
      }

  pub separated_gave : (items : List A) (p : Point) (behind : Behind) → length items ≤ limit → Follows behind → Separated part items behind (lexemes_of p.rest) → Gave names total (separated_at read (length items) p) items p behind
  unfolding separated_at
  separated_gave [] p behind le follows h = record { at = p; passes = Passes-refl names total p; reads = refl; left = h }
  separated_gave (item ∷ items) p behind le follows h =
      let first = each.item 0 item p (EachBehindComma part items behind) (omega (arith, le)) (commas_follow items behind follows) h in
      let others = commas_gave 1 items first.at behind (omega (arith, le)) follows first.left in
      record {
        at = others.at;
        passes = Passes-then names total p first.at others.at first.passes others.passes;
        reads = bind_reads (read 0 p) _ (item, first.at) first.reads ∙ bind_reads (commas_at read 1 (length items) first.at) _ (items, others.at) others.reads;
        left = others.left;
      }

  -- ---- brackets

  more_gave : (fuel k : ℕ) (items : List A) (p : Point) (behind : Behind) → k + length items ≤ limit → length p.rest ≤ fuel → EachBehindComma part items (IsMark 93 ▹ behind) (lexemes_of p.rest) → Gave names total (more_at read k fuel p) items p behind
  unfolding more_at
  more_gave zero k [] p behind le room h = let b = begun (IsMark 93) behind p.rest h in absurd (omega (arith, b.some, room))
  more_gave zero k (item ∷ items) p behind le room h = let b = begun (IsMark 44) (part item (EachBehindComma part items (IsMark 93 ▹ behind))) p.rest h in absurd (omega (arith, b.some, room))
  more_gave (suc fuel) k [] p behind le room h =
      let b = begun (IsMark 93) behind p.rest h in
      let close = gave_mark names total 93 p behind h in
      record {
        at = next p;
        passes = close.passes;
        reads = cond_false (is_mark 44 (here p)) _ _ (other_mark 93 44 p.rest b.is refl) ∙ bind_reads (mark_at 93 p) _ (next p) close.reads;
        left = close.left;
      }
  more_gave (suc fuel) k (item ∷ items) p behind le room h =
      let rest = EachBehindComma part items (IsMark 93 ▹ behind) in
      let b = begun (IsMark 44) (part item rest) p.rest h in
      let comma = gave_mark names total 44 p (part item rest) h in
      let first = each.item k item (next p) rest (omega (arith, le)) (commas_follow items (IsMark 93 ▹ behind) (follows_mark 93 behind refl refl refl)) comma.left in
      let less : length first.at.rest ≤ fuel = omega (arith, first.passes.shorter, length-drop1 p.rest b.some, room) in
      let others = more_gave fuel (k + 1) items first.at behind (omega (arith, le)) less first.left in
      record {
        at = others.at;
        passes = Passes-then names total p (next p) others.at comma.passes (Passes-then names total (next p) first.at others.at first.passes others.passes);
        reads = cond_true (is_mark 44 (here p)) _ _ (kind_mark 44 (here p).kind b.is) ∙ bind_reads (read k (next p)) _ (item, first.at) first.reads ∙ bind_reads (more_at read (k + 1) fuel first.at) _ (items, others.at) others.reads;
        left = others.left;
      }

  pub bracketed_gave : (items : List A) (p : Point) (behind : Behind) → length items ≤ limit → (IsMark 91 ▹ Separated part items (IsMark 93 ▹ behind)) (lexemes_of p.rest) → Gave names total (bracketed_at read p) items p behind
  unfolding bracketed_at
  bracketed_gave [] p behind le h =
      let begin = gave_mark names total 91 p (IsMark 93 ▹ behind) h in
      let close = begun (IsMark 93) behind (next p).rest begin.left in
      record {
        at = next (next p);
        passes = Passes-then names total p (next p) (next (next p)) begin.passes (pass_mark names total (next p) 93 close.some close.is);
        reads = bind_reads (mark_at 91 p) _ (next p) begin.reads ∙ cond_true (is_mark 93 (here (next p))) _ _ (kind_mark 93 (here (next p)).kind close.is);
        left = close.left;
      }
  bracketed_gave (item ∷ items) p behind le h =
      let rest = EachBehindComma part items (IsMark 93 ▹ behind) in
      let begin = gave_mark names total 91 p (part item rest) h in
      let first = each.item 0 item (next p) rest (omega (arith, le)) (commas_follow items (IsMark 93 ▹ behind) (follows_mark 93 behind refl refl refl)) begin.left in
      let others = more_gave (length first.at.rest) 1 items first.at behind (omega (arith, le)) (omega arith) first.left in
      record {
        at = others.at;
        passes = Passes-then names total p (next p) others.at begin.passes (Passes-then names total (next p) first.at others.at first.passes others.passes);
        reads = bind_reads (mark_at 91 p) _ (next p) begin.reads ∙ cond_false (is_mark 93 (here (next p))) _ _ (each.opens item rest (next p).rest begin.left)
            ∙ bind_reads (read 0 (next p)) _ (item, first.at) first.reads ∙ bind_reads (more_at read 1 (length first.at.rest) first.at) _ (items, others.at) others.reads;
        left = others.left;
      }

-- Instructions, phis and blocks that were read are spelled.
use Rattle.std.proofs.Common.{◌≡◌, ℕ, zero, suc, ◌+◌, true, false, List, [], ◌∷◌, ◌++◌, map, take, length, drop, Some, Ok, nat_lt, codes, refl, sym, ap, ◌∙◌, subst, inl, inr, arith, append-nil, ltb-true}
use Rattle.std.specs.Option.{option_and_then}
use Rattle.std.specs.Str.{bytes_eq}
use Rattle.nir_ir.specs.declared.ids.ValueId.{ValueId}
use Rattle.nir_ir.specs.declared.instr.Instr.{Instr}
use Rattle.nir_ir.specs.declared.instr.Instr.TheVariants.{Output, StoreBuf}
use Rattle.nir_ir.specs.declared.kind.Kind.{Kind}
use Rattle.nir_ir.specs.declared.node.Phi.{Phi}
use Rattle.nir_ir.specs.declared.node.PhiSource.{PhiSource}
use Rattle.nir_ir.specs.Items.{Item, PhiItem, InstrItem}
use Rattle.nir_lex.specs.Kinds as token_kind
use Rattle.nir_lex.specs.declared.token.TokenKind.{TokenKind}
use Rattle.nir_lex.specs.declared.token.TokenKind.TheVariants.{Word, Name}
use Rattle.nir_text.specs.declared.counts.Counts as counts
use Rattle.nir_text.specs.declared.fault.TextFault.TheVariants.{Twice, TooMany}
use Rattle.nir_text.specs.Signs.{Sign, word_of, name_of, kind_is_name, is_mark, is_word, first_of}
use Rattle.nir_text.specs.Kinds.{kind_named}
use Rattle.nir_text.specs.Naming.{Naming, place_of, is_among_first}
use Rattle.nir_text.specs.Reading.{Point, here, next, value_begun, mark_at, word_at, wanted, kind_at, index_at, value_defined_at, value_used_at, block_used_at, bracketed_at}
use Rattle.nir_text.specs.Instrs.{effect_begun, effect_here, output_at, store_at, instr_at, begins_instr, instrs_at, source_at, phi_at, begins_phi, phis_at}
use Rattle.nir_spelling.specs.Lexemes.{lexemes_of, Part, ◌▹◌, IsWord, IsMark, IsIndex, Each, Separated}
use Rattle.nir_spelling.specs.Spelling.{IsKind, IsValue, IsBlock, SpellsInstr, SpellsPhiSource, SpellsPhi}
use Rattle.nir_spelling.proofs.Passes.{Known, Known-behind, Known-drop}
use Rattle.nir_text.specs.ReadingLaws.{ok_is, bind_ok, held, not_held, wanted_ok}
use Rattle.list_laws.specs.BoolLaws.{chosen}
use Rattle.nir_spelling.proofs.Tokens.{name_kind, word_form, is_name, One}
use Rattle.nir_spelling.proofs.Took.{Took, Took-then, Took-none, Took-known, mark_took, word_took, tested_took, kind_took, index_took, value_took, block_took}
use Rattle.nir_spelling.proofs.TookParts.{plain_mark, mark_ok, mark_next, word_next, TakesEach, bracketed_took}
use Rattle.nir_spelling.proofs.TookInstrs.{DefinitionPart, definition_spelled, kind_there, definition_took}
use Rattle.nir_spelling.proofs.Grows.{Numbers, after, counts_same, counts_in}
use Rattle.nir_spelling.proofs.ReadItems.{Stands, Read, Read-then, Stands-took, Read-took, Defined, defined_at, Read-defined}

pub plus_zero : (n : ℕ) → n ≡ n + 0
plus_zero n = omega arith

-- the other marks and words are no `=`
pub plain_kind : (p : Point) (kind : TokenKind) → (here p).kind ≡ kind → token_kind.is_mark 61 kind ≡ false → is_mark 61 (here p) ≡ false
plain_kind p kind same e = ap (token_kind.is_mark 61) same ∙ e

module _ (names : Naming) (total : counts.Counts) where
  -- ---- a value that was read where it is defined

  -- the name and `=`, whichever kind stands behind
  pub value_defined : (acc : Naming) (p : Point) (a : ValueId × Point) (q : Point) (kind : Kind) → Stands names total acc p → value_defined_at names p ≡ Ok a → mark_at 61 a.1 ≡ Ok q
      → option_and_then kind_named (word_of (first_of (drop 1 q.rest))) ≡ Some kind → Defined names total acc p a.0 kind q
  unfolding value_defined_at
  value_defined acc p a q kind stands e equals is_kind =
      let name = bind_ok (wanted (name_of (here p)) p) _ a e in
      let w = wanted_ok (name_of (here p)) p name.0 name.1 in
      let is_name = name_kind (here p).kind (here p).text name.0.0 w.0 in
      let once = not_held (is_among_first p.counts.values (place_of name.0.0 names.values)) (Twice (here p).place) _ a name.2 in
      let few = held (nat_lt p.counts.values 16384) (TooMany (here p).place) _ a once.1 in
      let same = ok_is (record { 0 = p.counts.values }, value_begun p) a few.1 in
      let fresh = ap (λ t. is_among_first p.counts.values (place_of t names.values)) is_name.1 ∙ once.0 in
      let mark : is_mark 61 (here (next p)) ≡ true = ap (λ (y : ValueId × Point). is_mark 61 (here y.1)) {x = (record { 0 = p.counts.values }, value_begun p)} same ∙ mark_ok 61 a.1 q equals in
      let to : next (value_begun p) ≡ q = ap (λ (y : ValueId × Point). next y.1) {x = (record { 0 = p.counts.values }, value_begun p)} same ∙ mark_next 61 a.1 q equals in
      let stands_kind : option_and_then kind_named (word_of (first_of (drop 1 (next (next p)).rest))) ≡ Some kind = ap (λ (r : Point). option_and_then kind_named (word_of (first_of (drop 1 r.rest)))) {x = next (value_begun p)} to ∙ is_kind in
      let made = defined_at names total acc p kind stands is_name.0 fresh mark stands_kind (ltb-true p.counts.values 16384 few.0) in
      subst (λ (y : ValueId × Point). Defined names total acc p y.0 kind q) {x = (record { 0 = p.counts.values }, value_begun p)} same
      (subst (λ (r : Point). Defined names total acc p (record { 0 = p.counts.values }) kind r) {x = next (value_begun p)} to made)

  -- what stands behind the name and `=`
  value_behind : (p : Point) (a : ValueId × Point) (q : Point) → value_defined_at names p ≡ Ok a → mark_at 61 a.1 ≡ Ok q → drop 1 (drop 1 p.rest) ≡ q.rest
  unfolding value_defined_at
  value_behind p a q e equals =
      let name = bind_ok (wanted (name_of (here p)) p) _ a e in
      let once = not_held (is_among_first p.counts.values (place_of name.0.0 names.values)) (Twice (here p).place) _ a name.2 in
      let few = held (nat_lt p.counts.values 16384) (TooMany (here p).place) _ a once.1 in
      let same = ok_is (record { 0 = p.counts.values }, value_begun p) a few.1 in
      ap (λ (y : ValueId × Point). drop 1 y.1.rest) {x = (record { 0 = p.counts.values }, value_begun p)} same ∙ ap (λ (r : Point). r.rest) (mark_next 61 a.1 q equals)

  -- ---- outputs and stores

  abbrev counted_effect : counts.Counts → counts.Counts
  counted_effect c = record c { effects = c.effects + 1 }

  -- a word that begins what takes the next number of its sort, which is no value and no block
  pub headed_read : (acc : Naming) (p q : Point) (counted : counts.Counts) (item : Item) (word : List ℕ) (part : Part)
      → counted.values ≡ p.counts.values → counted.blocks ≡ p.counts.blocks → Numbers p.counts (item ∷ []) → counted ≡ after p.counts (item ∷ []) → counts_in (item ∷ []) ≡ []
      → Stands names total acc p → bytes_eq word (codes "block") ≡ false → is_word word (here p) ≡ true
      → (Stands names total acc (record { rest = drop 1 p.rest; counts = counted }) → Took names total (record { rest = drop 1 p.rest; counts = counted }) q part)
      → Read names total acc p q (item ∷ []) (λ behind. IsWord word ▹ part behind)
  headed_read acc p q counted item word part same_values same_blocks numbers counted_is none stands other test follows =
      let first = tested_took names total word p other stands.known test in
      let begun : Stands names total acc (record { rest = drop 1 p.rest; counts = counted }) = record {
        values = stands.values ∙ ap (λ n. take n names.values) (sym same_values);
        value_count = stands.value_count ∙ sym same_values;
        blocks = stands.blocks ∙ ap (λ n. take n names.blocks) (sym same_blocks);
        block_count = stands.block_count ∙ sym same_blocks;
        few = omega (arith, stands.few, same_values);
        whole = sym (first.passes.scan acc) ∙ stands.whole;
        known = Known-behind names total p (next p) first.passes stands.known;
        ends = first.passes.ends stands.ends;
      } in
      let took = follows begun in
      record {
        new = acc;
        stands = Stands-took names total acc (record { rest = drop 1 p.rest; counts = counted }) q part begun took;
        counts = took.passes.counts ∙ counted_is;
        kinds = sym (append-nil acc.counts) ∙ ap (λ l. acc.counts ++ l) (sym none);
        numbers = numbers;
        spells = λ behind left. first.spells (part behind) (took.spells behind left);
      }

  output_read : (acc : Naming) (p : Point) (x : Instr × Point) → Stands names total acc p → is_mark 61 (here x.1) ≡ false → is_word (codes "output") (here p) ≡ true → output_at names p ≡ Ok x
      → Read names total acc p x.1 (InstrItem x.0 ∷ []) (SpellsInstr names x.0)
  unfolding output_at
  output_read acc p x stands plain test e =
      let a = bind_ok (mark_at 64 (effect_begun p)) _ x e in
      let b = bind_ok (index_at a.0) _ x a.2 in
      let c = bind_ok (mark_at 44 b.0.1) _ x b.2 in
      let d = bind_ok (value_used_at names c.0) _ x c.2 in
      let made : Instr × Point = (Output (effect_here p) b.0.0 d.0.0, d.0.1) in
      let same = ok_is made x d.2 in
      let plain_end : is_mark 61 (here d.0.1) ≡ false = ap (λ (y : Instr × Point). is_mark 61 (here y.1)) {x = made} same ∙ plain in
      let slot = Took-then names total (effect_begun p) a.0 b.0.1 (One (IsMark 64)) (One (IsIndex b.0.0)) (mark_took names total 64 (effect_begun p) a.0 a.1) (index_took names total a.0 b.0 b.1) in
      let to_src = Took-then names total (effect_begun p) b.0.1 c.0 (λ behind. IsMark 64 ▹ IsIndex b.0.0 ▹ behind) (One (IsMark 44)) slot (mark_took names total 44 b.0.1 c.0 c.1) in
      subst (λ (y : Instr × Point). Read names total acc p y.1 (InstrItem y.0 ∷ []) (SpellsInstr names y.0)) {x = made} same
      (headed_read acc p d.0.1 (counted_effect p.counts) (InstrItem made.0) (codes "output") (λ behind. IsMark 64 ▹ IsIndex b.0.0 ▹ IsMark 44 ▹ IsValue names d.0.0 ▹ behind)
      refl refl (record { values = tt; blocks = tt; effects = (refl, tt); ifs = tt; loops = tt })
      (counts_same (counted_effect p.counts) (after p.counts (InstrItem made.0 ∷ [])) (plus_zero p.counts.values) (plus_zero p.counts.blocks) refl (plus_zero p.counts.ifs) (plus_zero p.counts.loops))
      refl stands refl test
      (λ begun.
      Took-then names total (effect_begun p) c.0 d.0.1 (λ behind. IsMark 64 ▹ IsIndex b.0.0 ▹ IsMark 44 ▹ behind) (One (IsValue names d.0.0)) to_src
      (value_took names total c.0 d.0 (Took-known names total (effect_begun p) c.0 _ to_src begun.known) plain_end d.1)))

  store_read : (acc : Naming) (p : Point) (x : Instr × Point) → Stands names total acc p → is_mark 61 (here x.1) ≡ false → is_word (codes "store") (here p) ≡ true → store_at names p ≡ Ok x
      → Read names total acc p x.1 (InstrItem x.0 ∷ []) (SpellsInstr names x.0)
  unfolding store_at
  store_read acc p x stands plain test e =
      let a = bind_ok (mark_at 64 (effect_begun p)) _ x e in
      let b = bind_ok (index_at a.0) _ x a.2 in
      let c = bind_ok (mark_at 44 b.0.1) _ x b.2 in
      let d = bind_ok (value_used_at names c.0) _ x c.2 in
      let f = bind_ok (mark_at 44 d.0.1) _ x d.2 in
      let g = bind_ok (value_used_at names f.0) _ x f.2 in
      let made : Instr × Point = (StoreBuf (effect_here p) b.0.0 d.0.0 g.0.0, g.0.1) in
      let same = ok_is made x g.2 in
      let plain_end : is_mark 61 (here g.0.1) ≡ false = ap (λ (y : Instr × Point). is_mark 61 (here y.1)) {x = made} same ∙ plain in
      let slot = Took-then names total (effect_begun p) a.0 b.0.1 (One (IsMark 64)) (One (IsIndex b.0.0)) (mark_took names total 64 (effect_begun p) a.0 a.1) (index_took names total a.0 b.0 b.1) in
      let to_offset = Took-then names total (effect_begun p) b.0.1 c.0 (λ behind. IsMark 64 ▹ IsIndex b.0.0 ▹ behind) (One (IsMark 44)) slot (mark_took names total 44 b.0.1 c.0 c.1) in
      let plain_comma = plain_mark 44 d.0.1 (λ e. omega (arith, e)) (mark_ok 44 d.0.1 f.0 f.1) in
      subst (λ (y : Instr × Point). Read names total acc p y.1 (InstrItem y.0 ∷ []) (SpellsInstr names y.0)) {x = made} same
      (headed_read acc p g.0.1 (counted_effect p.counts) (InstrItem made.0) (codes "store") (λ behind. IsMark 64 ▹ IsIndex b.0.0 ▹ IsMark 44 ▹ IsValue names d.0.0 ▹ IsMark 44 ▹ IsValue names g.0.0 ▹ behind)
      refl refl (record { values = tt; blocks = tt; effects = (refl, tt); ifs = tt; loops = tt })
      (counts_same (counted_effect p.counts) (after p.counts (InstrItem made.0 ∷ [])) (plus_zero p.counts.values) (plus_zero p.counts.blocks) refl (plus_zero p.counts.ifs) (plus_zero p.counts.loops))
      refl stands refl test
      (λ begun.
      let offset = value_took names total c.0 d.0 (Took-known names total (effect_begun p) c.0 _ to_offset begun.known) plain_comma d.1 in
      let with_offset = Took-then names total (effect_begun p) c.0 d.0.1 (λ behind. IsMark 64 ▹ IsIndex b.0.0 ▹ IsMark 44 ▹ behind) (One (IsValue names d.0.0)) to_offset offset in
      let to_src = Took-then names total (effect_begun p) d.0.1 f.0 (λ behind. IsMark 64 ▹ IsIndex b.0.0 ▹ IsMark 44 ▹ IsValue names d.0.0 ▹ behind) (One (IsMark 44)) with_offset (mark_took names total 44 d.0.1 f.0 f.1) in
      Took-then names total (effect_begun p) f.0 g.0.1 (λ behind. IsMark 64 ▹ IsIndex b.0.0 ▹ IsMark 44 ▹ IsValue names d.0.0 ▹ IsMark 44 ▹ behind) (One (IsValue names g.0.0)) to_src
      (value_took names total f.0 g.0 (Took-known names total (effect_begun p) f.0 _ to_src begun.known) plain_end g.1)))

  -- ---- phis

  source_took : (p : Point) (x : PhiSource × Point) → Known names total p.rest → is_mark 61 (here x.1) ≡ false → source_at names p ≡ Ok x → Took names total p x.1 (SpellsPhiSource names x.0)
  unfolding source_at
  source_took p x known plain e =
      let a = bind_ok (block_used_at names p) _ x e in
      let b = bind_ok (mark_at 58 a.0.1) _ x a.2 in
      let c = bind_ok (value_used_at names b.0) _ x b.2 in
      let made : PhiSource × Point = (record { from = a.0.0; value = c.0.0 }, c.0.1) in
      let same = ok_is made x c.2 in
      let from = block_took names total p a.0 known (mark_ok 58 a.0.1 b.0 b.1) a.1 in
      let to_value = Took-then names total p a.0.1 b.0 (One (IsBlock names a.0.0)) (One (IsMark 58)) from (mark_took names total 58 a.0.1 b.0 b.1) in
      let value = value_took names total b.0 c.0 (Took-known names total p b.0 _ to_value known) (ap (λ (y : PhiSource × Point). is_mark 61 (here y.1)) {x = made} same ∙ plain) c.1 in
      subst (λ (y : PhiSource × Point). Took names total p y.1 (SpellsPhiSource names y.0)) {x = made} same
      (Took-then names total p b.0 c.0.1 (λ behind. IsBlock names a.0.0 ▹ IsMark 58 ▹ behind) (One (IsValue names c.0.0)) to_value value)

  phi_read : (acc : Naming) (p : Point) (x : Phi × Point) → Stands names total acc p → phi_at names p ≡ Ok x → Read names total acc p x.1 (PhiItem x.0 ∷ []) (SpellsPhi names x.0)
  unfolding phi_at
  phi_read acc p x stands e =
      let a = bind_ok (value_defined_at names p) _ x e in
      let b = bind_ok (mark_at 61 a.0.1) _ x a.2 in
      let c = bind_ok (word_at (codes "phi") b.0) _ x b.2 in
      let d = bind_ok (kind_at c.0) _ x c.2 in
      let f = bind_ok (bracketed_at (λ k. source_at names) d.0.1) _ x d.2 in
      let made : Phi × Point = (record { value = a.0.0; kind = d.0.0; sources = f.0.0 }, f.0.1) in
      let behind_word : next b.0 ≡ c.0 = word_next (codes "phi") b.0 c.0 c.1 in
      let is_kind : option_and_then kind_named (word_of (first_of (drop 1 b.0.rest))) ≡ Some d.0.0 = ap (λ (r : Point). option_and_then kind_named (word_of (here r))) {x = next b.0} behind_word ∙ kind_there names total c.0 d.0 d.1 in
      let defined = value_defined acc p a.0 b.0 d.0.0 stands a.1 b.1 is_kind in
      let word = word_took names total (codes "phi") b.0 c.0 refl defined.stands.known c.1 in
      let known_kind = Took-known names total b.0 c.0 (One (IsWord (codes "phi"))) word defined.stands.known in
      let kind = kind_took names total c.0 d.0 known_kind d.1 in
      let each : TakesEach names total (SpellsPhiSource names) (λ k. source_at names) = record { item = λ k. source_took } in
      let sources = bracketed_took names total (SpellsPhiSource names) (λ k. source_at names) each d.0.1 f.0 (Took-known names total c.0 d.0.1 (One (IsKind d.0.0)) kind known_kind) f.1 in
      let head = Took-then names total b.0 c.0 d.0.1 (One (IsWord (codes "phi"))) (One (IsKind d.0.0)) word kind in
      let took = Took-then names total b.0 d.0.1 f.0.1 (λ behind. IsWord (codes "phi") ▹ IsKind d.0.0 ▹ behind) (λ behind. IsMark 91 ▹ Separated (SpellsPhiSource names) f.0.0 (IsMark 93 ▹ behind)) head sources in
      subst (λ (y : Phi × Point). Read names total acc p y.1 (PhiItem y.0 ∷ []) (SpellsPhi names y.0)) {x = made} (ok_is made x f.2)
      (record {
        new = defined.new;
        stands = Stands-took names total defined.new b.0 f.0.1 _ defined.stands took;
        counts = took.passes.counts ∙ defined.counts
            ∙ counts_same (record p.counts { values = p.counts.values + 1 }) (after p.counts (PhiItem made.0 ∷ [])) refl (plus_zero p.counts.blocks) (plus_zero p.counts.effects) (plus_zero p.counts.ifs) (plus_zero p.counts.loops);
        kinds = defined.kinds;
        numbers = record { values = (defined.number, tt); blocks = tt; effects = tt; ifs = tt; loops = tt };
        spells = λ behind left. defined.spells _ (took.spells behind left);
      })

  pub phis_read : (fuel : ℕ) (acc : Naming) (p : Point) (x : List Phi × Point) → Stands names total acc p → phis_at names fuel p ≡ Ok x → Read names total acc p x.1 (map PhiItem x.0) (Each (SpellsPhi names) x.0)
  unfolding phis_at
  phis_read zero acc p x stands e = absurd cc
  phis_read (suc fuel) acc p x stands e =
      elim (chosen (begins_phi p.rest) _ _ (Ok x) e) [
        | inl way ↦
            let a = bind_ok (phi_at names p) _ x way.1 in
            let b = bind_ok (phis_at names fuel a.0.1) _ x a.2 in
            let first = phi_read acc p a.0 stands a.1 in
            let others = phis_read fuel first.new a.0.1 b.0 first.stands b.1 in
            let made : List Phi × Point = (a.0.0 ∷ b.0.0, b.0.1) in
            subst (λ (y : List Phi × Point). Read names total acc p y.1 (map PhiItem y.0) (Each (SpellsPhi names) y.0)) {x = made} (ok_is made x b.2)
            (Read-then names total acc p a.0.1 b.0.1 (PhiItem a.0.0 ∷ []) (map PhiItem b.0.0) (SpellsPhi names a.0.0) (Each (SpellsPhi names) b.0.0) first others)
        | inr way ↦
            let made : List Phi × Point = ([], p) in
            subst (λ (y : List Phi × Point). Read names total acc p y.1 (map PhiItem y.0) (Each (SpellsPhi names) y.0)) {x = made} (ok_is made x way.1)
            (Read-took names total acc p p (λ behind. behind) stands (Took-none names total p))
      ]

  -- ---- instructions

  -- an instruction begins with a name or a word
  begins_plain : (p : Point) → begins_instr (here p) ≡ true → is_mark 61 (here p) ≡ false
  unfolding begins_instr
  begins_plain p e =
      elim (chosen (kind_is_name (here p).kind) true _ true e) [
        | inl way ↦ plain_kind p Name (is_name (here p).kind way.0) refl
        | inr way ↦ elim (chosen (is_word (codes "output") (here p)) true _ true way.1) [
          | inl word ↦ plain_kind p Word (word_form (codes "output") (here p) word.0).0 refl
          | inr word ↦ plain_kind p Word (word_form (codes "store") (here p) word.1).0 refl
        ]
      ]

  module _ (level : length names.counts ≡ length names.values) where
    instr_read : (acc : Naming) (p : Point) (x : Instr × Point) → Stands names total acc p → is_mark 61 (here x.1) ≡ false → instr_at names p ≡ Ok x → Read names total acc p x.1 (InstrItem x.0 ∷ []) (SpellsInstr names x.0)
    unfolding instr_at
    instr_read acc p x stands plain e =
        elim (chosen (is_word (codes "output") (here p)) _ _ (Ok x) e) [
          | inl way ↦ output_read acc p x stands plain way.0 way.1
          | inr other ↦ elim (chosen (is_word (codes "store") (here p)) _ _ (Ok x) other.1) [
            | inl way ↦ store_read acc p x stands plain way.0 way.1
            | inr way ↦
                let a = bind_ok (value_defined_at names p) _ x way.1 in
                let b = bind_ok (mark_at 61 a.0.1) _ x a.2 in
                let known = subst (λ (l : List Sign). Known names total l) (value_behind p a.0 b.0 a.1 b.1) (Known-drop names total (drop 1 p.rest) (Known-drop names total p.rest stands.known)) in
                let definition = definition_took names total level a.0.0 b.0 x known plain b.2 in
                let defined = value_defined acc p a.0 b.0 definition.kind stands a.1 b.1 definition.stands in
                Read-defined names total acc p b.0 x.1 a.0.0 definition.kind x.0 (DefinitionPart names x.0) (SpellsInstr names x.0) definition.target definition.kind_of definition.effect defined definition.took
                (λ behind h. definition_spelled names x.0 a.0.0 behind (lexemes_of p.rest) definition.target definition.parts h)
          ]
        ]

    -- what stands before an instruction is no `=`
    pub instrs_plain : (fuel : ℕ) (p : Point) (x : List Instr × Point) → is_mark 61 (here x.1) ≡ false → instrs_at names fuel p ≡ Ok x → is_mark 61 (here p) ≡ false
    unfolding instrs_at
    instrs_plain zero p x plain e = absurd cc
    instrs_plain (suc fuel) p x plain e =
        elim (chosen (begins_instr (here p)) _ _ (Ok x) e) [
          | inl way ↦ begins_plain p way.0
          | inr way ↦ ap (λ (y : List Instr × Point). is_mark 61 (here y.1)) {x = ([], p)} (ok_is ([], p) x way.1) ∙ plain
        ]

    pub instrs_read : (fuel : ℕ) (acc : Naming) (p : Point) (x : List Instr × Point) → Stands names total acc p → is_mark 61 (here x.1) ≡ false → instrs_at names fuel p ≡ Ok x → Read names total acc p x.1 (map InstrItem x.0) (Each (SpellsInstr names) x.0)
    unfolding instrs_at
    instrs_read zero acc p x stands plain e = absurd cc
    instrs_read (suc fuel) acc p x stands plain e =
        elim (chosen (begins_instr (here p)) _ _ (Ok x) e) [
          | inl way ↦
              let a = bind_ok (instr_at names p) _ x way.1 in
              let b = bind_ok (instrs_at names fuel a.0.1) _ x a.2 in
              let made : List Instr × Point = (a.0.0 ∷ b.0.0, b.0.1) in
              let same = ok_is made x b.2 in
              let plain_end : is_mark 61 (here b.0.1) ≡ false = ap (λ (y : List Instr × Point). is_mark 61 (here y.1)) {x = made} same ∙ plain in
              let first = instr_read acc p a.0 stands (instrs_plain fuel a.0.1 b.0 plain_end b.1) a.1 in
              let others = instrs_read fuel first.new a.0.1 b.0 first.stands plain_end b.1 in
              subst (λ (y : List Instr × Point). Read names total acc p y.1 (map InstrItem y.0) (Each (SpellsInstr names) y.0)) {x = made} same
              (Read-then names total acc p a.0.1 b.0.1 (InstrItem a.0.0 ∷ []) (map InstrItem b.0.0) (SpellsInstr names a.0.0) (Each (SpellsInstr names) b.0.0) first others)
          | inr way ↦
              let made : List Instr × Point = ([], p) in
              subst (λ (y : List Instr × Point). Read names total acc p y.1 (map InstrItem y.0) (Each (SpellsInstr names) y.0)) {x = made} (ok_is made x way.1)
              (Read-took names total acc p p (λ behind. behind) stands (Took-none names total p))
        ]

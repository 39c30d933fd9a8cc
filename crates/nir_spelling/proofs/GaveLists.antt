-- Lists of instructions and phis, and jumps, that are spelled are read.
use Rattle.std.proofs.Common.{◌≡◌, ℕ, zero, suc, ◌+◌, ◌<◌, ◌≤◌, true, false, cond, ◌&&◌, List, [], ◌∷◌, map, length, drop, Option, Some, None, Result, Ok, codes, refl, sym, ap, ◌∙◌, arith}
use Rattle.std.specs.Str.{bytes_eq}
use Rattle.nir_ir.specs.declared.ids.ValueId.{ValueId}
use Rattle.nir_ir.specs.declared.instr.Instr.{Instr}
use Rattle.nir_ir.specs.declared.node.Jump.{Jump}
use Rattle.nir_ir.specs.declared.node.Jump.TheVariants.{Break, Continue}
use Rattle.nir_ir.specs.declared.node.Phi.{Phi}
use Rattle.nir_ir.specs.declared.node.PhiSource.{PhiSource}
use Rattle.nir_ir.specs.Items.{PhiItem, InstrItem}
use Rattle.nir_lex.specs.declared.token.TokenKind.TheVariants.{Word, Punct}
use Rattle.nir_text.specs.declared.counts.Counts as counts
use Rattle.nir_text.specs.declared.fault.TextFault.{TextFault}
use Rattle.nir_text.specs.Signs.{Sign, kind_is_word, is_mark, is_word, first_of}
use Rattle.nir_text.specs.Naming.{Naming}
use Rattle.nir_text.specs.Reading.{Point, here, next, ◌>>=◌, value_begun, mark_at, word_at, kind_at, value_defined_at, bracketed_at}
use Rattle.nir_text.specs.Instrs.{instr_at, begins_instr, instrs_at, source_at, phi_at, begins_phi, phis_at, jump_at}
use Rattle.nir_spelling.specs.Lexemes.{lexemes_of, Behind, ◌▹◌, IsWord, IsMark, Each, Separated}
use Rattle.nir_spelling.specs.Spelling.{IsKind, IsValue, IsBlock, SpellsInstr, SpellsPhiSource, SpellsPhi, SpellsJump}
use Rattle.nir_spelling.proofs.Passes.{Passes, Passes-refl, Passes-then}
use Rattle.nir_spelling.proofs.Tokens.{kind_mark, form_word, form_other_word, begun}
use Rattle.nir_spelling.proofs.Grows.{Numbers, Numbers-split, Scans-then, Scans-pass}
use Rattle.nir_spelling.proofs.Gave.{Follows, plain_follows, follows_mark, follows_word, follows_kind, cond_true, cond_false, bind_reads, IsWhole, Gave, pass_that_word, gave_word, gave_kind}
use Rattle.nir_spelling.proofs.GaveParts.{source_gave, GivesEach, bracketed_gave}
use Rattle.nir_spelling.proofs.GaveInstrs.{kind_stands, not_mark}
use Rattle.nir_spelling.proofs.GaveItems.{Noted, Noted-same, Given, Given-gave, Given-then, Numbers-behind, defined_gave, value_counted}
use Rattle.nir_spelling.proofs.GaveBlocks.{StopsInstrs, StopsPhis, word_stops, mark_stops, no_name, instrs_follow, instr_is, begins_phi-as, instr_given}

-- a phi, behind its name and `=`
abbrev phi_rest : Naming → ValueId → Point → Result (Phi × Point) TextFault
phi_rest names value q = do
  word ← word_at (codes "phi") q
  kind ← kind_at word
  sources ← bracketed_at (λ k. source_at names) kind.1
  Ok (record { value = value; kind = kind.0; sources = sources.0 }, sources.1)

-- a mark is no word
mark_no_word : (word : List ℕ) (sign : Sign) (byte : ℕ) → sign.kind ≡ Punct byte → is_word word sign ≡ false
mark_no_word word sign byte e = ap (λ k. kind_is_word k && bytes_eq sign.text word) e

module _ (names : Naming) (total : counts.Counts) (is : IsWhole names total) (few : length names.values ≤ 16384) where
  -- ---- instructions

  pub instrs_given : (fuel : ℕ) (acc : Naming) (instrs : List Instr) (p : Point) (behind : Behind) → length p.rest ≤ fuel → Noted names total acc p.counts → Numbers p.counts (map InstrItem instrs)
      → Follows behind → StopsInstrs behind → Each (SpellsInstr names) instrs behind (lexemes_of p.rest) → Given names total acc (instrs_at names fuel p) instrs p (map InstrItem instrs) behind
  unfolding instrs_at
  instrs_given zero acc [] p behind room noted numbers follows stops h = absurd (omega (arith, room, stops.some p.rest h))
  instrs_given zero acc (instr ∷ instrs) p behind room noted numbers follows stops h = let b = instr_is names instr (Each (SpellsInstr names) instrs behind) p.rest h in absurd (omega (arith, room, b.some))
  instrs_given (suc fuel) acc [] p behind room noted numbers follows stops h =
      Given-gave names total acc (instrs_at names (suc fuel) p) [] p behind noted (record { at = p; passes = Passes-refl names total p; reads = cond_false (begins_instr (here p)) _ _ (stops.stops p.rest h); left = h })
  instrs_given (suc fuel) acc (instr ∷ instrs) p behind room noted numbers follows stops h =
      let rest = Each (SpellsInstr names) instrs behind in
      let b = instr_is names instr rest p.rest h in
      let split = Numbers-split p.counts (InstrItem instr ∷ []) (map InstrItem instrs) numbers in
      let first = instr_given names total is few acc instr p rest noted split.0 (instrs_follow names instrs behind follows) h in
      let numbers_rest = Numbers-behind names total acc (instr_at names p) instr p (InstrItem instr ∷ []) (map InstrItem instrs) rest first.0 numbers in
      let others = instrs_given fuel first.0.new instrs first.0.at behind (omega (arith, first.1, room)) first.0.noted numbers_rest follows stops first.0.left in
      Given-then names total acc (instr_at names p) instr p (InstrItem instr ∷ []) (map InstrItem instrs) rest behind first.0 (instrs_at names fuel first.0.at) instrs others (instrs_at names (suc fuel) p) (instr ∷ instrs)
      (cond_true (begins_instr (here p)) _ _ b.begins ∙ bind_reads (instr_at names p) _ (instr, first.0.at) first.0.reads ∙ bind_reads (instrs_at names fuel first.0.at) _ (instrs, others.at) others.reads)

  -- ---- phis

  phi_sources : (limit : ℕ) → GivesEach names total (SpellsPhiSource names) (λ k. source_at names) limit
  phi_sources limit = record {
    item = λ k x p behind lt follows h. source_gave names total is x p behind (plain_follows behind follows) h;
    opens = λ x behind signs h. word_opens x behind signs h;
  }
    where
      word_opens : (x : PhiSource) (behind : Behind) (signs : List Sign) → SpellsPhiSource names x behind (lexemes_of signs) → is_mark 93 (first_of signs) ≡ false
      word_opens x behind signs h = let b = begun (IsBlock names x.from) _ signs h in not_mark (first_of signs) Word b.is.0 refl

  -- a phi, behind its name and `=`
  phi_gave : (phi : Phi) (q : Point) (behind : Behind) → (IsWord (codes "phi") ▹ IsKind phi.kind ▹ IsMark 91 ▹ Separated (SpellsPhiSource names) phi.sources (IsMark 93 ▹ behind)) (lexemes_of q.rest)
      → (c : Point) × Passes names total q c × (behind (lexemes_of c.rest))
      × (phi_rest names phi.value q ≡ Ok (phi, c))
  phi_gave phi q behind h =
      let brackets = IsMark 91 ▹ Separated (SpellsPhiSource names) phi.sources (IsMark 93 ▹ behind) in
      let a = gave_word names total (codes "phi") q (IsKind phi.kind ▹ brackets) refl (follows_kind phi.kind brackets) h in
      let b = gave_kind names total phi.kind (next q) brackets (follows_mark 91 _ refl refl refl) a.left in
      let c = bracketed_gave names total (SpellsPhiSource names) (λ k. source_at names) (length phi.sources) (phi_sources (length phi.sources)) phi.sources b.at behind (omega arith) b.left in (
        c.at,
        Passes-then names total q (next q) c.at a.passes (Passes-then names total (next q) b.at c.at b.passes c.passes),
        c.left,
        bind_reads (word_at (codes "phi") q) _ (next q) a.reads ∙ bind_reads (kind_at (next q)) _ (phi.kind, b.at) b.reads ∙ bind_reads (bracketed_at (λ k. source_at names) b.at) _ (phi.sources, c.at) c.reads,
      )

  phi_given : (acc : Naming) (phi : Phi) (p : Point) (behind : Behind) → Noted names total acc p.counts → Numbers p.counts (PhiItem phi ∷ []) → SpellsPhi names phi behind (lexemes_of p.rest)
      → (given : Given names total acc (phi_at names p) phi p (PhiItem phi ∷ []) behind) × (length given.at.rest < length p.rest)
  unfolding phi_at
  phi_given acc phi p behind noted numbers h =
      let brackets = IsMark 91 ▹ Separated (SpellsPhiSource names) phi.sources (IsMark 93 ▹ behind) in
      let inside = IsWord (codes "phi") ▹ IsKind phi.kind ▹ brackets in
      let defined = defined_gave names total is few acc phi.value phi.kind p inside noted numbers.values.0 h (λ signs left. kind_stands (IsWord (codes "phi")) phi.kind brackets signs left) in
      let q = next (value_begun p) in
      let gave = phi_gave phi q behind defined.left in (
        record {
          at = gave.0;
          new = defined.new;
          scans = Scans-then names total acc defined.new defined.new p.rest (next (next p)).rest gave.0.rest defined.scans (Scans-pass names total defined.new q gave.0 gave.1);
          noted = Noted-same names total defined.new (record p.counts { values = p.counts.values + 1 }) gave.0.counts (sym gave.1.counts) defined.noted;
          counts = gave.1.counts ∙ value_counted names total is few p.counts;
          kinds = defined.kinds;
          reads = bind_reads (value_defined_at names p) _ (phi.value, value_begun p) defined.defines ∙ bind_reads (mark_at 61 (value_begun p)) _ q defined.equals ∙ gave.3;
          left = gave.2;
        },
        omega (arith, defined.less, gave.1.shorter),
      )

  phi_begins : (phi : Phi) (behind : Behind) (signs : List Sign) → SpellsPhi names phi behind (lexemes_of signs) → (begins_phi signs ≡ true) × (1 ≤ length signs)
  phi_begins phi behind signs h =
      let brackets = IsMark 91 ▹ Separated (SpellsPhiSource names) phi.sources (IsMark 93 ▹ behind) in
      let inside = IsWord (codes "phi") ▹ IsKind phi.kind ▹ brackets in
      let name = begun (IsValue names phi.value) (IsMark 61 ▹ inside) signs h in
      let equals = begun (IsMark 61) inside (drop 1 signs) name.left in
      let word = begun (IsWord (codes "phi")) (IsKind phi.kind ▹ brackets) (drop 1 (drop 1 signs)) equals.left in
      (begins_phi-as signs (codes "phi") name.is.0 (kind_mark 61 (first_of (drop 1 signs)).kind equals.is) word.is ∙ refl, name.some)

  pub phis_given : (fuel : ℕ) (acc : Naming) (phis : List Phi) (p : Point) (behind : Behind) → length p.rest ≤ fuel → Noted names total acc p.counts → Numbers p.counts (map PhiItem phis)
      → StopsPhis behind → Each (SpellsPhi names) phis behind (lexemes_of p.rest) → Given names total acc (phis_at names fuel p) phis p (map PhiItem phis) behind
  unfolding phis_at
  phis_given zero acc [] p behind room noted numbers stops h = absurd (omega (arith, room, stops.some p.rest h))
  phis_given zero acc (phi ∷ phis) p behind room noted numbers stops h = let b = phi_begins phi (Each (SpellsPhi names) phis behind) p.rest h in absurd (omega (arith, room, b.1))
  phis_given (suc fuel) acc [] p behind room noted numbers stops h =
      Given-gave names total acc (phis_at names (suc fuel) p) [] p behind noted (record { at = p; passes = Passes-refl names total p; reads = cond_false (begins_phi p.rest) _ _ (stops.stops p.rest h); left = h })
  phis_given (suc fuel) acc (phi ∷ phis) p behind room noted numbers stops h =
      let rest = Each (SpellsPhi names) phis behind in
      let b = phi_begins phi rest p.rest h in
      let split = Numbers-split p.counts (PhiItem phi ∷ []) (map PhiItem phis) numbers in
      let first = phi_given acc phi p rest noted split.0 h in
      let numbers_rest = Numbers-behind names total acc (phi_at names p) phi p (PhiItem phi ∷ []) (map PhiItem phis) rest first.0 numbers in
      let others = phis_given fuel first.0.new phis first.0.at behind (omega (arith, first.1, room)) first.0.noted numbers_rest stops first.0.left in
      Given-then names total acc (phi_at names p) phi p (PhiItem phi ∷ []) (map PhiItem phis) rest behind first.0 (phis_at names fuel first.0.at) phis others (phis_at names (suc fuel) p) (phi ∷ phis)
      (cond_true (begins_phi p.rest) _ _ b.0 ∙ bind_reads (phi_at names p) _ (phi, first.0.at) first.0.reads ∙ bind_reads (phis_at names fuel first.0.at) _ (phis, others.at) others.reads)

  -- ---- jumps

  pub jump_gave : (jump : Option Jump) (p : Point) (behind : Behind) → SpellsJump names jump (IsMark 125 ▹ behind) (lexemes_of p.rest) → Gave names total (jump_at p) jump p (IsMark 125 ▹ behind)
  unfolding jump_at
  jump_gave None p behind h =
      let b = begun (IsMark 125) behind p.rest h in
      record {
        at = p;
        passes = Passes-refl names total p;
        reads = cond_false (is_word (codes "break") (here p)) _ _ (mark_no_word (codes "break") (here p) 125 b.is) ∙ cond_false (is_word (codes "continue") (here p)) _ _ (mark_no_word (codes "continue") (here p) 125 b.is);
        left = h;
      }
  jump_gave (Some Break) p behind h =
      let b = begun (IsWord (codes "break")) (IsMark 125 ▹ behind) p.rest h in
      record {
        at = next p;
        passes = pass_that_word names total (codes "break") p (IsMark 125 ▹ behind) refl (follows_mark 125 behind refl refl refl) b;
        reads = cond_true (is_word (codes "break") (here p)) _ _ (form_word (codes "break") (here p) b.is);
        left = b.left;
      }
  jump_gave (Some Continue) p behind h =
      let b = begun (IsWord (codes "continue")) (IsMark 125 ▹ behind) p.rest h in
      record {
        at = next p;
        passes = pass_that_word names total (codes "continue") p (IsMark 125 ▹ behind) refl (follows_mark 125 behind refl refl refl) b;
        reads = cond_false (is_word (codes "break") (here p)) _ _ (form_other_word (codes "continue") (codes "break") (here p) b.is refl) ∙ cond_true (is_word (codes "continue") (here p)) _ _ (form_word (codes "continue") (here p) b.is);
        left = b.left;
      }

  word_jump : (word : List ℕ) (behind : Behind) → cond (bytes_eq word (codes "output")) true (bytes_eq word (codes "store")) ≡ false
      → StopsInstrs (IsWord word ▹ IsMark 125 ▹ behind) × StopsPhis (IsWord word ▹ IsMark 125 ▹ behind) × Follows (IsWord word ▹ IsMark 125 ▹ behind)
  word_jump word behind e = (
    record { some = λ signs h. (begun (IsWord word) (IsMark 125 ▹ behind) signs h).some; stops = λ signs h. word_stops word (first_of signs) (begun (IsWord word) (IsMark 125 ▹ behind) signs h).is e },
    record { some = λ signs h. (begun (IsWord word) (IsMark 125 ▹ behind) signs h).some; stops = λ signs h. no_name signs Word (begun (IsWord word) (IsMark 125 ▹ behind) signs h).is.0 refl },
    follows_word word (IsMark 125 ▹ behind),
  )

  -- what stands behind the phis and instructions of a block
  pub jump_stops : (jump : Option Jump) (behind : Behind) → StopsInstrs (SpellsJump names jump (IsMark 125 ▹ behind)) × StopsPhis (SpellsJump names jump (IsMark 125 ▹ behind)) × Follows (SpellsJump names jump (IsMark 125 ▹ behind))
  jump_stops None behind = (
    record { some = λ signs h. (begun (IsMark 125) behind signs h).some; stops = λ signs h. mark_stops 125 (first_of signs) (begun (IsMark 125) behind signs h).is },
    record { some = λ signs h. (begun (IsMark 125) behind signs h).some; stops = λ signs h. no_name signs (Punct 125) (begun (IsMark 125) behind signs h).is refl },
    follows_mark 125 behind refl refl refl,
  )
  jump_stops (Some Break) behind = word_jump (codes "break") behind refl
  jump_stops (Some Continue) behind = word_jump (codes "continue") behind refl

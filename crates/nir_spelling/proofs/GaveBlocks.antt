-- Lists of phis and instructions, and blocks, that are spelled and numbered in order are read.
use Rattle.std.proofs.Common.{◌≡◌, ℕ, ◌+◌, ◌<◌, ◌≤◌, true, false, cond, ◌&&◌, List, [], ◌∷◌, length, drop, codes, refl, ap, ◌∙◌}
use Rattle.std.specs.Str.{bytes_eq}
use Rattle.nir_ops.specs.Opcodes.{name_of as op_name}
use Rattle.nir_ir.specs.declared.ids.EffectId.{EffectId}
use Rattle.nir_ir.specs.declared.ids.ValueId.{ValueId}
use Rattle.nir_ir.specs.declared.instr.Instr.{Instr}
use Rattle.nir_ir.specs.declared.instr.Instr.TheVariants.{Alu, Const, Undef, Input, Output, LoadBuf, StoreBuf}
use Rattle.nir_ir.specs.declared.kind.Kind.{Kind}
use Rattle.nir_ir.specs.Items.{InstrItem}
use Rattle.nir_lex.specs.declared.token.TokenKind.{TokenKind}
use Rattle.nir_lex.specs.declared.token.TokenKind.TheVariants.{Word, Name, Punct}
use Rattle.nir_text.specs.declared.counts.Counts as counts
use Rattle.nir_text.specs.Signs.{Sign, kind_is_name, kind_is_word, is_mark, is_word, first_of}
use Rattle.nir_text.specs.Naming.{Naming}
use Rattle.nir_text.specs.Reading.{Point, here, next, value_begun}
use Rattle.nir_text.specs.Instrs.{is_keyword, effect_begun, definition_at, instr_at, begins_instr, begins_phi}
use Rattle.nir_spelling.specs.Lexemes.{lexeme_of, lexemes_of, Behind, ◌▹◌, IsWord, IsMark, IsIndex, Each}
use Rattle.nir_spelling.specs.Spelling.{IsKind, IsValue, SpellsInstr}
use Rattle.nir_spelling.proofs.Tables.{name_of-other}
use Rattle.nir_spelling.proofs.Tokens.{kind_mark, form_word, form_other_word, begun}
use Rattle.nir_spelling.proofs.Grows.{Numbers, after, counts_in}
use Rattle.nir_spelling.proofs.Gave.{Clear, Follows, follows_mark, follows_word, follows_value, cond_true, cond_false, IsWhole, Gave}
use Rattle.nir_spelling.proofs.GaveInstrs.{kind_stands, const_gave, undef_gave, input_gave, load_gave, alu_gave}
use Rattle.nir_spelling.proofs.GaveItems.{Noted, Given, defined_gave, given_definition, value_counted, effect_counted, output_gave, store_gave, given_head}

-- what may stand behind a list of instructions, and behind a list of phis
pub record StopsInstrs (behind : Behind) : Type 0 where
  pub some : (signs : List Sign) → behind (lexemes_of signs) → 1 ≤ length signs
  pub stops : (signs : List Sign) → behind (lexemes_of signs) → begins_instr (first_of signs) ≡ false

pub record StopsPhis (behind : Behind) : Type 0 where
  pub some : (signs : List Sign) → behind (lexemes_of signs) → 1 ≤ length signs
  pub stops : (signs : List Sign) → behind (lexemes_of signs) → begins_phi signs ≡ false

name_begins : (sign : Sign) → sign.kind ≡ Name → begins_instr sign ≡ true
unfolding begins_instr
name_begins sign e = ap (λ k. cond (kind_is_name k) true (cond (is_word (codes "output") sign) true (is_word (codes "store") sign))) e

-- the tests of a word that begins an instruction
word_begins : (word : List ℕ) (sign : Sign) → IsWord word (lexeme_of sign) → cond (bytes_eq word (codes "output")) true (bytes_eq word (codes "store")) ≡ true → begins_instr sign ≡ true
unfolding begins_instr
word_begins word sign is e =
    ap (λ k. cond (kind_is_name k) true (cond (kind_is_word k && bytes_eq sign.text (codes "output")) true (kind_is_word k && bytes_eq sign.text (codes "store")))) is.0
    ∙ ap (λ t. cond (bytes_eq t (codes "output")) true (bytes_eq t (codes "store"))) is.1 ∙ e

pub word_stops : (word : List ℕ) (sign : Sign) → IsWord word (lexeme_of sign) → cond (bytes_eq word (codes "output")) true (bytes_eq word (codes "store")) ≡ false → begins_instr sign ≡ false
unfolding begins_instr
word_stops word sign is e =
    ap (λ k. cond (kind_is_name k) true (cond (kind_is_word k && bytes_eq sign.text (codes "output")) true (kind_is_word k && bytes_eq sign.text (codes "store")))) is.0
    ∙ ap (λ t. cond (bytes_eq t (codes "output")) true (bytes_eq t (codes "store"))) is.1 ∙ e

pub mark_stops : (byte : ℕ) (sign : Sign) → sign.kind ≡ Punct byte → begins_instr sign ≡ false
unfolding begins_instr
mark_stops byte sign e = ap (λ k. cond (kind_is_name k) true (cond (kind_is_word k && bytes_eq sign.text (codes "output")) true (kind_is_word k && bytes_eq sign.text (codes "store")))) e

-- what begins with no name begins no phi
pub no_name : (signs : List Sign) (kind : TokenKind) → (first_of signs).kind ≡ kind → kind_is_name kind ≡ false → begins_phi signs ≡ false
unfolding begins_phi
no_name signs kind same e = ap (λ b. b && is_mark 61 (first_of (drop 1 signs)) && is_word (codes "phi") (first_of (drop 2 signs))) (ap kind_is_name same ∙ e)

drop_two : (signs : List Sign) → drop 2 signs ≡ drop 1 (drop 1 signs)
drop_two [] = refl
drop_two (a ∷ []) = refl
drop_two (a ∷ b ∷ signs) = refl

-- behind a name and `=`
pub begins_phi-as : (signs : List Sign) (word : List ℕ) → (first_of signs).kind ≡ Name → is_mark 61 (first_of (drop 1 signs)) ≡ true → IsWord word (lexeme_of (first_of (drop 1 (drop 1 signs)))) → begins_phi signs ≡ bytes_eq word (codes "phi")
unfolding begins_phi
begins_phi-as signs word name mark is =
    ap (λ k. kind_is_name k && is_mark 61 (first_of (drop 1 signs)) && is_word (codes "phi") (first_of (drop 2 signs))) name
    ∙ ap (λ b. b && is_word (codes "phi") (first_of (drop 2 signs))) mark
    ∙ ap (λ l. is_word (codes "phi") (first_of l)) (drop_two signs)
    ∙ ap (λ k. kind_is_word k && bytes_eq (first_of (drop 1 (drop 1 signs))).text (codes "phi")) is.0
    ∙ ap (λ t. bytes_eq t (codes "phi")) is.1

phi_is : is_keyword (codes "phi") ≡ true
unfolding is_keyword
phi_is = refl

-- a definition is no phi
no_phi : (names : Naming) (value : ValueId) (word : List ℕ) (behind : Behind) (signs : List Sign) → bytes_eq word (codes "phi") ≡ false → (IsValue names value ▹ IsMark 61 ▹ IsWord word ▹ behind) (lexemes_of signs) → begins_phi signs ≡ false
no_phi names value word behind signs differs h =
    let name = begun (IsValue names value) (IsMark 61 ▹ IsWord word ▹ behind) signs h in
    let equals = begun (IsMark 61) (IsWord word ▹ behind) (drop 1 signs) name.left in
    let third = begun (IsWord word) behind (drop 1 (drop 1 signs)) equals.left in
    begins_phi-as signs word name.is.0 (kind_mark 61 (first_of (drop 1 signs)).kind equals.is) third.is ∙ differs

module _ (names : Naming) where
  pub instr_no_phi : (instr : Instr) (behind : Behind) (signs : List Sign) → SpellsInstr names instr behind (lexemes_of signs) → begins_phi signs ≡ false
  instr_no_phi (Alu value op kind srcs) behind signs h = no_phi names value (op_name op) _ signs (name_of-other op (codes "phi") phi_is) h.1
  instr_no_phi (Const value kind comps) behind signs h = no_phi names value (codes "const") _ signs refl h.1
  instr_no_phi (Undef value kind) behind signs h = no_phi names value (codes "undef") _ signs refl h
  instr_no_phi (Input value kind slot) behind signs h = no_phi names value (codes "input") _ signs refl h
  instr_no_phi (LoadBuf value kind buffer offset) behind signs h = no_phi names value (codes "load") _ signs refl h
  instr_no_phi (Output effect slot src) behind signs h = let b = begun (IsWord (codes "output")) _ signs h in no_name signs Word b.is.0 refl
  instr_no_phi (StoreBuf effect buffer offset src) behind signs h = let b = begun (IsWord (codes "store")) _ signs h in no_name signs Word b.is.0 refl

  -- the first token of an instruction
  pub record IsBegin (signs : List Sign) : Type 0 where
    pub begins : begins_instr (first_of signs) ≡ true
    pub some : 1 ≤ length signs
    pub clear : Clear signs

  name_is : (value : ValueId) (behind : Behind) (signs : List Sign) → (IsValue names value ▹ behind) (lexemes_of signs) → IsBegin signs
  name_is value behind signs h =
      let b = begun (IsValue names value) behind signs h in
      record { begins = name_begins (first_of signs) b.is.0; some = b.some; clear = follows_value names value behind signs h }

  word_is : (word : List ℕ) (behind : Behind) (signs : List Sign) → cond (bytes_eq word (codes "output")) true (bytes_eq word (codes "store")) ≡ true → (IsWord word ▹ behind) (lexemes_of signs) → IsBegin signs
  word_is word behind signs e h =
      let b = begun (IsWord word) behind signs h in
      record { begins = word_begins word (first_of signs) b.is e; some = b.some; clear = follows_word word behind signs h }

  pub instr_is : (instr : Instr) (behind : Behind) (signs : List Sign) → SpellsInstr names instr behind (lexemes_of signs) → IsBegin signs
  instr_is (Alu value op kind srcs) behind signs h = name_is value _ signs h.1
  instr_is (Const value kind comps) behind signs h = name_is value _ signs h.1
  instr_is (Undef value kind) behind signs h = name_is value _ signs h
  instr_is (Input value kind slot) behind signs h = name_is value _ signs h
  instr_is (LoadBuf value kind buffer offset) behind signs h = name_is value _ signs h
  instr_is (Output effect slot src) behind signs h = word_is (codes "output") _ signs refl h
  instr_is (StoreBuf effect buffer offset src) behind signs h = word_is (codes "store") _ signs refl h

  pub instrs_follow : (instrs : List Instr) (behind : Behind) → Follows behind → Follows (Each (SpellsInstr names) instrs behind)
  instrs_follow [] behind follows = follows
  instrs_follow (instr ∷ instrs) behind follows = λ signs left. (instr_is instr (Each (SpellsInstr names) instrs behind) signs left).clear

  pub instrs_stop : (instrs : List Instr) (behind : Behind) → StopsPhis behind → StopsPhis (Each (SpellsInstr names) instrs behind)
  instrs_stop [] behind stops = stops
  instrs_stop (instr ∷ instrs) behind stops = record {
    some = λ signs left. (instr_is instr (Each (SpellsInstr names) instrs behind) signs left).some;
    stops = λ signs left. instr_no_phi instr (Each (SpellsInstr names) instrs behind) signs left;
  }

module _ (names : Naming) (total : counts.Counts) (is : IsWhole names total) (few : length names.values ≤ 16384) where
  abbrev pub GivenInstr : Naming → Instr → Point → Behind → Type 0
  GivenInstr acc instr p behind = (given : Given names total acc (instr_at names p) instr p (InstrItem instr ∷ []) behind) × (length given.at.rest < length p.rest)

  definition_given : (acc : Naming) (value : ValueId) (kind : Kind) (instr : Instr) (word : List ℕ) (p : Point) (rest behind : Behind) → Noted names total acc p.counts → value.0 ≡ p.counts.values
      → record p.counts { values = p.counts.values + 1 } ≡ after p.counts (InstrItem instr ∷ []) → kind.count ∷ [] ≡ counts_in (InstrItem instr ∷ [])
      → (IsValue names value ▹ IsMark 61 ▹ IsWord word ▹ IsKind kind ▹ rest) (lexemes_of p.rest)
      → ((IsWord word ▹ IsKind kind ▹ rest) (lexemes_of (next (value_begun p)).rest) → Gave names total (definition_at names value (next (value_begun p))) instr (next (value_begun p)) behind)
      → GivenInstr acc instr p behind
  definition_given acc value kind instr word p rest behind noted number counted kinds_are h follows =
      let inside = IsWord word ▹ IsKind kind ▹ rest in
      let b = begun (IsValue names value) (IsMark 61 ▹ inside) p.rest h in
      let defined = defined_gave names total is few acc value kind p inside noted number h (λ signs left. kind_stands (IsWord word) kind rest signs left) in
      given_definition names total is few acc value kind instr p inside behind counted kinds_are b.is.0 defined (follows defined.left)

  output_given : (acc : Naming) (effect : EffectId) (slot : ℕ) (src : ValueId) (p : Point) (behind : Behind) → Noted names total acc p.counts → effect.0 ≡ p.counts.effects → Follows behind
      → SpellsInstr names (Output effect slot src) behind (lexemes_of p.rest) → GivenInstr acc (Output effect slot src) p behind
  unfolding instr_at
  output_given acc effect slot src p behind noted number follows h =
      let inside = IsMark 64 ▹ IsIndex slot ▹ IsMark 44 ▹ IsValue names src ▹ behind in
      let b = begun (IsWord (codes "output")) inside p.rest h in
      let gave = output_gave names total is few effect slot src p behind number follows b.left in
      let test = cond_true (is_word (codes "output") (here p)) _ _ (form_word (codes "output") (here p) b.is) in
      let whole : Gave names total (instr_at names p) (Output effect slot src) (effect_begun p) behind = record { at = gave.at; passes = gave.passes; reads = test ∙ gave.reads; left = gave.left } in
      given_head names total is few acc (instr_at names p) (Output effect slot src) (codes "output") p (record p.counts { effects = p.counts.effects + 1 }) (InstrItem (Output effect slot src)) inside behind refl (follows_mark 64 (IsIndex slot ▹ IsMark 44 ▹ IsValue names src ▹ behind) refl refl refl) noted refl refl
      (effect_counted names total is few p.counts) refl b whole

  store_given : (acc : Naming) (effect : EffectId) (buffer : ℕ) (offset src : ValueId) (p : Point) (behind : Behind) → Noted names total acc p.counts → effect.0 ≡ p.counts.effects → Follows behind
      → SpellsInstr names (StoreBuf effect buffer offset src) behind (lexemes_of p.rest) → GivenInstr acc (StoreBuf effect buffer offset src) p behind
  unfolding instr_at
  store_given acc effect buffer offset src p behind noted number follows h =
      let inside = IsMark 64 ▹ IsIndex buffer ▹ IsMark 44 ▹ IsValue names offset ▹ IsMark 44 ▹ IsValue names src ▹ behind in
      let b = begun (IsWord (codes "store")) inside p.rest h in
      let gave = store_gave names total is few effect buffer offset src p behind number follows b.left in
      let test = cond_false (is_word (codes "output") (here p)) _ _ (form_other_word (codes "store") (codes "output") (here p) b.is refl) ∙ cond_true (is_word (codes "store") (here p)) _ _ (form_word (codes "store") (here p) b.is) in
      let whole : Gave names total (instr_at names p) (StoreBuf effect buffer offset src) (effect_begun p) behind = record { at = gave.at; passes = gave.passes; reads = test ∙ gave.reads; left = gave.left } in
      given_head names total is few acc (instr_at names p) (StoreBuf effect buffer offset src) (codes "store") p (record p.counts { effects = p.counts.effects + 1 }) (InstrItem (StoreBuf effect buffer offset src)) inside behind refl (follows_mark 64 (IsIndex buffer ▹ IsMark 44 ▹ IsValue names offset ▹ IsMark 44 ▹ IsValue names src ▹ behind) refl refl refl) noted refl refl
      (effect_counted names total is few p.counts) refl b whole

  pub instr_given : (acc : Naming) (instr : Instr) (p : Point) (behind : Behind) → Noted names total acc p.counts → Numbers p.counts (InstrItem instr ∷ []) → Follows behind → SpellsInstr names instr behind (lexemes_of p.rest) → GivenInstr acc instr p behind
  instr_given acc (Alu value op kind srcs) p behind noted numbers follows h =
      definition_given acc value kind (Alu value op kind srcs) (op_name op) p _ behind noted numbers.values.0 (value_counted names total is few p.counts) refl h.1
      (λ left. alu_gave names total is value op kind srcs (next (value_begun p)) behind h.0 follows left)
  instr_given acc (Const value kind comps) p behind noted numbers follows h =
      definition_given acc value kind (Const value kind comps) (codes "const") p _ behind noted numbers.values.0 (value_counted names total is few p.counts) refl h.1
      (λ left. const_gave names total is value kind comps (next (value_begun p)) behind h.0 left)
  instr_given acc (Undef value kind) p behind noted numbers follows h =
      definition_given acc value kind (Undef value kind) (codes "undef") p _ behind noted numbers.values.0 (value_counted names total is few p.counts) refl h
      (λ left. undef_gave names total is value kind (next (value_begun p)) behind follows left)
  instr_given acc (Input value kind slot) p behind noted numbers follows h =
      definition_given acc value kind (Input value kind slot) (codes "input") p _ behind noted numbers.values.0 (value_counted names total is few p.counts) refl h
      (λ left. input_gave names total is value kind slot (next (value_begun p)) behind left)
  instr_given acc (LoadBuf value kind buffer offset) p behind noted numbers follows h =
      definition_given acc value kind (LoadBuf value kind buffer offset) (codes "load") p _ behind noted numbers.values.0 (value_counted names total is few p.counts) refl h
      (λ left. load_gave names total is value kind buffer offset (next (value_begun p)) behind follows left)
  instr_given acc (Output effect slot src) p behind noted numbers follows h =
      output_given acc effect slot src p behind noted numbers.effects.0 follows h
  instr_given acc (StoreBuf effect buffer offset src) p behind noted numbers follows h =
      store_given acc effect buffer offset src p behind noted numbers.effects.0 follows h

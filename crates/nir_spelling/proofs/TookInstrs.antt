-- Instructions that were read are spelled: what stands behind `=`, before the definition itself is looked at.
use Rattle.std.proofs.Common.{◌≡◌, true, false, List, length, drop, Some, None, Ok, codes, refl, sym, ap, ◌∙◌, subst, inl, inr, arith}
use Rattle.std.specs.Option.{option_and_then}
use Rattle.std.proofs.lemmas.Option.{same_Some}
use Rattle.nir_ops.specs.Opcodes.{name_of, op_info}
use Rattle.nir_ir.specs.declared.ids.ValueId.{ValueId}
use Rattle.nir_ir.specs.declared.instr.Instr.{Instr}
use Rattle.nir_ir.specs.declared.instr.Instr.TheVariants.{Alu, Const, Undef, Input, Output, LoadBuf, StoreBuf}
use Rattle.nir_ir.specs.declared.kind.Kind.{Kind}
use Rattle.nir_ir.specs.Items.{target, effect_of}
use Rattle.nir_ir.specs.Definitions.{kind_of_target}
use Rattle.nir_text.specs.declared.counts.Counts as counts
use Rattle.nir_text.specs.Signs.{word_of, is_mark, is_word, first_of}
use Rattle.nir_text.specs.Kinds.{kind_named}
use Rattle.nir_text.specs.Naming.{Naming}
use Rattle.nir_text.specs.Reading.{Point, here, next, mark_at, kind_at, index_at, value_used_at, separated_at}
use Rattle.nir_text.specs.Instrs.{component_at, src_at, opcode_at, alu_at, const_at, undef_at, input_at, load_at, definition_at}
use Rattle.nir_spelling.specs.Lexemes.{Lexeme, Behind, Part, ◌▹◌, IsWord, IsMark, IsIndex, Separated}
use Rattle.nir_spelling.specs.Spelling.{IsKind, SpellsComponent, IsValue, SpellsSrc, SpellsInstr}
use Rattle.nir_spelling.proofs.Passes.{Known}
use Rattle.nir_text.specs.ReadingLaws.{ok_is, bind_ok, wanted_ok}
use Rattle.list_laws.specs.BoolLaws.{chosen}
use Rattle.nir_spelling.proofs.Tokens.{One}
use Rattle.nir_spelling.proofs.Took.{Took, Took-then, Took-known, mark_took, tested_took, kind_took, index_took, component_took, opcode_took, opcode_next, value_took}
use Rattle.nir_spelling.proofs.TookParts.{plain_mark, mark_ok, src_took, TakesEach, separated_took}

-- what stands behind `=`; the last two define nothing
abbrev pub DefinitionPart : Naming → Instr → Part
DefinitionPart names (Alu value op kind srcs) behind = IsWord (name_of op) ▹ IsKind kind ▹ Separated (SpellsSrc names) srcs behind
DefinitionPart names (Const value kind comps) behind = IsWord (codes "const") ▹ IsKind kind ▹ IsMark 40 ▹ Separated (SpellsComponent kind) comps (IsMark 41 ▹ behind)
DefinitionPart names (Undef value kind) behind = IsWord (codes "undef") ▹ IsKind kind ▹ behind
DefinitionPart names (Input value kind slot) behind = IsWord (codes "input") ▹ IsKind kind ▹ IsMark 64 ▹ IsIndex slot ▹ behind
DefinitionPart names (LoadBuf value kind buffer offset) behind = IsWord (codes "load") ▹ IsKind kind ▹ IsMark 64 ▹ IsIndex buffer ▹ IsMark 44 ▹ IsValue names offset ▹ behind
DefinitionPart names (Output effect slot src) behind = behind
DefinitionPart names (StoreBuf effect buffer offset src) behind = behind

abbrev pub HasParts : Instr → Type 0
HasParts (Alu value op kind srcs) = length srcs ≡ length (op_info op).inputs
HasParts (Const value kind comps) = length comps ≡ kind.count
HasParts (Undef value kind) = Unit {0}
HasParts (Input value kind slot) = Unit {0}
HasParts (LoadBuf value kind buffer offset) = Unit {0}
HasParts (Output effect slot src) = Unit {0}
HasParts (StoreBuf effect buffer offset src) = Unit {0}

pub definition_spelled : (names : Naming) (instr : Instr) (value : ValueId) (behind : Behind) (lexemes : List Lexeme) → target instr ≡ Some value → HasParts instr
    → (IsValue names value ▹ IsMark 61 ▹ DefinitionPart names instr behind) lexemes → SpellsInstr names instr behind lexemes
definition_spelled names (Alu v op kind srcs) value behind lexemes is parts h = (parts, subst (λ w. (IsValue names w ▹ IsMark 61 ▹ DefinitionPart names (Alu v op kind srcs) behind) lexemes) (sym (same_Some v value is)) h)
definition_spelled names (Const v kind comps) value behind lexemes is parts h = (parts, subst (λ w. (IsValue names w ▹ IsMark 61 ▹ DefinitionPart names (Const v kind comps) behind) lexemes) (sym (same_Some v value is)) h)
definition_spelled names (Undef v kind) value behind lexemes is parts h = subst (λ w. (IsValue names w ▹ IsMark 61 ▹ DefinitionPart names (Undef v kind) behind) lexemes) (sym (same_Some v value is)) h
definition_spelled names (Input v kind slot) value behind lexemes is parts h = subst (λ w. (IsValue names w ▹ IsMark 61 ▹ DefinitionPart names (Input v kind slot) behind) lexemes) (sym (same_Some v value is)) h
definition_spelled names (LoadBuf v kind buffer offset) value behind lexemes is parts h = subst (λ w. (IsValue names w ▹ IsMark 61 ▹ DefinitionPart names (LoadBuf v kind buffer offset) behind) lexemes) (sym (same_Some v value is)) h
definition_spelled names (Output effect slot src) value behind lexemes is parts h = absurd cc
definition_spelled names (StoreBuf effect buffer offset src) value behind lexemes is parts h = absurd cc

module _ (names : Naming) (total : counts.Counts) where
  -- the definition of a value, behind its name and `=`
  pub record TookDefinition (value : ValueId) (p : Point) (x : Instr × Point) : Type 1 where
    pub kind : Kind
    pub target : target x.0 ≡ Some value
    pub kind_of : kind_of_target x.0 ≡ Some kind
    pub effect : effect_of x.0 ≡ None
    pub parts : HasParts x.0
    -- the kind stands behind a word
    pub stands : option_and_then kind_named (word_of (first_of (drop 1 p.rest))) ≡ Some kind
    pub took : Took names total p x.1 (DefinitionPart names x.0)

  pub kind_there : (p : Point) (x : Kind × Point) → kind_at p ≡ Ok x → option_and_then kind_named (word_of (here p)) ≡ Some x.0
  unfolding kind_at
  kind_there p x e = (wanted_ok (option_and_then kind_named (word_of (here p))) p x e).0

  const_took : (value : ValueId) (p : Point) (x : Instr × Point) → Known names total p.rest → is_word (codes "const") (here p) ≡ true → const_at value (next p) ≡ Ok x → TookDefinition value p x
  unfolding const_at
  const_took value p x known test e =
      let a = bind_ok (kind_at (next p)) _ x e in
      let b = bind_ok (mark_at 40 a.0.1) _ x a.2 in
      let c = bind_ok (separated_at (λ k. component_at a.0.0) a.0.0.count b.0) _ x b.2 in
      let d = bind_ok (mark_at 41 c.0.1) _ x c.2 in
      let word = tested_took names total (codes "const") p refl known test in
      let kind = kind_took names total (next p) a.0 (Took-known names total p (next p) _ word known) a.1 in
      let head = Took-then names total p (next p) a.0.1 (One (IsWord (codes "const"))) (One (IsKind a.0.0)) word kind in
      let open_mark = mark_took names total 40 a.0.1 b.0 b.1 in
      let to_items = Took-then names total p a.0.1 b.0 (λ behind. IsWord (codes "const") ▹ IsKind a.0.0 ▹ behind) (One (IsMark 40)) head open_mark in
      let each : TakesEach names total (SpellsComponent a.0.0) (λ k. component_at a.0.0) = record { item = λ k p x known plain e. component_took names total a.0.0 p x e } in
      let items = separated_took names total (SpellsComponent a.0.0) (λ k. component_at a.0.0) each a.0.0.count b.0 c.0 (Took-known names total p b.0 _ to_items known) (plain_mark 41 c.0.1 (λ e. omega (arith, e)) (mark_ok 41 c.0.1 d.0 d.1)) c.1 in
      let closed = Took-then names total b.0 c.0.1 d.0 (Separated (SpellsComponent a.0.0) c.0.0) (One (IsMark 41)) items.took (mark_took names total 41 c.0.1 d.0 d.1) in
      let made : Instr × Point = (Const value a.0.0 c.0.0, d.0) in
      subst (TookDefinition value p) {x = made} (ok_is made x d.2) (record {
        kind = a.0.0;
        target = refl;
        kind_of = refl;
        effect = refl;
        parts = items.len;
        stands = kind_there (next p) a.0 a.1;
        took = Took-then names total p b.0 d.0 (λ behind. IsWord (codes "const") ▹ IsKind a.0.0 ▹ IsMark 40 ▹ behind) (λ behind. Separated (SpellsComponent a.0.0) c.0.0 (IsMark 41 ▹ behind)) to_items closed;
      })

  undef_took : (value : ValueId) (p : Point) (x : Instr × Point) → Known names total p.rest → is_word (codes "undef") (here p) ≡ true → undef_at value (next p) ≡ Ok x → TookDefinition value p x
  unfolding undef_at
  undef_took value p x known test e =
      let a = bind_ok (kind_at (next p)) _ x e in
      let word = tested_took names total (codes "undef") p refl known test in
      let kind = kind_took names total (next p) a.0 (Took-known names total p (next p) _ word known) a.1 in
      let made : Instr × Point = (Undef value a.0.0, a.0.1) in
      subst (TookDefinition value p) {x = made} (ok_is made x a.2) (record {
        kind = a.0.0;
        target = refl;
        kind_of = refl;
        effect = refl;
        parts = tt;
        stands = kind_there (next p) a.0 a.1;
        took = Took-then names total p (next p) a.0.1 (One (IsWord (codes "undef"))) (One (IsKind a.0.0)) word kind;
      })

  input_took : (value : ValueId) (p : Point) (x : Instr × Point) → Known names total p.rest → is_word (codes "input") (here p) ≡ true → input_at value (next p) ≡ Ok x → TookDefinition value p x
  unfolding input_at
  input_took value p x known test e =
      let a = bind_ok (kind_at (next p)) _ x e in
      let b = bind_ok (mark_at 64 a.0.1) _ x a.2 in
      let c = bind_ok (index_at b.0) _ x b.2 in
      let word = tested_took names total (codes "input") p refl known test in
      let kind = kind_took names total (next p) a.0 (Took-known names total p (next p) _ word known) a.1 in
      let head = Took-then names total p (next p) a.0.1 (One (IsWord (codes "input"))) (One (IsKind a.0.0)) word kind in
      let slot = Took-then names total a.0.1 b.0 c.0.1 (One (IsMark 64)) (One (IsIndex c.0.0)) (mark_took names total 64 a.0.1 b.0 b.1) (index_took names total b.0 c.0 c.1) in
      let made : Instr × Point = (Input value a.0.0 c.0.0, c.0.1) in
      subst (TookDefinition value p) {x = made} (ok_is made x c.2) (record {
        kind = a.0.0;
        target = refl;
        kind_of = refl;
        effect = refl;
        parts = tt;
        stands = kind_there (next p) a.0 a.1;
        took = Took-then names total p a.0.1 c.0.1 (λ behind. IsWord (codes "input") ▹ IsKind a.0.0 ▹ behind) (λ behind. IsMark 64 ▹ IsIndex c.0.0 ▹ behind) head slot;
      })

  load_took : (value : ValueId) (p : Point) (x : Instr × Point) → Known names total p.rest → is_mark 61 (here x.1) ≡ false → is_word (codes "load") (here p) ≡ true → load_at names value (next p) ≡ Ok x → TookDefinition value p x
  unfolding load_at
  load_took value p x known plain test e =
      let a = bind_ok (kind_at (next p)) _ x e in
      let b = bind_ok (mark_at 64 a.0.1) _ x a.2 in
      let c = bind_ok (index_at b.0) _ x b.2 in
      let d = bind_ok (mark_at 44 c.0.1) _ x c.2 in
      let f = bind_ok (value_used_at names d.0) _ x d.2 in
      let made : Instr × Point = (LoadBuf value a.0.0 c.0.0 f.0.0, f.0.1) in
      let same = ok_is made x f.2 in
      let word = tested_took names total (codes "load") p refl known test in
      let kind = kind_took names total (next p) a.0 (Took-known names total p (next p) _ word known) a.1 in
      let head = Took-then names total p (next p) a.0.1 (One (IsWord (codes "load"))) (One (IsKind a.0.0)) word kind in
      let buffer = Took-then names total a.0.1 b.0 c.0.1 (One (IsMark 64)) (One (IsIndex c.0.0)) (mark_took names total 64 a.0.1 b.0 b.1) (index_took names total b.0 c.0 c.1) in
      let to_comma = Took-then names total a.0.1 c.0.1 d.0 (λ behind. IsMark 64 ▹ IsIndex c.0.0 ▹ behind) (One (IsMark 44)) buffer (mark_took names total 44 c.0.1 d.0 d.1) in
      let to_offset = Took-then names total p a.0.1 d.0 (λ behind. IsWord (codes "load") ▹ IsKind a.0.0 ▹ behind) (λ behind. IsMark 64 ▹ IsIndex c.0.0 ▹ IsMark 44 ▹ behind) head to_comma in
      let offset = value_took names total d.0 f.0 (Took-known names total p d.0 _ to_offset known) (ap (λ y. is_mark 61 (here y.1)) {x = made} same ∙ plain) f.1 in
      subst (TookDefinition value p) {x = made} same (record {
        kind = a.0.0;
        target = refl;
        kind_of = refl;
        effect = refl;
        parts = tt;
        stands = kind_there (next p) a.0 a.1;
        took = Took-then names total p d.0 f.0.1 (λ behind. IsWord (codes "load") ▹ IsKind a.0.0 ▹ IsMark 64 ▹ IsIndex c.0.0 ▹ IsMark 44 ▹ behind) (One (IsValue names f.0.0)) to_offset offset;
      })

  module _ (level : length names.counts ≡ length names.values) where
    alu_took : (value : ValueId) (p : Point) (x : Instr × Point) → Known names total p.rest → is_mark 61 (here x.1) ≡ false → alu_at names value p ≡ Ok x → TookDefinition value p x
    unfolding alu_at
    alu_took value p x known plain e =
        let a = bind_ok (opcode_at p) _ x e in
        let b = bind_ok (kind_at a.0.1) _ x a.2 in
        let c = bind_ok (separated_at (λ k. src_at names) (length (op_info a.0.0).inputs) b.0.1) _ x b.2 in
        let made : Instr × Point = (Alu value a.0.0 b.0.0 c.0.0, c.0.1) in
        let same = ok_is made x c.2 in
        let op = opcode_took names total p a.0 known a.1 in
        let kind = kind_took names total a.0.1 b.0 (Took-known names total p a.0.1 _ op known) b.1 in
        let head = Took-then names total p a.0.1 b.0.1 (One (IsWord (name_of a.0.0))) (One (IsKind b.0.0)) op kind in
        let each : TakesEach names total (SpellsSrc names) (λ k. src_at names) = record { item = λ k p x known plain e. src_took names total level p x known plain e } in
        let srcs = separated_took names total (SpellsSrc names) (λ k. src_at names) each (length (op_info a.0.0).inputs) b.0.1 c.0 (Took-known names total p b.0.1 _ head known) (ap (λ y. is_mark 61 (here y.1)) {x = made} same ∙ plain) c.1 in
        subst (TookDefinition value p) {x = made} same (record {
          kind = b.0.0;
          target = refl;
          kind_of = refl;
          effect = refl;
          parts = srcs.len;
          stands = ap (λ (q : Point). option_and_then kind_named (word_of (here q))) (opcode_next names total p a.0 a.1) ∙ kind_there a.0.1 b.0 b.1;
          took = Took-then names total p b.0.1 c.0.1 (λ behind. IsWord (name_of a.0.0) ▹ IsKind b.0.0 ▹ behind) (Separated (SpellsSrc names) c.0.0) head srcs.took;
        })

    pub definition_took : (value : ValueId) (p : Point) (x : Instr × Point) → Known names total p.rest → is_mark 61 (here x.1) ≡ false → definition_at names value p ≡ Ok x → TookDefinition value p x
    unfolding definition_at
    definition_took value p x known plain e =
        elim (chosen (is_word (codes "const") (here p)) _ _ (Ok x) e) [
          | inl way ↦ const_took value p x known way.0 way.1
          | inr other ↦ elim (chosen (is_word (codes "undef") (here p)) _ _ (Ok x) other.1) [
            | inl way ↦ undef_took value p x known way.0 way.1
            | inr other ↦ elim (chosen (is_word (codes "input") (here p)) _ _ (Ok x) other.1) [
              | inl way ↦ input_took value p x known way.0 way.1
              | inr other ↦ elim (chosen (is_word (codes "load") (here p)) _ _ (Ok x) other.1) [
                | inl way ↦ load_took value p x known plain way.0 way.1
                | inr other ↦ alu_took value p x known plain other.1
              ]
            ]
          ]
        ]

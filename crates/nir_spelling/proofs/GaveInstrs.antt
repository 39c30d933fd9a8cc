-- What stands behind the name of a value and `=` is read as the instruction that it spells.
use Rattle.std.proofs.Common.{◌≡◌, ℕ, true, false, List, [], ◌∷◌, length, drop, Some, codes, refl, sym, ap, ◌∙◌, arith}
use Rattle.std.specs.Option.{option_and_then}
use Rattle.nir_ops.specs.declared.op.Op.{Op}
use Rattle.nir_ops.specs.Opcodes.{name_of, op_info}
use Rattle.nir_ir.specs.declared.ids.ValueId.{ValueId}
use Rattle.nir_ir.specs.declared.instr.Instr.TheVariants.{Alu, Const, Undef, Input, LoadBuf}
use Rattle.nir_ir.specs.declared.instr.Src.{Src}
use Rattle.nir_ir.specs.declared.kind.Kind.{Kind}
use Rattle.nir_lex.specs.Kinds as token_kind
use Rattle.nir_lex.specs.declared.token.TokenKind.{TokenKind}
use Rattle.nir_lex.specs.declared.token.TokenKind.TheVariants.{Number, Name}
use Rattle.nir_text.specs.declared.counts.Counts as counts
use Rattle.nir_text.specs.Signs.{Sign, word_of, is_mark, is_word, first_of}
use Rattle.nir_text.specs.Kinds.{kind_named}
use Rattle.nir_text.specs.Naming.{Naming}
use Rattle.nir_text.specs.Reading.{Point, here, next, mark_at, kind_at, index_at, value_used_at, separated_at}
use Rattle.nir_text.specs.Instrs.{is_keyword, component_at, src_at, opcode_at, alu_at, const_at, undef_at, input_at, load_at, definition_at}
use Rattle.nir_spelling.specs.Lexemes.{lexemes_of, Form, Behind, ◌▹◌, IsWord, IsMark, IsIndex, Separated}
use Rattle.nir_spelling.specs.Spelling.{IsKind, kind_word, IsComponent, SpellsComponent, IsValue, SpellsSrc}
use Rattle.nir_spelling.proofs.Passes.{Passes-then}
use Rattle.nir_spelling.proofs.Tables.{kind_named-kind_word, name_of-other}
use Rattle.nir_spelling.proofs.Tokens.{kind_word_of, form_word, form_other_word, begun}
use Rattle.nir_spelling.proofs.Gave.{Follows, plain_follows, follows_mark, follows_kind, follows_value, cond_true, cond_false, bind_reads, IsWhole, Gave, gave_mark, pass_that_word, gave_kind, gave_index, gave_component, gave_opcode, gave_value}
use Rattle.nir_spelling.proofs.GaveParts.{src_gave, GivesEach, separated_gave}

-- the kind of a definition stands behind a word
pub kind_stands : (form : Form) (kind : Kind) (behind : Behind) (signs : List Sign) → (form ▹ IsKind kind ▹ behind) (lexemes_of signs) → option_and_then kind_named (word_of (first_of (drop 1 signs))) ≡ Some kind
kind_stands form kind behind signs h =
    let first = begun form (IsKind kind ▹ behind) signs h in
    let second = begun (IsKind kind) behind (drop 1 signs) first.left in
    ap (option_and_then kind_named) (kind_word_of (first_of (drop 1 signs)) (kind_word kind) second.is.0.0 second.is.0.1) ∙ kind_named-kind_word kind second.is.1

-- what has another kind is no closing bracket
pub not_mark : (sign : Sign) (kind : TokenKind) → sign.kind ≡ kind → token_kind.is_mark 93 kind ≡ false → is_mark 93 sign ≡ false
not_mark sign kind same e = ap (token_kind.is_mark 93) same ∙ e

const_is : is_keyword (codes "const") ≡ true
unfolding is_keyword
const_is = refl

undef_is : is_keyword (codes "undef") ≡ true
unfolding is_keyword
undef_is = refl

input_is : is_keyword (codes "input") ≡ true
unfolding is_keyword
input_is = refl

load_is : is_keyword (codes "load") ≡ true
unfolding is_keyword
load_is = refl

module _ (names : Naming) (total : counts.Counts) (is : IsWhole names total) where
  components_gave : (kind : Kind) (limit : ℕ) → GivesEach names total (SpellsComponent kind) (λ k. component_at kind) limit
  components_gave kind limit = record {
    item = λ k x p behind lt follows h. gave_component names total kind x p behind h;
    opens = λ x behind signs h. number_opens kind x behind signs h;
  }
    where
      number_opens : (kind : Kind) (x : ℕ) (behind : Behind) (signs : List Sign) → SpellsComponent kind x behind (lexemes_of signs) → is_mark 93 (first_of signs) ≡ false
      number_opens kind x behind signs h = let b = begun (IsComponent kind x) behind signs h in not_mark (first_of signs) (Number b.is.0) b.is.1 refl

  sources_gave : (limit : ℕ) → GivesEach names total (SpellsSrc names) (λ k. src_at names) limit
  sources_gave limit = record {
    item = λ k x p behind lt follows h. src_gave names total is x p behind follows h;
    opens = λ x behind signs h. name_opens x behind signs h;
  }
    where
      name_opens : (x : Src) (behind : Behind) (signs : List Sign) → SpellsSrc names x behind (lexemes_of signs) → is_mark 93 (first_of signs) ≡ false
      name_opens x behind signs h = let b = begun (IsValue names x.value) _ signs h in not_mark (first_of signs) Name b.is.0 refl

  pub const_gave : (value : ValueId) (kind : Kind) (comps : List ℕ) (p : Point) (behind : Behind) → length comps ≡ kind.count
      → (IsWord (codes "const") ▹ IsKind kind ▹ IsMark 40 ▹ Separated (SpellsComponent kind) comps (IsMark 41 ▹ behind)) (lexemes_of p.rest) → Gave names total (definition_at names value p) (Const value kind comps) p behind
  unfolding definition_at const_at
  const_gave value kind comps p behind len h =
      let items = Separated (SpellsComponent kind) comps (IsMark 41 ▹ behind) in
      let word = begun (IsWord (codes "const")) (IsKind kind ▹ IsMark 40 ▹ items) p.rest h in
      let passes_word = pass_that_word names total (codes "const") p (IsKind kind ▹ IsMark 40 ▹ items) refl (follows_kind kind (IsMark 40 ▹ items)) word in
      let a = gave_kind names total kind (next p) (IsMark 40 ▹ items) (follows_mark 40 items refl refl refl) word.left in
      let b = gave_mark names total 40 a.at items a.left in
      let c = separated_gave names total (SpellsComponent kind) (λ k. component_at kind) (length comps) (components_gave kind (length comps)) comps (next a.at) (IsMark 41 ▹ behind) (omega arith) (follows_mark 41 behind refl refl refl) b.left in
      let d = gave_mark names total 41 c.at behind c.left in
      record {
        at = next c.at;
        passes = Passes-then names total p (next p) (next c.at) passes_word
            (Passes-then names total (next p) a.at (next c.at) a.passes (Passes-then names total a.at (next a.at) (next c.at) b.passes (Passes-then names total (next a.at) c.at (next c.at) c.passes d.passes)));
        reads = cond_true (is_word (codes "const") (here p)) _ _ (form_word (codes "const") (here p) word.is)
            ∙ bind_reads (kind_at (next p)) _ (kind, a.at) a.reads
            ∙ bind_reads (mark_at 40 a.at) _ (next a.at) b.reads
            ∙ bind_reads (separated_at (λ k. component_at kind) kind.count (next a.at)) _ (comps, c.at) (ap (λ n. separated_at (λ k. component_at kind) n (next a.at)) (sym len) ∙ c.reads)
            ∙ bind_reads (mark_at 41 c.at) _ (next c.at) d.reads;
        left = d.left;
      }

  pub undef_gave : (value : ValueId) (kind : Kind) (p : Point) (behind : Behind) → Follows behind → (IsWord (codes "undef") ▹ IsKind kind ▹ behind) (lexemes_of p.rest) → Gave names total (definition_at names value p) (Undef value kind) p behind
  unfolding definition_at undef_at
  undef_gave value kind p behind follows h =
      let word = begun (IsWord (codes "undef")) (IsKind kind ▹ behind) p.rest h in
      let passes_word = pass_that_word names total (codes "undef") p (IsKind kind ▹ behind) refl (follows_kind kind behind) word in
      let a = gave_kind names total kind (next p) behind follows word.left in
      record {
        at = a.at;
        passes = Passes-then names total p (next p) a.at passes_word a.passes;
        reads = cond_false (is_word (codes "const") (here p)) _ _ (form_other_word (codes "undef") (codes "const") (here p) word.is refl)
            ∙ cond_true (is_word (codes "undef") (here p)) _ _ (form_word (codes "undef") (here p) word.is)
            ∙ bind_reads (kind_at (next p)) _ (kind, a.at) a.reads;
        left = a.left;
      }

  pub input_gave : (value : ValueId) (kind : Kind) (slot : ℕ) (p : Point) (behind : Behind) → (IsWord (codes "input") ▹ IsKind kind ▹ IsMark 64 ▹ IsIndex slot ▹ behind) (lexemes_of p.rest)
      → Gave names total (definition_at names value p) (Input value kind slot) p behind
  unfolding definition_at input_at
  input_gave value kind slot p behind h =
      let at_part = IsMark 64 ▹ IsIndex slot ▹ behind in
      let word = begun (IsWord (codes "input")) (IsKind kind ▹ at_part) p.rest h in
      let passes_word = pass_that_word names total (codes "input") p (IsKind kind ▹ at_part) refl (follows_kind kind at_part) word in
      let a = gave_kind names total kind (next p) at_part (follows_mark 64 (IsIndex slot ▹ behind) refl refl refl) word.left in
      let b = gave_mark names total 64 a.at (IsIndex slot ▹ behind) a.left in
      let c = gave_index names total slot (next a.at) behind b.left in
      record {
        at = c.at;
        passes = Passes-then names total p (next p) c.at passes_word (Passes-then names total (next p) a.at c.at a.passes (Passes-then names total a.at (next a.at) c.at b.passes c.passes));
        reads = cond_false (is_word (codes "const") (here p)) _ _ (form_other_word (codes "input") (codes "const") (here p) word.is refl)
            ∙ cond_false (is_word (codes "undef") (here p)) _ _ (form_other_word (codes "input") (codes "undef") (here p) word.is refl)
            ∙ cond_true (is_word (codes "input") (here p)) _ _ (form_word (codes "input") (here p) word.is)
            ∙ bind_reads (kind_at (next p)) _ (kind, a.at) a.reads
            ∙ bind_reads (mark_at 64 a.at) _ (next a.at) b.reads
            ∙ bind_reads (index_at (next a.at)) _ (slot, c.at) c.reads;
        left = c.left;
      }

  pub load_gave : (value : ValueId) (kind : Kind) (buffer : ℕ) (offset : ValueId) (p : Point) (behind : Behind) → Follows behind
      → (IsWord (codes "load") ▹ IsKind kind ▹ IsMark 64 ▹ IsIndex buffer ▹ IsMark 44 ▹ IsValue names offset ▹ behind) (lexemes_of p.rest)
      → Gave names total (definition_at names value p) (LoadBuf value kind buffer offset) p behind
  unfolding definition_at load_at
  load_gave value kind buffer offset p behind follows h =
      let comma_part = IsMark 44 ▹ IsValue names offset ▹ behind in
      let at_part = IsMark 64 ▹ IsIndex buffer ▹ comma_part in
      let word = begun (IsWord (codes "load")) (IsKind kind ▹ at_part) p.rest h in
      let passes_word = pass_that_word names total (codes "load") p (IsKind kind ▹ at_part) refl (follows_kind kind at_part) word in
      let a = gave_kind names total kind (next p) at_part (follows_mark 64 (IsIndex buffer ▹ comma_part) refl refl refl) word.left in
      let b = gave_mark names total 64 a.at (IsIndex buffer ▹ comma_part) a.left in
      let c = gave_index names total buffer (next a.at) comma_part b.left in
      let d = gave_mark names total 44 c.at (IsValue names offset ▹ behind) c.left in
      let f = gave_value names total is offset (next c.at) behind (plain_follows behind follows) d.left in
      let to_comma = Passes-then names total (next p) a.at (next c.at) a.passes (Passes-then names total a.at (next a.at) (next c.at) b.passes (Passes-then names total (next a.at) c.at (next c.at) c.passes d.passes)) in
      record {
        at = f.at;
        passes = Passes-then names total p (next p) f.at passes_word (Passes-then names total (next p) (next c.at) f.at to_comma f.passes);
        reads = cond_false (is_word (codes "const") (here p)) _ _ (form_other_word (codes "load") (codes "const") (here p) word.is refl)
            ∙ cond_false (is_word (codes "undef") (here p)) _ _ (form_other_word (codes "load") (codes "undef") (here p) word.is refl)
            ∙ cond_false (is_word (codes "input") (here p)) _ _ (form_other_word (codes "load") (codes "input") (here p) word.is refl)
            ∙ cond_true (is_word (codes "load") (here p)) _ _ (form_word (codes "load") (here p) word.is)
            ∙ bind_reads (kind_at (next p)) _ (kind, a.at) a.reads
            ∙ bind_reads (mark_at 64 a.at) _ (next a.at) b.reads
            ∙ bind_reads (index_at (next a.at)) _ (buffer, c.at) c.reads
            ∙ bind_reads (mark_at 44 c.at) _ (next c.at) d.reads
            ∙ bind_reads (value_used_at names (next c.at)) _ (offset, f.at) f.reads;
        left = f.left;
      }

  pub alu_gave : (value : ValueId) (op : Op) (kind : Kind) (srcs : List Src) (p : Point) (behind : Behind) → length srcs ≡ length (op_info op).inputs → Follows behind
      → (IsWord (name_of op) ▹ IsKind kind ▹ Separated (SpellsSrc names) srcs behind) (lexemes_of p.rest)
      → Gave names total (definition_at names value p) (Alu value op kind srcs) p behind
  unfolding definition_at alu_at
  alu_gave value op kind srcs p behind len follows h =
      let items = Separated (SpellsSrc names) srcs behind in
      let word = begun (IsWord (name_of op)) (IsKind kind ▹ items) p.rest h in
      let a = gave_opcode names total op p (IsKind kind ▹ items) (follows_kind kind items) h in
      let b = gave_kind names total kind a.at items (srcs_follow srcs) a.left in
      let c = separated_gave names total (SpellsSrc names) (λ k. src_at names) (length srcs) (sources_gave (length srcs)) srcs b.at behind (omega arith) follows b.left in
      record {
        at = c.at;
        passes = Passes-then names total p a.at c.at a.passes (Passes-then names total a.at b.at c.at b.passes c.passes);
        reads = cond_false (is_word (codes "const") (here p)) _ _ (form_other_word (name_of op) (codes "const") (here p) word.is (name_of-other op (codes "const") const_is))
            ∙ cond_false (is_word (codes "undef") (here p)) _ _ (form_other_word (name_of op) (codes "undef") (here p) word.is (name_of-other op (codes "undef") undef_is))
            ∙ cond_false (is_word (codes "input") (here p)) _ _ (form_other_word (name_of op) (codes "input") (here p) word.is (name_of-other op (codes "input") input_is))
            ∙ cond_false (is_word (codes "load") (here p)) _ _ (form_other_word (name_of op) (codes "load") (here p) word.is (name_of-other op (codes "load") load_is))
            ∙ bind_reads (opcode_at p) _ (op, a.at) a.reads
            ∙ bind_reads (kind_at a.at) _ (kind, b.at) b.reads
            ∙ bind_reads (separated_at (λ k. src_at names) (length (op_info op).inputs) b.at) _ (srcs, c.at) (ap (λ n. separated_at (λ k. src_at names) n b.at) (sym len) ∙ c.reads);
        left = c.left;
      }
    where
      srcs_follow : (list : List Src) → Follows (Separated (SpellsSrc names) list behind)
      srcs_follow [] = follows
      srcs_follow (src ∷ list) = follows_value names src.value _

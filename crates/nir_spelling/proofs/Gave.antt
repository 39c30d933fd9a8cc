-- A token that is spelled is read: each reader of one token finds in it what the grammar asks for.
use Rattle.std.proofs.Common.{◌≡◌, ℕ, ◌<◌, Bool, true, false, not, cond, List, length, drop, pos, Option, Some, Result, Ok, Err, nat_eq, codes, refl, ap, ◌∙◌, arith, lt-ltb}
use Rattle.std.specs.List.{IsDistinct}
use Rattle.std.specs.Option.{unwrap_or, option_and_then}
use Rattle.std.specs.Str.{bytes_eq}
use Rattle.nir_ops.specs.declared.op.Op.{Op}
use Rattle.nir_ops.specs.Opcodes.{name_of as op_name}
use Rattle.nir_ops.specs.Lookup.{op_named}
use Rattle.nir_ops.specs.Names.{op_named-name_of}
use Rattle.nir_ops.specs.Width.{width_bits}
use Rattle.nir_ir.specs.declared.ids.BlockId.{BlockId}
use Rattle.nir_ir.specs.declared.ids.ValueId.{ValueId}
use Rattle.nir_ir.specs.declared.kind.Kind.{Kind}
use Rattle.nir_lex.specs.Kinds as token_kind
use Rattle.nir_lex.specs.declared.token.TokenKind.{TokenKind}
use Rattle.nir_lex.specs.declared.token.TokenKind.TheVariants.{Word, Number, Name, Punct}
use Rattle.nir_text.specs.declared.counts.Counts as counts
use Rattle.nir_text.specs.declared.fault.TextFault.{TextFault}
use Rattle.nir_text.specs.declared.fault.TextFault.TheVariants.{Expected}
use Rattle.nir_text.specs.Signs.{Sign, word_of, name_of, number_of_kind, is_mark, is_word, first_of}
use Rattle.nir_text.specs.Kinds.{kind_named}
use Rattle.nir_text.specs.Naming.{Naming, place_of, is_among_first, is_unknown_name, is_unknown_block}
use Rattle.nir_text.specs.Reading.{Point, here, next, ◌>>=◌, mark_at, word_at, wanted, kind_at, index_of, index_at, value_used_at, block_used_at}
use Rattle.nir_text.specs.Instrs.{is_keyword, component_of, component_at, named_or, opcode_of, opcode_at}
use Rattle.nir_spelling.specs.Lexemes.{lexemes_of, Behind, ◌▹◌, IsWord, IsMark, IsIndex}
use Rattle.nir_spelling.specs.Spelling.{IsKind, kind_word, IsComponent, SpellsComponent, IsValue, IsBlock}
use Rattle.nir_spelling.proofs.Names.{get-place_of, get-within}
use Rattle.nir_spelling.proofs.Passes.{Passes, pass_mark, pass_number, pass_word, pass_any_word, pass_name, word_known, block_known, name_known}
use Rattle.nir_spelling.proofs.Tables.{kind_named-kind_word, kind_word-other, name_of-no_keyword, name_of-other, component_of-given, index_of-pos}
use Rattle.nir_spelling.proofs.Tokens.{kind_mark, kind_word_of, kind_name_of, form_word, Begins, begun}
use Rattle.nir_spelling.proofs.Took.{block_is_keyword, no_word}

-- ---- what stands behind a part

-- neither `=` nor `:` nor `.`
pub record Clear (signs : List Sign) : Type 0 where
  pub equals : is_mark 61 (first_of signs) ≡ false
  pub colon : is_mark 58 (first_of signs) ≡ false
  pub dot : is_mark 46 (first_of signs) ≡ false

abbrev pub Follows : Behind → Type 0
Follows behind = (signs : List Sign) → behind (lexemes_of signs) → Clear signs

-- no `=`
abbrev pub Plain : Behind → Type 0
Plain behind = (signs : List Sign) → behind (lexemes_of signs) → is_mark 61 (first_of signs) ≡ false

pub plain_follows : (behind : Behind) → Follows behind → Plain behind
plain_follows behind follows = λ signs left. (follows signs left).equals

clear_kind : (signs : List Sign) (kind : TokenKind) → (first_of signs).kind ≡ kind → token_kind.is_mark 61 kind ≡ false → token_kind.is_mark 58 kind ≡ false → token_kind.is_mark 46 kind ≡ false → Clear signs
clear_kind signs kind same equals colon dot = record {
  equals = ap (token_kind.is_mark 61) same ∙ equals;
  colon = ap (token_kind.is_mark 58) same ∙ colon;
  dot = ap (token_kind.is_mark 46) same ∙ dot;
}

pub follows_mark : (byte : ℕ) (behind : Behind) → nat_eq byte 61 ≡ false → nat_eq byte 58 ≡ false → nat_eq byte 46 ≡ false → Follows (IsMark byte ▹ behind)
follows_mark byte behind equals colon dot = λ signs left. let b = begun (IsMark byte) behind signs left in clear_kind signs (Punct byte) b.is equals colon dot

pub follows_word : (word : List ℕ) (behind : Behind) → Follows (IsWord word ▹ behind)
follows_word word behind = λ signs left. let b = begun (IsWord word) behind signs left in clear_kind signs Word b.is.0 refl refl refl

pub follows_kind : (kind : Kind) (behind : Behind) → Follows (IsKind kind ▹ behind)
follows_kind kind behind = λ signs left. let b = begun (IsKind kind) behind signs left in clear_kind signs Word b.is.0.0 refl refl refl

pub follows_index : (n : ℕ) (behind : Behind) → Follows (IsIndex n ▹ behind)
follows_index n behind = λ signs left. let b = begun (IsIndex n) behind signs left in clear_kind signs (Number (pos n)) b.is.0 refl refl refl

pub follows_value : (names : Naming) (value : ValueId) (behind : Behind) → Follows (IsValue names value ▹ behind)
follows_value names value behind = λ signs left. let b = begun (IsValue names value) behind signs left in clear_kind signs Name b.is.0 refl refl refl

pub follows_block : (names : Naming) (block : BlockId) (behind : Behind) → Follows (IsBlock names block ▹ behind)
follows_block names block behind = λ signs left. let b = begun (IsBlock names block) behind signs left in clear_kind signs Word b.is.0 refl refl refl

-- ---- steps

pub cond_true : {A : Type 0} (b : Bool) (x y : A) → b ≡ true → cond b x y ≡ x
cond_true b x y e = ap (λ t. cond t x y) e

pub cond_false : {A : Type 0} (b : Bool) (x y : A) → b ≡ false → cond b x y ≡ y
cond_false b x y e = ap (λ t. cond t x y) e

pub bind_reads : {A B : Type 0} (r : Result A TextFault) (f : A → Result B TextFault) (x : A) → r ≡ Ok x → (r >>= f) ≡ f x
bind_reads r f x e = ap (λ s. s >>= f) e

pub wanted_reads : {A : Type 0} (o : Option A) (p : Point) (x : A) → o ≡ Some x → wanted o p ≡ Ok (x, next p)
wanted_reads o p x e = ap (λ s. wanted s p) e

module _ (names : Naming) (total : counts.Counts) where
  -- the naming names all that is defined, each by another name
  pub record IsWhole : Type 0 where
    pub distinct_names : IsDistinct bytes_eq names.values
    pub distinct_words : IsDistinct bytes_eq names.blocks
    pub values : total.values ≡ length names.values
    pub blocks : total.blocks ≡ length names.blocks

  -- a reader reads this, and stops before what stands behind it
  pub record Gave {X : Type 0} (read : Result (X × Point) TextFault) (x : X) (p : Point) (behind : Behind) : Type 0 where
    pub at : Point
    pub passes : Passes names total p at
    pub reads : read ≡ Ok (x, at)
    pub left : behind (lexemes_of at.rest)

  pub record GaveOne (read : Result Point TextFault) (p : Point) (behind : Behind) : Type 0 where
    pub passes : Passes names total p (next p)
    pub reads : read ≡ Ok (next p)
    pub left : behind (lexemes_of (next p).rest)

  pub gave_mark : (byte : ℕ) (p : Point) (behind : Behind) → (IsMark byte ▹ behind) (lexemes_of p.rest) → GaveOne (mark_at byte p) p behind
  unfolding mark_at
  gave_mark byte p behind h =
      let b = begun (IsMark byte) behind p.rest h in
      record {
        passes = pass_mark names total p byte b.some b.is;
        reads = cond_true (is_mark byte (here p)) (Ok (next p)) (Err (Expected (here p).place)) (kind_mark byte (here p).kind b.is);
        left = b.left;
      }

  pub pass_that_word : (word : List ℕ) (p : Point) (behind : Behind) → bytes_eq word (codes "block") ≡ false → Follows behind → Begins (IsWord word) behind p.rest → Passes names total p (next p)
  pass_that_word word p behind other follows b =
      pass_word names total p b.some b.is.0 (ap (λ t. bytes_eq t (codes "block")) b.is.1 ∙ other) (word_known names total p b.is.0 (follows (drop 1 p.rest) b.left).colon)

  pub gave_word : (word : List ℕ) (p : Point) (behind : Behind) → bytes_eq word (codes "block") ≡ false → Follows behind → (IsWord word ▹ behind) (lexemes_of p.rest) → GaveOne (word_at word p) p behind
  unfolding word_at
  gave_word word p behind other follows h =
      let b = begun (IsWord word) behind p.rest h in
      record {
        passes = pass_that_word word p behind other follows b;
        reads = cond_true (is_word word (here p)) (Ok (next p)) (Err (Expected (here p).place)) (form_word word (here p) b.is);
        left = b.left;
      }

  pub gave_kind : (kind : Kind) (p : Point) (behind : Behind) → Follows behind → (IsKind kind ▹ behind) (lexemes_of p.rest) → Gave (kind_at p) kind p behind
  unfolding kind_at
  gave_kind kind p behind follows h =
      let b = begun (IsKind kind) behind p.rest h in
      let found = ap (option_and_then kind_named) (kind_word_of (here p) (kind_word kind) b.is.0.0 b.is.0.1) ∙ kind_named-kind_word kind b.is.1 in
      record {
        at = next p;
        passes = pass_word names total p b.some b.is.0.0 (ap (λ t. bytes_eq t (codes "block")) b.is.0.1 ∙ kind_word-other kind b.is.1) (word_known names total p b.is.0.0 (follows (drop 1 p.rest) b.left).colon);
        reads = wanted_reads (option_and_then kind_named (word_of (here p))) p kind found;
        left = b.left;
      }

  pub gave_index : (n : ℕ) (p : Point) (behind : Behind) → (IsIndex n ▹ behind) (lexemes_of p.rest) → Gave (index_at p) n p behind
  unfolding index_at
  gave_index n p behind h =
      let b = begun (IsIndex n) behind p.rest h in
      record {
        at = next p;
        passes = pass_number names total p (pos n) b.some b.is.0;
        reads = wanted_reads (option_and_then index_of (number_of_kind (here p).kind)) p n (ap (λ k. option_and_then index_of (number_of_kind k)) b.is.0 ∙ index_of-pos n b.is.1);
        left = b.left;
      }

  pub gave_component : (kind : Kind) (component : ℕ) (p : Point) (behind : Behind) → SpellsComponent kind component behind (lexemes_of p.rest) → Gave (component_at kind p) component p behind
  unfolding component_at
  gave_component kind component p behind h =
      let b = begun (IsComponent kind component) behind p.rest h in
      record {
        at = next p;
        passes = pass_number names total p b.is.0 b.some b.is.1;
        reads = wanted_reads (option_and_then (component_of (width_bits kind.width)) (number_of_kind (here p).kind)) p component
            (ap (λ k. option_and_then (component_of (width_bits kind.width)) (number_of_kind k)) b.is.1 ∙ component_of-given kind.width b.is.0 component b.is.2);
        left = b.left;
      }

  pub gave_opcode : (op : Op) (p : Point) (behind : Behind) → Follows behind → (IsWord (op_name op) ▹ behind) (lexemes_of p.rest) → Gave (opcode_at p) op p behind
  unfolding opcode_at
  gave_opcode op p behind follows h =
      let b = begun (IsWord (op_name op)) behind p.rest h in
      record {
        at = next p;
        passes = pass_that_word (op_name op) p behind (name_of-other op (codes "block") block_is_keyword) follows b;
        reads = ap (λ o. opcode_of o p) (kind_word_of (here p) (op_name op) b.is.0 b.is.1)
            ∙ cond_false (is_keyword (op_name op)) (Err (Expected (here p).place)) (named_or (op_named (op_name op)) p) (name_of-no_keyword op)
            ∙ ap (λ o. named_or o p) (op_named-name_of op);
        left = b.left;
      }

  module _ (is : IsWhole) where
    pub gave_value : (value : ValueId) (p : Point) (behind : Behind) → Plain behind → (IsValue names value ▹ behind) (lexemes_of p.rest) → Gave (value_used_at names p) value p behind
    unfolding value_used_at
    gave_value value p behind plain h =
        let b = begun (IsValue names value) behind p.rest h in
        let text = (here p).text in
        let place : place_of text names.values ≡ Some value.0 = get-place_of text names.values value.0 is.distinct_names b.is.1 in
        let there : value.0 < total.values = let lt = get-within names.values value.0 text b.is.1 in omega (arith, lt, is.values) in
        let known : is_unknown_name names total (Some text) ≡ false = ap (λ o. not (is_among_first total.values o)) place ∙ ap not (lt-ltb value.0 total.values there) in
        record {
          at = next p;
          passes = pass_name names total p b.some b.is.0 (plain (drop 1 p.rest) b.left) (name_known names total p b.is.0 known);
          reads = bind_reads (wanted (name_of (here p)) p) _ (text, next p) (wanted_reads (name_of (here p)) p text (kind_name_of (here p) b.is.0)) ∙ ap (λ o. Ok (record { 0 = unwrap_or o 0 }, next p)) place;
          left = b.left;
        }

    pub gave_block : (block : BlockId) (p : Point) (behind : Behind) → (IsBlock names block ▹ IsMark 58 ▹ behind) (lexemes_of p.rest) → Gave (block_used_at names p) block p (IsMark 58 ▹ behind)
    unfolding block_used_at
    gave_block block p behind h =
        let b = begun (IsBlock names block) (IsMark 58 ▹ behind) p.rest h in
        let colon = begun (IsMark 58) behind (drop 1 p.rest) b.left in
        let text = (here p).text in
        let place : place_of text names.blocks ≡ Some block.0 = get-place_of text names.blocks block.0 is.distinct_words b.is.1 in
        let there : block.0 < total.blocks = let lt = get-within names.blocks block.0 text b.is.1 in omega (arith, lt, is.blocks) in
        let known : is_unknown_block names total (Some text) ≡ false = ap (λ o. not (is_among_first total.blocks o)) place ∙ ap not (lt-ltb block.0 total.blocks there) in
        record {
          at = next p;
          passes = pass_any_word names total p b.some b.is.0 (no_word (here (next p)) 58 colon.is) (block_known names total p b.is.0 known);
          reads = bind_reads (wanted (word_of (here p)) p) _ (text, next p) (wanted_reads (word_of (here p)) p text (kind_word_of (here p) text b.is.0 refl)) ∙ ap (λ o. Ok (record { 0 = unwrap_or o 0 }, next p)) place;
          left = b.left;
        }

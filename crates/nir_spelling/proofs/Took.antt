-- A token that was read is spelled: what each reader of one token takes has the form that the grammar asks for.
use Rattle.std.proofs.Common.{◌≡◌, ℕ, ◌≤◌, true, false, List, length, ℤ, Option, Some, None, Ok, codes, refl, sym, ap, ◌∙◌, subst}
use Rattle.std.specs.Prelude.{IfSome}
use Rattle.std.specs.Option.{unwrap_or, option_and_then}
use Rattle.std.specs.Str.{bytes_eq}
use Rattle.nir_ops.specs.declared.op.Op.{Op}
use Rattle.nir_ops.specs.Opcodes.{name_of as op_name}
use Rattle.nir_ops.specs.Lookup.{op_named}
use Rattle.nir_ops.specs.Names.{op_named-named}
use Rattle.nir_ops.specs.Width.{width_bits}
use Rattle.nir_ir.specs.declared.ids.BlockId.{BlockId}
use Rattle.nir_ir.specs.declared.ids.ValueId.{ValueId}
use Rattle.nir_ir.specs.declared.kind.Kind.{Kind}
use Rattle.nir_lex.specs.declared.token.TokenKind.TheVariants.{Word, Number, Name, Punct}
use Rattle.nir_text.specs.declared.counts.Counts as counts
use Rattle.nir_text.specs.declared.fault.TextFault.TheVariants.{Expected}
use Rattle.nir_text.specs.Signs.{Sign, word_of, word_of_kind, name_of, number_of_kind, is_mark, is_word}
use Rattle.nir_text.specs.Kinds.{kind_named}
use Rattle.nir_text.specs.Naming.{Naming, place_of}
use Rattle.nir_text.specs.Reading.{Point, here, next, mark_at, word_at, wanted, kind_at, index_of, index_at, value_used_at, block_used_at}
use Rattle.nir_text.specs.Instrs.{is_keyword, component_of, component_at, named_or, opcode_of, opcode_at}
use Rattle.nir_spelling.specs.Lexemes.{lexeme_of, lexemes_of, Form, Behind, Part, IsWord, IsMark, IsIndex}
use Rattle.nir_spelling.specs.Spelling.{IsKind, IsComponent, SpellsComponent, IsValue, IsBlock}
use Rattle.nir_spelling.proofs.Names.{known_place, place_of-get}
use Rattle.nir_spelling.proofs.Passes.{Passes, Passes-refl, Passes-then, Known, Known-behind, known_here, pass_mark, pass_number, pass_word, pass_any_word, pass_name, known_name, known_block}
use Rattle.nir_spelling.proofs.Tables.{kind_named-is, kind_word-other, name_of-other, component_of-gives, index_of-is}
use Rattle.nir_text.specs.ReadingLaws.{ok_is, bind_ok, held, not_held, wanted_ok}
use Rattle.nir_spelling.proofs.Tokens.{mark_kind, word_kind, name_kind, number_kind, word_form, there_by_kind, One, begins}

pub block_is_keyword : is_keyword (codes "block") ≡ true
unfolding is_keyword
block_is_keyword = refl

-- a mark is no word
pub no_word : (sign : Sign) (byte : ℕ) → sign.kind ≡ Punct byte → word_of sign ≡ None
no_word sign byte e = ap (λ k. word_of_kind k sign.text) e

module _ (names : Naming) (total : counts.Counts) where
  -- the part between two points is spelled, whatever stands behind it
  pub record Took (p q : Point) (part : Part) : Type 1 where
    pub passes : Passes names total p q
    pub spells : (behind : Behind) → behind (lexemes_of q.rest) → part behind (lexemes_of p.rest)

  pub Took-then : (p q r : Point) (first second : Part) → Took p q first → Took q r second → Took p r (λ behind. first (second behind))
  Took-then p q r first second a b = record {
    passes = Passes-then names total p q r a.passes b.passes;
    spells = λ behind left. a.spells (second behind) (b.spells behind left);
  }

  pub Took-none : (p : Point) → Took p p (λ behind. behind)
  Took-none p = record { passes = Passes-refl names total p; spells = λ behind left. left }

  pub Took-known : (p q : Point) (part : Part) → Took p q part → Known names total p.rest → Known names total q.rest
  Took-known p q part took known = Known-behind names total p q took.passes known

  pub took_next : (p q : Point) (form : Form) → next p ≡ q → 1 ≤ length p.rest → form (lexeme_of (here p)) → Passes names total p (next p) → Took p q (One form)
  took_next p q form same some is passes = subst (λ (r : Point). Took p r (One form)) same (record { passes = passes; spells = λ behind left. begins form behind p.rest some is left })

  pub mark_took : (byte : ℕ) (p q : Point) → mark_at byte p ≡ Ok q → Took p q (One (IsMark byte))
  unfolding mark_at
  mark_took byte p q e =
      let h = held (is_mark byte (here p)) (Expected (here p).place) (Ok (next p)) q e in
      let kind = mark_kind byte (here p).kind h.0 in
      let some = there_by_kind p.rest (Punct byte) kind refl in
      took_next p q (IsMark byte) (ok_is (next p) q h.1) some kind (pass_mark names total p byte some kind)

  -- a mark that was tested before
  pub tested_mark : (byte : ℕ) (p : Point) → is_mark byte (here p) ≡ true → Took p (next p) (One (IsMark byte))
  tested_mark byte p test =
      let kind = mark_kind byte (here p).kind test in
      let some = there_by_kind p.rest (Punct byte) kind refl in
      took_next p (next p) (IsMark byte) refl some kind (pass_mark names total p byte some kind)

  pub word_took : (word : List ℕ) (p q : Point) → bytes_eq word (codes "block") ≡ false → Known names total p.rest → word_at word p ≡ Ok q → Took p q (One (IsWord word))
  unfolding word_at
  word_took word p q other known e =
      let h = held (is_word word (here p)) (Expected (here p).place) (Ok (next p)) q e in
      let form = word_form word (here p) h.0 in
      let some = there_by_kind p.rest Word form.0 refl in
      took_next p q (IsWord word) (ok_is (next p) q h.1) some form
      (pass_word names total p some form.0 (ap (λ t. bytes_eq t (codes "block")) form.1 ∙ other) (known_here names total p.rest some known))

  -- a word that was tested before
  pub tested_took : (word : List ℕ) (p : Point) → bytes_eq word (codes "block") ≡ false → Known names total p.rest → is_word word (here p) ≡ true → Took p (next p) (One (IsWord word))
  tested_took word p other known test =
      let form = word_form word (here p) test in
      let some = there_by_kind p.rest Word form.0 refl in
      took_next p (next p) (IsWord word) refl some form
      (pass_word names total p some form.0 (ap (λ t. bytes_eq t (codes "block")) form.1 ∙ other) (known_here names total p.rest some known))

  -- ---- words that say something

  pub word_of_some : {A : Type 0} (f : List ℕ → Option A) (o : Option (List ℕ)) (x : A) → option_and_then f o ≡ Some x → (word : List ℕ) × (o ≡ Some word) × (f word ≡ Some x)
  word_of_some f None x e = absurd cc
  word_of_some f (Some word) x e = (word, refl, e)

  number_of_some : {A : Type 0} (f : ℤ → Option A) (o : Option ℤ) (x : A) → option_and_then f o ≡ Some x → (value : ℤ) × (o ≡ Some value) × (f value ≡ Some x)
  number_of_some f None x e = absurd cc
  number_of_some f (Some value) x e = (value, refl, e)

  pub kind_took : (p : Point) (x : Kind × Point) → Known names total p.rest → kind_at p ≡ Ok x → Took p x.1 (One (IsKind x.0))
  unfolding kind_at
  kind_took p x known e =
      let w = wanted_ok (option_and_then kind_named (word_of (here p))) p x e in
      let found = word_of_some kind_named (word_of (here p)) x.0 w.0 in
      let word = word_kind (here p).kind (here p).text found.0 found.1 in
      let kind = kind_named-is found.0 x.0 found.2 in
      let some = there_by_kind p.rest Word word.0 refl in
      let text = word.1 ∙ kind.0 in
      took_next p x.1 (IsKind x.0) w.1 some ((word.0, text), kind.1)
      (pass_word names total p some word.0 (ap (λ t. bytes_eq t (codes "block")) text ∙ kind_word-other x.0 kind.1) (known_here names total p.rest some known))

  pub index_took : (p : Point) (x : ℕ × Point) → index_at p ≡ Ok x → Took p x.1 (One (IsIndex x.0))
  unfolding index_at
  index_took p x e =
      let w = wanted_ok (option_and_then index_of (number_of_kind (here p).kind)) p x e in
      let found = number_of_some index_of (number_of_kind (here p).kind) x.0 w.0 in
      let number = number_kind (here p).kind found.0 found.1 in
      let index = index_of-is found.0 x.0 found.2 in
      let some = there_by_kind p.rest (Number found.0) number refl in
      took_next p x.1 (IsIndex x.0) w.1 some (number ∙ ap Number index.0, index.1) (pass_number names total p found.0 some number)

  pub component_took : (kind : Kind) (p : Point) (x : ℕ × Point) → component_at kind p ≡ Ok x → Took p x.1 (SpellsComponent kind x.0)
  unfolding component_at
  component_took kind p x e =
      let w = wanted_ok (option_and_then (component_of (width_bits kind.width)) (number_of_kind (here p).kind)) p x e in
      let found = number_of_some (component_of (width_bits kind.width)) (number_of_kind (here p).kind) x.0 w.0 in
      let number = number_kind (here p).kind found.0 found.1 in
      let some = there_by_kind p.rest (Number found.0) number refl in
      took_next p x.1 (IsComponent kind x.0) w.1 some (found.0, number, component_of-gives kind.width found.0 x.0 found.2) (pass_number names total p found.0 some number)

  opcode_found : (o : Option (List ℕ)) (p : Point) (x : Op × Point) → opcode_of o p ≡ Ok x → (o ≡ Some (op_name x.0)) × (next p ≡ x.1)
  opcode_found None p x e = absurd cc
  opcode_found (Some word) p x e =
      let h = not_held (is_keyword word) (Expected (here p).place) (named_or (op_named word) p) x e in
      named (op_named word) (op_named-named word) h.1
    where
      named : (found : Option Op) → IfSome found (λ op. op_name op ≡ word) → named_or found p ≡ Ok x → (Some word ≡ Some (op_name x.0)) × (next p ≡ x.1)
      named None is r = absurd cc
      named (Some op) is r =
          let same = ok_is (op, next p) x r in
          (ap Some (sym is) ∙ ap (λ y. Some (op_name y.0)) same, ap (λ y. y.1) same)

  pub opcode_took : (p : Point) (x : Op × Point) → Known names total p.rest → opcode_at p ≡ Ok x → Took p x.1 (One (IsWord (op_name x.0)))
  unfolding opcode_at
  opcode_took p x known e =
      let found = opcode_found (word_of (here p)) p x e in
      let word = word_kind (here p).kind (here p).text (op_name x.0) found.0 in
      let some = there_by_kind p.rest Word word.0 refl in
      took_next p x.1 (IsWord (op_name x.0)) found.1 some word
      (pass_word names total p some word.0 (ap (λ t. bytes_eq t (codes "block")) word.1 ∙ name_of-other x.0 (codes "block") block_is_keyword) (known_here names total p.rest some known))

  pub opcode_next : (p : Point) (x : Op × Point) → opcode_at p ≡ Ok x → next p ≡ x.1
  unfolding opcode_at
  opcode_next p x e = (opcode_found (word_of (here p)) p x e).1

  -- ---- names

  pub value_took : (p : Point) (x : ValueId × Point) → Known names total p.rest → is_mark 61 (here x.1) ≡ false → value_used_at names p ≡ Ok x → Took p x.1 (One (IsValue names x.0))
  unfolding value_used_at
  value_took p x known plain e =
      let a = bind_ok (wanted (name_of (here p)) p) _ x e in
      let w = wanted_ok (name_of (here p)) p a.0 a.1 in
      let name = name_kind (here p).kind (here p).text a.0.0 w.0 in
      let some = there_by_kind p.rest Name name.0 refl in
      let here_known = known_here names total p.rest some known in
      let place = known_place total.values (place_of (here p).text names.values) (known_name names total p name.0 here_known) in
      let same = ok_is (record { 0 = unwrap_or (place_of a.0.0 names.values) 0 }, a.0.1) x a.2 in
      let number : unwrap_or (place_of (here p).text names.values) 0 ≡ x.0.0 = ap (λ t. unwrap_or (place_of t names.values) 0) name.1 ∙ ap (λ y. y.0.0) same in
      let to : next p ≡ x.1 = w.1 ∙ ap (λ y. y.1) same in
      let get = place_of-get (here p).text names.values x.0.0 (place ∙ ap Some number) in
      took_next p x.1 (IsValue names x.0) to some (name.0, get) (pass_name names total p some name.0 (ap (λ (r : Point). is_mark 61 (here r)) to ∙ plain) here_known)

  pub block_took : (p : Point) (x : BlockId × Point) → Known names total p.rest → is_mark 58 (here x.1) ≡ true → block_used_at names p ≡ Ok x → Took p x.1 (One (IsBlock names x.0))
  unfolding block_used_at
  block_took p x known colon e =
      let a = bind_ok (wanted (word_of (here p)) p) _ x e in
      let w = wanted_ok (word_of (here p)) p a.0 a.1 in
      let word = word_kind (here p).kind (here p).text a.0.0 w.0 in
      let some = there_by_kind p.rest Word word.0 refl in
      let here_known = known_here names total p.rest some known in
      let same = ok_is (record { 0 = unwrap_or (place_of a.0.0 names.blocks) 0 }, a.0.1) x a.2 in
      let to : next p ≡ x.1 = w.1 ∙ ap (λ y. y.1) same in
      let behind : is_mark 58 (here (next p)) ≡ true = ap (λ (r : Point). is_mark 58 (here r)) to ∙ colon in
      let place = known_place total.blocks (place_of (here p).text names.blocks) (known_block names total p word.0 behind here_known) in
      let number : unwrap_or (place_of (here p).text names.blocks) 0 ≡ x.0.0 = ap (λ t. unwrap_or (place_of t names.blocks) 0) word.1 ∙ ap (λ y. y.0.0) same in
      let get = place_of-get (here p).text names.blocks x.0.0 (place ∙ ap Some number) in
      took_next p x.1 (IsBlock names x.0) to some (word.0, get) (pass_any_word names total p some word.0 (no_word (here (next p)) 58 (mark_kind 58 (here (next p)).kind behind)) here_known)

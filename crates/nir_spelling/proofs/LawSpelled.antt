-- What is spelled is read: the whole text of a shader.
use Rattle.std.proofs.Common.{◌≡◌, ℕ, zero, suc, ◌+◌, ◌<◌, ◌≤◌, false, cond, List, [], ◌∷◌, take, length, pos, Option, Some, None, Ok, nat_lt, codes, refl, sym, ap, ◌∙◌, subst, arith, lt-ltb}
use Rattle.std.proofs.Math.Seq.{take-length}
use Rattle.std.specs.List.{range_with_len}
use Rattle.nir_ir.specs.declared.kind.Kind.{Kind}
use Rattle.nir_ir.specs.Nodes.{Nodes}
use Rattle.nir_ir.specs.Items.{items, values_defined, blocks_defined, effects_defined, ifs_defined, loops_defined}
use Rattle.nir_ir.specs.Shader.{Shader}
use Rattle.nir_lex.specs.Kinds as token_kind
use Rattle.nir_lex.specs.declared.token.TokenKind.TheVariants.{Word, End}
use Rattle.nir_text.specs.declared.counts.Counts as counts
use Rattle.nir_text.specs.Signs.{Sign, number_of_kind, is_mark, first_of}
use Rattle.nir_text.specs.Naming.{Naming, no_names, naming_from, naming_of, first_unknown}
use Rattle.nir_text.specs.Reading.{Point, here, next, ◌>>=◌, word_at, kind_at, bracketed_at}
use Rattle.nir_text.specs.Tree.{list_at, declared_kind_at, buffers_of, buffers_at, end_at, shader_at, no_counts, all_known, read_signs}
use Rattle.nir_spelling.specs.Lexemes.{lexemes_of, Behind, ◌▹◌, Nothing, IsWord, IsMark, IsIndex, IsEnd}
use Rattle.nir_spelling.specs.Spelling.{IsKind, SpellsKinds, SpellsNodes}
use Rattle.nir_spelling.specs.Resolving.{AreInOrder, Resolves, IsWithinLimits, IsSpelled}
use Rattle.nir_spelling.proofs.Passes.{Passes, Passes-then, pass_number, as_kind, unknown_kind}
use Rattle.nir_spelling.proofs.Tokens.{begun}
use Rattle.nir_spelling.proofs.Grows.{InOrder, Numbers, after, counts_in}
use Rattle.nir_spelling.proofs.LawRead.{zero_plus}
use Rattle.nir_spelling.proofs.Gave.{Follows, follows_mark, follows_word, follows_index, cond_true, bind_reads, IsWhole, Gave, gave_word, gave_kind}
use Rattle.nir_spelling.proofs.GaveParts.{GivesEach, bracketed_gave}
use Rattle.nir_spelling.proofs.GaveInstrs.{not_mark}
use Rattle.nir_spelling.proofs.GaveItems.{Noted}
use Rattle.nir_spelling.proofs.GaveNodes.{lists_given}

-- ---- numbers in order

range_in_order : (from n : ℕ) → InOrder from (range_with_len from n)
range_in_order from zero = tt
range_in_order from (suc n) = (refl, range_in_order (from + 1) n)

in_order : (numbers : List ℕ) → AreInOrder numbers → InOrder 0 numbers
in_order numbers e = subst (InOrder 0) (sym e) (range_in_order 0 (length numbers))

numbers_of : (names : Naming) (shader : Shader) → Resolves names shader → Numbers no_counts (items shader.body)
numbers_of names shader is = record {
  values = in_order (values_defined shader.body) is.values;
  blocks = in_order (blocks_defined shader.body) is.blocks;
  effects = in_order (effects_defined shader.body) is.effects;
  ifs = in_order (ifs_defined shader.body) is.ifs;
  loops = in_order (loops_defined shader.body) is.loops;
}

-- all names of a list, as many as it has
all_taken : (xs : List (List ℕ)) (n : ℕ) → n ≡ length xs → take n xs ≡ xs
all_taken xs n e = ap (λ m. take m xs) e ∙ take-length xs

-- the end of a text notes nothing and is known
scan_end : (signs : List Sign) (acc : Naming) → (IsEnd ▹ Nothing) (lexemes_of signs) → naming_from acc signs ≡ acc
unfolding naming_from
scan_end [] acc h = absurd h
scan_end (sign ∷ []) acc h = as_kind sign End [] acc h.0
scan_end (sign ∷ second ∷ signs) acc h = absurd (let e = h.1 in cc)

module _ (names : Naming) (total : counts.Counts) where
  known_end : (signs : List Sign) → (IsEnd ▹ Nothing) (lexemes_of signs) → first_unknown names total signs ≡ None
  unfolding first_unknown
  known_end [] h = absurd h
  known_end (sign ∷ []) h = ap (λ b. cond b (Some sign.place) None) (unknown_kind names total sign End [] h.0)
  known_end (sign ∷ second ∷ signs) h = absurd (let e = h.1 in cc)

  declared_gave : (k : ℕ) (kind : Kind) (p : Point) (behind : Behind) → k < 64 → Follows behind → (IsKind kind ▹ behind) (lexemes_of p.rest) → Gave names total (declared_kind_at k p) kind p behind
  unfolding declared_kind_at
  declared_gave k kind p behind lt follows h =
      let a = gave_kind names total kind p behind follows h in
      record { at = a.at; passes = a.passes; reads = bind_reads (kind_at p) _ (kind, a.at) a.reads ∙ cond_true (nat_lt k 64) _ _ (lt-ltb k 64 lt); left = a.left }

  kinds_each : GivesEach names total (λ kind behind. IsKind kind ▹ behind) declared_kind_at 64
  kinds_each = record { item = declared_gave; opens = kind_opens }
    where
      kind_opens : (kind : Kind) (behind : Behind) (signs : List Sign) → (IsKind kind ▹ behind) (lexemes_of signs) → is_mark 93 (first_of signs) ≡ false
      kind_opens kind behind signs h = let b = begun (IsKind kind) behind signs h in not_mark (first_of signs) Word b.is.0.0 refl

  kinds_gave : (kinds : List Kind) (p : Point) (behind : Behind) → length kinds ≤ 64 → SpellsKinds kinds behind (lexemes_of p.rest) → Gave names total (bracketed_at declared_kind_at p) kinds p behind
  kinds_gave kinds p behind few h = bracketed_gave names total (λ kind behind. IsKind kind ▹ behind) declared_kind_at 64 kinds_each kinds p behind few h

  buffers_gave : (n : ℕ) (p : Point) (behind : Behind) → n ≤ 16 → (IsIndex n ▹ behind) (lexemes_of p.rest) → Gave names total (buffers_at p) n p behind
  unfolding buffers_at
  buffers_gave n p behind few h =
      let b = begun (IsIndex n) behind p.rest h in
      record {
        at = next p;
        passes = pass_number names total p (pos n) b.some b.is.0;
        reads = ap (λ k. buffers_of (number_of_kind k) p) b.is.0 ∙ cond_true (nat_lt n 17) _ _ (lt-ltb n 17 (omega (arith, few)));
        left = b.left;
      }

  end_reads : (p : Point) → (IsEnd ▹ Nothing) (lexemes_of p.rest) → end_at p ≡ Ok p
  unfolding end_at
  end_reads p h = let b = begun IsEnd Nothing p.rest h in cond_true (token_kind.is_end (here p).kind) _ _ (ap token_kind.is_end b.is)

  -- the parts of a shader, one after the other
  shader_reads : (inputs outputs : List Kind) (buffers : ℕ) (body : Nodes) (p0 p1 p2 p3 p4 p5 p6 p7 p8 : Point)
      → word_at (codes "shader") p0 ≡ Ok p1 → word_at (codes "inputs") p1 ≡ Ok p2 → bracketed_at declared_kind_at p2 ≡ Ok (inputs, p3) → word_at (codes "outputs") p3 ≡ Ok p4 → bracketed_at declared_kind_at p4 ≡ Ok (outputs, p5)
      → word_at (codes "buffers") p5 ≡ Ok p6 → buffers_at p6 ≡ Ok (buffers, p7) → list_at names 64 p7 ≡ Ok (body, p8) → end_at p8 ≡ Ok p8
      → shader_at names p0 ≡ Ok (record { inputs = inputs; outputs = outputs; buffers = buffers; body = body; next_value = p8.counts.values }, p8)
  unfolding shader_at
  shader_reads inputs outputs buffers body p0 p1 p2 p3 p4 p5 p6 p7 p8 shader inputs_word ins outputs_word outs buffers_word bufs list end =
      bind_reads (word_at (codes "shader") p0) _ p1 shader
      ∙ bind_reads (word_at (codes "inputs") p1) _ p2 inputs_word
      ∙ bind_reads (bracketed_at declared_kind_at p2) _ (inputs, p3) ins
      ∙ bind_reads (word_at (codes "outputs") p3) _ p4 outputs_word
      ∙ bind_reads (bracketed_at declared_kind_at p4) _ (outputs, p5) outs
      ∙ bind_reads (word_at (codes "buffers") p5) _ p6 buffers_word
      ∙ bind_reads (buffers_at p6) _ (buffers, p7) bufs
      ∙ bind_reads (list_at names 64 p7) _ (body, p8) list
      ∙ bind_reads (end_at p8) _ p8 end

  -- what stands before the body
  record Header (shader : Shader) (p : Point) (behind : Behind) : Type 0 where
    at : Point
    passes : Passes names total p at
    left : behind (lexemes_of at.rest)
    reads : (body : Nodes) (last : Point) → list_at names 64 at ≡ Ok (body, last) → end_at last ≡ Ok last
        → shader_at names p ≡ Ok (record { inputs = shader.inputs; outputs = shader.outputs; buffers = shader.buffers; body = body; next_value = last.counts.values }, last)

  header : (shader : Shader) (p : Point) (behind : Behind) → IsWithinLimits shader
      → (IsWord (codes "shader") ▹ IsWord (codes "inputs") ▹ SpellsKinds shader.inputs (IsWord (codes "outputs") ▹ SpellsKinds shader.outputs (IsWord (codes "buffers") ▹ IsIndex shader.buffers ▹ behind))) (lexemes_of p.rest)
      → Header shader p behind
  header shader p behind within h =
      let from_buffers = IsWord (codes "buffers") ▹ IsIndex shader.buffers ▹ behind in
      let from_outputs = IsWord (codes "outputs") ▹ SpellsKinds shader.outputs from_buffers in
      let from_inputs = IsWord (codes "inputs") ▹ SpellsKinds shader.inputs from_outputs in
      let a = gave_word names total (codes "shader") p from_inputs refl (follows_word (codes "inputs") _) h in
      let b = gave_word names total (codes "inputs") (next p) (SpellsKinds shader.inputs from_outputs) refl (follows_mark 91 _ refl refl refl) a.left in
      let c = kinds_gave shader.inputs (next (next p)) from_outputs within.inputs b.left in
      let d = gave_word names total (codes "outputs") c.at (SpellsKinds shader.outputs from_buffers) refl (follows_mark 91 _ refl refl refl) c.left in
      let f = kinds_gave shader.outputs (next c.at) from_buffers within.outputs d.left in
      let g = gave_word names total (codes "buffers") f.at (IsIndex shader.buffers ▹ behind) refl (follows_index shader.buffers behind) f.left in
      let i = buffers_gave shader.buffers (next f.at) behind within.buffers g.left in
      record {
        at = i.at;
        passes = Passes-then names total p c.at i.at (Passes-then names total p (next (next p)) c.at (Passes-then names total p (next p) (next (next p)) a.passes b.passes) c.passes)
            (Passes-then names total c.at f.at i.at (Passes-then names total c.at (next c.at) f.at d.passes f.passes) (Passes-then names total f.at (next f.at) i.at g.passes i.passes));
        left = i.left;
        reads = λ body last list end.
            shader_reads shader.inputs shader.outputs shader.buffers body p (next p) (next (next p)) c.at (next c.at) f.at (next f.at) i.at last a.reads b.reads c.reads d.reads f.reads g.reads i.reads list end;
      }

-- ---- the whole text

-- a spelled shader is read, and the names that a scan finds are those of its naming
pub record IsRead (names : Naming) (shader : Shader) (signs : List Sign) : Type 0 where
  pub naming : naming_of signs ≡ names
  pub reads : read_signs signs ≡ Ok shader

-- the body has been read to the end of the text
record Body (names : Naming) (total : counts.Counts) (shader : Shader) (signs : List Sign) : Type 0 where
  last : Point
  new : Naming
  reads : shader_at names (record { rest = signs; counts = no_counts }) ≡ Ok (record { inputs = shader.inputs; outputs = shader.outputs; buffers = shader.buffers; body = shader.body; next_value = last.counts.values }, last)
  scan : naming_of signs ≡ naming_from new last.rest
  unknown : first_unknown names total signs ≡ first_unknown names total last.rest
  noted : Noted names total new last.counts
  kinds : new.counts ≡ counts_in (items shader.body)
  counts : last.counts ≡ total
  left : (IsEnd ▹ Nothing) (lexemes_of last.rest)

whole_of : (names : Naming) (shader : Shader) → Resolves names shader → IsWhole names (after no_counts (items shader.body))
whole_of names shader is = record {
  distinct_names = is.distinct_names;
  distinct_words = is.distinct_words;
  values = zero_plus (length (values_defined shader.body)) ∙ sym is.value_names;
  blocks = zero_plus (length (blocks_defined shader.body)) ∙ sym is.block_words;
}

body_of : (names : Naming) (shader : Shader) (signs : List Sign) → IsSpelled names shader (lexemes_of signs) → Body names (after no_counts (items shader.body)) shader signs
body_of names shader signs is =
    let total = after no_counts (items shader.body) in
    let start : Point = record { rest = signs; counts = no_counts } in
    let end_part : Behind = IsEnd ▹ Nothing in
    let head = header names total shader start (IsMark 123 ▹ SpellsNodes names shader.body (IsMark 125 ▹ end_part)) is.within is.spelled in
    let few : length names.values ≤ 16384 = omega (arith, is.resolves.value_names, is.within.values) in
    let lists = lists_given names total (whole_of names shader is.resolves) few 64 in
    let at_start : Noted names total no_names no_counts = record { values = refl; blocks = refl } in
    let noted = subst (λ (c : counts.Counts). Noted names total no_names c) (sym head.passes.counts) at_start in
    let numbers = subst (λ (c : counts.Counts). Numbers c (items shader.body)) (sym head.passes.counts) (numbers_of names shader is.resolves) in
    let body = lists.list no_names shader.body head.at end_part is.within.depth noted numbers head.left in
    record {
      last = body.0.at;
      new = body.0.new;
      reads = head.reads shader.body body.0.at body.0.reads (end_reads names total body.0.at body.0.left);
      scan = head.passes.scan no_names ∙ body.0.scans.scan;
      unknown = head.passes.unknown ∙ body.0.scans.unknown;
      noted = body.0.noted;
      kinds = body.0.kinds;
      counts = body.0.counts ∙ ap (λ (c : counts.Counts). after c (items shader.body)) head.passes.counts;
      left = body.0.left;
    }

-- what follows once the body has been read
read_of : (names : Naming) (shader : Shader) (signs : List Sign) → Resolves names shader → Body names (after no_counts (items shader.body)) shader signs → IsRead names shader signs
unfolding read_signs
read_of names shader signs is body =
    let total = after no_counts (items shader.body) in
    let whole = whole_of names shader is in
    let values : body.last.counts.values ≡ length names.values = ap (λ (c : counts.Counts). c.values) body.counts ∙ whole.values in
    let blocks : body.last.counts.blocks ≡ length names.blocks = ap (λ (c : counts.Counts). c.blocks) body.counts ∙ whole.blocks in
    let same_values = body.noted.values ∙ all_taken names.values body.last.counts.values values in
    let same_blocks = body.noted.blocks ∙ all_taken names.blocks body.last.counts.blocks blocks in
    let same_counts = body.kinds ∙ sym is.counts in
    let same : body.new ≡ names = λ j. record { values = same_values j; counts = same_counts j; blocks = same_blocks j } in
    let naming : naming_of signs ≡ names = body.scan ∙ scan_end body.last.rest body.new body.left ∙ same in
    let made : ℕ → Shader = λ n. record { inputs = shader.inputs; outputs = shader.outputs; buffers = shader.buffers; body = shader.body; next_value = n } in
    let next_value : body.last.counts.values ≡ shader.next_value = values ∙ is.value_names ∙ sym is.next_value in
    record {
      naming = naming;
      reads = ap (λ (n : Naming). shader_at n (record { rest = signs; counts = no_counts }) >>= λ read. all_known (first_unknown n read.1.counts signs) read.0) naming
          ∙ bind_reads (shader_at names (record { rest = signs; counts = no_counts })) _ (made body.last.counts.values, body.last) body.reads
          ∙ ap (λ (c : counts.Counts). all_known (first_unknown names c signs) (made body.last.counts.values)) body.counts
          ∙ ap (λ (o : Option ℕ). all_known o (made body.last.counts.values)) (body.unknown ∙ known_end names total body.last.rest body.left)
          ∙ ap (λ (n : ℕ). Ok (made n)) next_value;
    }

pub spelled_signs_read : (names : Naming) (shader : Shader) (signs : List Sign) → IsSpelled names shader (lexemes_of signs) → IsRead names shader signs
spelled_signs_read names shader signs is = read_of names shader signs is.resolves (body_of names shader signs is)

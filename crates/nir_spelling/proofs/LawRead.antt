-- What is read is spelled: the whole text of a shader.
use Rattle.std.proofs.Common.{◌≡◌, ℕ, zero, suc, ◌+◌, ◌<◌, ◌≤◌, true, List, [], ◌∷◌, length, ℤ, pos, negsuc, Option, Some, None, Result, Ok, nat_lt, codes, refl, sym, ap, ◌∙◌, subst, inl, inr, arith, ltb-true}
use Rattle.std.specs.List.{range_with_len}
use Rattle.nir_ir.specs.declared.kind.Kind.{Kind}
use Rattle.nir_ir.specs.Items.{items, values_defined, blocks_defined}
use Rattle.nir_ir.specs.Shader.{Shader}
use Rattle.nir_lex.specs.Kinds as token_kind
use Rattle.nir_lex.specs.declared.token.TokenKind.{TokenKind}
use Rattle.nir_lex.specs.declared.token.TokenKind.TheVariants.{Word, Number, Name, Quoted, Punct, End}
use Rattle.nir_text.specs.declared.counts.Counts as counts
use Rattle.nir_text.specs.declared.fault.TextFault.{TextFault}
use Rattle.nir_text.specs.declared.fault.TextFault.TheVariants.{Expected, TooMany}
use Rattle.nir_text.specs.Signs.{Sign, number_of_kind, is_mark, first_of}
use Rattle.nir_text.specs.Naming.{Naming, no_names, naming_from, naming_of, first_unknown}
use Rattle.nir_text.specs.Reading.{Point, here, next, mark_at, word_at, kind_at, more_at, bracketed_at}
use Rattle.nir_text.specs.Tree.{list_at, declared_kind_at, buffers_of, buffers_at, end_at, shader_at, no_counts, all_known, read_signs}
use Rattle.nir_spelling.specs.Lexemes.{lexemes_of, Part, ◌▹◌, Nothing, IsWord, IsIndex, IsEnd}
use Rattle.nir_spelling.specs.Spelling.{IsKind, SpellsKinds, Spells}
use Rattle.nir_spelling.specs.Resolving.{IsWithinLimits, IsSpelled}
use Rattle.nir_spelling.proofs.Passes.{EndsOnce, Known, pass_number, as_kind}
use Rattle.nir_text.specs.ReadingLaws.{ok_is, bind_ok, held}
use Rattle.list_laws.specs.BoolLaws.{chosen}
use Rattle.nir_spelling.proofs.Tokens.{number_kind, there_by_kind, One}
use Rattle.nir_spelling.proofs.Took.{Took, Took-then, Took-known, took_next, word_took, kind_took}
use Rattle.nir_spelling.proofs.TookParts.{TakesEach, bracketed_took}
use Rattle.nir_spelling.proofs.Grows.{InOrder, Numbers, after, counts_in}
use Rattle.nir_spelling.proofs.ReadItems.{Stands, Stands-took}
use Rattle.nir_spelling.proofs.ReadNodes.{lists_read}
use Rattle.nir_spelling.proofs.Scanned.{scanned}

-- ---- how many kinds a declaration has

module _ {A : Type 0} (read : ℕ → Point → Result (A × Point) TextFault) (bound : (k : ℕ) (p : Point) (x : A × Point) → read k p ≡ Ok x → k < 64) where
  more_few : (fuel k : ℕ) (p : Point) (x : List A × Point) → k ≤ 64 → more_at read k fuel p ≡ Ok x → length x.0 + k ≤ 64
  unfolding more_at
  more_few zero k p x le e = absurd cc
  more_few (suc fuel) k p x le e =
      elim (chosen (is_mark 44 (here p)) _ _ (Ok x) e) [
        | inl way ↦
            let b = bind_ok (read k (next p)) _ x way.1 in
            let c = bind_ok (more_at read (k + 1) fuel b.0.1) _ x b.2 in
            let made : List A × Point = (b.0.0 ∷ c.0.0, c.0.1) in
            let lt : k < 64 = bound k (next p) b.0 b.1 in
            let rest : length c.0.0 + (k + 1) ≤ 64 = more_few fuel (k + 1) b.0.1 c.0 (omega (arith, lt)) c.1 in
            subst (λ (y : List A × Point). length y.0 + k ≤ 64) {x = made} (ok_is made x c.2) (omega (arith, rest))
        | inr way ↦
            let a = bind_ok (mark_at 93 p) _ x way.1 in
            subst (λ (y : List A × Point). length y.0 + k ≤ 64) {x = ([], a.0)} (ok_is ([], a.0) x a.2) (omega (arith, le))
      ]

  bracketed_few : (p : Point) (x : List A × Point) → bracketed_at read p ≡ Ok x → length x.0 ≤ 64
  unfolding bracketed_at
  bracketed_few p x e =
      let a = bind_ok (mark_at 91 p) _ x e in
      elim (chosen (is_mark 93 (here a.0)) _ _ (Ok x) a.2) [
        | inl way ↦ subst (λ (y : List A × Point). length y.0 ≤ 64) {x = ([], next a.0)} (ok_is ([], next a.0) x way.1) (omega arith)
        | inr way ↦
            let b = bind_ok (read 0 a.0) _ x way.1 in
            let c = bind_ok (more_at read 1 (length b.0.1.rest) b.0.1) _ x b.2 in
            let made : List A × Point = (b.0.0 ∷ c.0.0, c.0.1) in
            let rest : length c.0.0 + 1 ≤ 64 = more_few (length b.0.1.rest) 1 b.0.1 c.0 (omega arith) c.1 in
            subst (λ (y : List A × Point). length y.0 ≤ 64) {x = made} (ok_is made x c.2) (omega (arith, rest))
      ]

declared_bound : (k : ℕ) (p : Point) (x : Kind × Point) → declared_kind_at k p ≡ Ok x → k < 64
unfolding declared_kind_at
declared_bound k p x e = let a = bind_ok (kind_at p) _ x e in ltb-true k 64 (held (nat_lt k 64) (TooMany (here p).place) (Ok a.0) x a.2).0

-- ---- the number of buffers

buffers_ok : (o : Option ℤ) (p : Point) (x : ℕ × Point) → buffers_of o p ≡ Ok x → (next p ≡ x.1) × (o ≡ Some (pos x.0)) × (x.0 ≤ 16)
buffers_ok None p x e = absurd cc
buffers_ok (Some (negsuc n)) p x e = absurd cc
buffers_ok (Some (pos n)) p x e =
    let h = held (nat_lt n 17) (TooMany (here p).place) (Ok (n, next p)) x e in
    let same = ok_is (n, next p) x h.1 in
    let lt : n < 17 = ltb-true n 17 h.0 in
    (ap (λ y. y.1) same, ap (λ y. Some (pos y.0)) same, subst (λ (y : ℕ × Point). y.0 ≤ 16) {x = (n, next p)} same (omega (arith, lt)))

-- ---- the end of the text

is_end_kind : (kind : TokenKind) → token_kind.is_end kind ≡ true → kind ≡ End
is_end_kind Word e = absurd cc
is_end_kind (Number value) e = absurd cc
is_end_kind Name e = absurd cc
is_end_kind Quoted e = absurd cc
is_end_kind (Punct byte) e = absurd cc
is_end_kind End e = refl

ends_here : (signs : List Sign) → EndsOnce signs → token_kind.is_end (first_of signs).kind ≡ true → (IsEnd ▹ Nothing) (lexemes_of signs)
ends_here [] ends e = absurd ends
ends_here (sign ∷ []) ends e = (ends, refl)
ends_here (sign ∷ second ∷ signs) ends e = absurd (let differs = sym e ∙ ends.0 in cc)

-- the end of the text names nothing
scan_end : (signs : List Sign) (acc : Naming) → EndsOnce signs → token_kind.is_end (first_of signs).kind ≡ true → naming_from acc signs ≡ acc
unfolding naming_from
scan_end [] acc ends e = absurd ends
scan_end (sign ∷ []) acc ends e = as_kind sign End [] acc ends
scan_end (sign ∷ second ∷ signs) acc ends e = absurd (let differs = sym e ∙ ends.0 in cc)

in_order : (from : ℕ) (numbers : List ℕ) → InOrder from numbers → numbers ≡ range_with_len from (length numbers)
in_order from [] all = refl
in_order from (n ∷ numbers) all = (λ j. all.0 j ∷ in_order (from + 1) numbers all.1 j)

known_ok : (o : Option ℕ) (shader s : Shader) → all_known o shader ≡ Ok s → (o ≡ None) × (shader ≡ s)
known_ok None shader s e = (refl, ok_is shader s e)
known_ok (Some place) shader s e = absurd cc

pub zero_plus : (n : ℕ) → 0 + n ≡ n
zero_plus n = omega arith

few_of : (n : ℕ) → 0 + n ≤ 16384 → n ≤ 16384
few_of n le = omega (arith, le)

module _ (signs : List Sign) (total : counts.Counts) (known : first_unknown (naming_of signs) total signs ≡ None) (ends : EndsOnce signs) where
  abbrev names : Naming
  names = naming_of signs

  abbrev start : Point
  start = record { rest = signs; counts = no_counts }

  at_start : Stands names total no_names start
  at_start = record { values = refl; value_count = refl; blocks = refl; block_count = refl; few = omega arith; whole = refl; known = known; ends = ends }

  declared_took : (k : ℕ) (p : Point) (x : Kind × Point) → Known names total p.rest → declared_kind_at k p ≡ Ok x → Took names total p x.1 (One (IsKind x.0))
  unfolding declared_kind_at
  declared_took k p x known e =
      let a = bind_ok (kind_at p) _ x e in
      let same = ok_is a.0 x (held (nat_lt k 64) (TooMany (here p).place) (Ok a.0) x a.2).1 in
      subst (λ (y : Kind × Point). Took names total p y.1 (One (IsKind y.0))) {x = a.0} same (kind_took names total p a.0 known a.1)

  kinds_took : (p : Point) (x : List Kind × Point) → Known names total p.rest → bracketed_at declared_kind_at p ≡ Ok x → Took names total p x.1 (SpellsKinds x.0)
  kinds_took p x known e =
      let each : TakesEach names total (λ kind behind. IsKind kind ▹ behind) declared_kind_at = record { item = λ k p x known plain e. declared_took k p x known e } in
      bracketed_took names total (λ kind behind. IsKind kind ▹ behind) declared_kind_at each p x known e

  -- all before the body
  buffers_took : (p : Point) (x : ℕ × Point) → buffers_at p ≡ Ok x → Took names total p x.1 (One (IsIndex x.0)) × (x.0 ≤ 16)
  unfolding buffers_at
  buffers_took p x e =
      let b = buffers_ok (number_of_kind (here p).kind) p x e in
      let number = number_kind (here p).kind (pos x.0) b.1 in
      let some = there_by_kind p.rest (Number (pos x.0)) number refl in
      (took_next names total p x.1 (IsIndex x.0) b.0 some (number, omega (arith, b.2)) (pass_number names total p (pos x.0) some number), b.2)

  end_ok : (p q : Point) → end_at p ≡ Ok q → (token_kind.is_end (here p).kind ≡ true) × (p ≡ q)
  unfolding end_at
  end_ok p q e =
      let h = held (token_kind.is_end (here p).kind) (Expected (here p).place) (Ok p) q e in
      (h.0, ok_is p q h.1)

  pub record ReadShader (x : Shader × Point) : Type 0 where
    pub spelled : Spells names x.0 (lexemes_of signs)
    pub numbers : Numbers no_counts (items x.0.body)
    pub counts : x.1.counts ≡ after no_counts (items x.0.body)
    pub next_value : x.0.next_value ≡ x.1.counts.values
    pub value_count : length names.values ≡ x.1.counts.values
    pub block_count : length names.blocks ≡ x.1.counts.blocks
    pub kinds : names.counts ≡ counts_in (items x.0.body)
    pub within : IsWithinLimits x.0

  shader_read : (x : Shader × Point) → shader_at names start ≡ Ok x → ReadShader x
  unfolding shader_at
  shader_read x e =
      let a = bind_ok (word_at (codes "shader") start) _ x e in
      let b = bind_ok (word_at (codes "inputs") a.0) _ x a.2 in
      let c = bind_ok (bracketed_at declared_kind_at b.0) _ x b.2 in
      let d = bind_ok (word_at (codes "outputs") c.0.1) _ x c.2 in
      let f = bind_ok (bracketed_at declared_kind_at d.0) _ x d.2 in
      let g = bind_ok (word_at (codes "buffers") f.0.1) _ x f.2 in
      let h = bind_ok (buffers_at g.0) _ x g.2 in
      let i = bind_ok (list_at names 64 h.0.1) _ x h.2 in
      let j = bind_ok (end_at i.0.1) _ x i.2 in
      let shader = word_took names total (codes "shader") start a.0 refl known a.1 in
      let known_a = Took-known names total start a.0 _ shader known in
      let inputs_word = word_took names total (codes "inputs") a.0 b.0 refl known_a b.1 in
      let known_b = Took-known names total a.0 b.0 _ inputs_word known_a in
      let inputs = kinds_took b.0 c.0 known_b c.1 in
      let known_c = Took-known names total b.0 c.0.1 _ inputs known_b in
      let outputs_word = word_took names total (codes "outputs") c.0.1 d.0 refl known_c d.1 in
      let known_d = Took-known names total c.0.1 d.0 _ outputs_word known_c in
      let outputs = kinds_took d.0 f.0 known_d f.1 in
      let known_f = Took-known names total d.0 f.0.1 _ outputs known_d in
      let buffers_word = word_took names total (codes "buffers") f.0.1 g.0 refl known_f g.1 in
      let buffers = buffers_took g.0 h.0 h.1 in
      let to_inputs = Took-then names total start b.0 c.0.1 (λ behind. IsWord (codes "shader") ▹ IsWord (codes "inputs") ▹ behind) (SpellsKinds c.0.0)
      (Took-then names total start a.0 b.0 (One (IsWord (codes "shader"))) (One (IsWord (codes "inputs"))) shader inputs_word) inputs in
      let head_part : Part = λ behind. IsWord (codes "shader") ▹ IsWord (codes "inputs") ▹ SpellsKinds c.0.0 behind in
      let to_outputs = Took-then names total start d.0 f.0.1 (λ behind. head_part (IsWord (codes "outputs") ▹ behind)) (SpellsKinds f.0.0)
      (Took-then names total start c.0.1 d.0 head_part (One (IsWord (codes "outputs"))) to_inputs outputs_word) outputs in
      let outputs_part : Part = λ behind. head_part (IsWord (codes "outputs") ▹ SpellsKinds f.0.0 behind) in
      let to_body = Took-then names total start g.0 h.0.1 (λ behind. outputs_part (IsWord (codes "buffers") ▹ behind)) (One (IsIndex h.0.0))
      (Took-then names total start f.0.1 g.0 outputs_part (One (IsWord (codes "buffers"))) to_outputs buffers_word) buffers.0 in
      let at_body = Stands-took names total no_names start h.0.1 _ at_start to_body in
      let inner = lists_read names total (scanned signs).level 64 in
      let body = inner.list no_names h.0.1 i.0 at_body i.1 in
      let end = end_ok i.0.1 j.0 j.1 in
      let all_names : body.new ≡ names = sym (scan_end i.0.1.rest body.new body.stands.ends end.0) ∙ body.stands.whole in
      let from_start : i.0.1.counts ≡ after no_counts (items i.0.0) = body.counts ∙ ap (λ c. after c (items i.0.0)) to_body.passes.counts in
      let made : Shader × Point = (record { inputs = c.0.0; outputs = f.0.0; buffers = h.0.0; body = i.0.0; next_value = j.0.counts.values }, j.0) in
      let value_total : length (values_defined i.0.0) ≤ 16384 = few_of (length (values_defined i.0.0)) (subst (λ (k : counts.Counts). k.values ≤ 16384) {x = i.0.1.counts} from_start body.stands.few) in
      subst ReadShader {x = made} (ok_is made x j.2) (record {
        spelled = to_body.spells _ (body.spells (IsEnd ▹ Nothing) (ends_here i.0.1.rest body.stands.ends end.0));
        numbers = subst (λ (k : counts.Counts). Numbers k (items i.0.0)) to_body.passes.counts body.numbers;
        counts = ap (λ (q : Point). q.counts) (sym end.1) ∙ from_start;
        next_value = refl;
        value_count = ap (λ (n : Naming). length n.values) (sym all_names) ∙ body.stands.value_count ∙ ap (λ (q : Point). q.counts.values) end.1;
        block_count = ap (λ (n : Naming). length n.blocks) (sym all_names) ∙ body.stands.block_count ∙ ap (λ (q : Point). q.counts.blocks) end.1;
        kinds = ap (λ (n : Naming). n.counts) (sym all_names) ∙ body.kinds;
        within = record {
          values = value_total;
          inputs = bracketed_few declared_kind_at declared_bound b.0 c.0 c.1;
          outputs = bracketed_few declared_kind_at declared_bound d.0 f.0 f.1;
          buffers = buffers.1;
          depth = inner.few h.0.1 i.0 i.1;
        };
      })

pub read_signs_spelled : (signs : List Sign) (shader : Shader) → EndsOnce signs → read_signs signs ≡ Ok shader → IsSpelled (naming_of signs) shader (lexemes_of signs)
unfolding read_signs
read_signs_spelled signs shader ends e =
    let a = bind_ok (shader_at (naming_of signs) (record { rest = signs; counts = no_counts })) _ shader e in
    let k = known_ok (first_unknown (naming_of signs) a.0.1.counts signs) a.0.0 shader a.2 in
    let read = shader_read signs a.0.1.counts k.0 ends a.0 a.1 in
    let names = naming_of signs in
    let is = scanned signs in
    subst (λ (s : Shader). IsSpelled names s (lexemes_of signs)) k.1 (record {
      spelled = read.spelled;
      resolves = record {
        values = in_order 0 (values_defined a.0.0.body) read.numbers.values;
        blocks = in_order 0 (blocks_defined a.0.0.body) read.numbers.blocks;
        effects = in_order 0 _ read.numbers.effects;
        ifs = in_order 0 _ read.numbers.ifs;
        loops = in_order 0 _ read.numbers.loops;
        next_value = read.next_value ∙ ap (λ (c : counts.Counts). c.values) read.counts ∙ zero_plus (length (values_defined a.0.0.body));
        value_names = read.value_count ∙ ap (λ (c : counts.Counts). c.values) read.counts ∙ zero_plus (length (values_defined a.0.0.body));
        block_words = read.block_count ∙ ap (λ (c : counts.Counts). c.blocks) read.counts ∙ zero_plus (length (blocks_defined a.0.0.body));
        distinct_names = is.distinct_names;
        distinct_words = is.distinct_words;
        counts = read.kinds;
      };
      within = read.within;
    })

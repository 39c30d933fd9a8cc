-- A shader that is read from a text is shaped.
use Rattle.std.proofs.Common.{◌≡◌, ℕ, ◌^◌, ◌<◌, ◌≤◌, List, length, ℤ, pos, negsuc, Option, Some, None, Ok, nat_lt, nat_eq, codes, refl, sym, ap, subst, arith, ◌∙◌}
use Rattle.std.specs.List.{AllByRecursion, IsDistinct, range_with_len}
use Rattle.nir_ir.specs.declared.kind.Kind.{Kind}
use Rattle.nir_ir.specs.Items.{items, values_defined, values_used, blocks_defined, blocks_named, effects_defined, ifs_defined, loops_defined}
use Rattle.nir_ir.specs.Shader.{Shader}
use Rattle.nir_ir.specs.Shaped.{IsOneOf, IsCount, IsShaped}
use Rattle.nir_lex.specs.Kinds.{is_end}
use Rattle.nir_text.specs.declared.counts.Counts as counts
use Rattle.nir_text.specs.declared.fault.TextFault.TheVariants.{Expected, TooMany}
use Rattle.nir_text.specs.Signs.{Sign, number_of_kind}
use Rattle.nir_text.specs.Naming.{Naming, naming_of, first_unknown}
use Rattle.nir_text.specs.Reading.{Point, here, next, word_at, kind_at, bracketed_at}
use Rattle.nir_text.specs.Tree.{list_at, declared_kind_at, buffers_of, buffers_at, end_at, shader_at, no_counts, all_known, read_signs}
use Rattle.list_laws.specs.AllLaws.{all_each}
use Rattle.nir_text.proofs.ShapedLists.{Counts, Counts-all, range-IsDistinct, range-below, range-IsOneOf}
use Rattle.nir_text.proofs.ShapedKinds.{naming_of-HaveCounts}
use Rattle.nir_text.specs.ReadingLaws.{ok_is, bind_ok, held}
use Rattle.nir_text.proofs.ShapedPoints.{Stands, Passes, Passes-then, Passes-to, word_passes}
use Rattle.nir_text.proofs.ShapedSeries.{ReadsEach, bracketed_read}
use Rattle.nir_text.proofs.ShapedInstrs.{kind_read}
use Rattle.nir_text.proofs.ShapedItems.{Reads, Reads-behind}
use Rattle.nir_text.proofs.ShapedTree.{list_read}

buffers_ok : (o : Option ℤ) (p : Point) (x : ℕ × Point) → buffers_of o p ≡ Ok x → next p ≡ x.1
buffers_ok None p x e = absurd cc
buffers_ok (Some (negsuc n)) p x e = absurd cc
buffers_ok (Some (pos n)) p x e = ap (λ y. y.1) (ok_is (n, next p) x (held (nat_lt n 17) (TooMany (here p).place) (Ok (n, next p)) x e).1)

known_ok : (o : Option ℕ) (shader s : Shader) → all_known o shader ≡ Ok s → (o ≡ None) × (shader ≡ s)
known_ok None shader s e = (refl, ok_is shader s e)
known_ok (Some place) shader s e = absurd cc

-- the whole text is the items of the body
record ReadsShader (names : Naming) (total : counts.Counts) (p : Point) (x : Shader × Point) : Type 0 where
  body : Reads names total p x.1 (items x.0.body)
  next_value : x.0.next_value ≡ x.1.counts.values
  inputs : AllByRecursion (λ kind. IsCount kind.count) x.0.inputs
  outputs : AllByRecursion (λ kind. IsCount kind.count) x.0.outputs

module _ (names : Naming) (total : counts.Counts) where
  declared_read : (k : ℕ) (p : Point) (x : Kind × Point) → Stands names total p.rest → declared_kind_at k p ≡ Ok x → Passes names total p x.1 × IsCount x.0.count
  unfolding declared_kind_at
  declared_read k p x stands e =
      let a = bind_ok (kind_at p) _ x e in
      let h = held (nat_lt k 64) (TooMany (here p).place) (Ok a.0) x a.2 in
      let kind = kind_read names total p a.0 stands a.1 in
      subst (λ (y : Kind × Point). Passes names total p y.1 × IsCount y.0.count) (ok_is a.0 x h.1) kind

  end_ok : (p q : Point) → end_at p ≡ Ok q → p ≡ q
  unfolding end_at
  end_ok p q e = ok_is p q (held (is_end (here p).kind) (Expected (here p).place) (Ok p) q e).1

  shader_read : AllByRecursion IsCount names.counts → (p : Point) (x : Shader × Point) → Stands names total p.rest → shader_at names p ≡ Ok x → ReadsShader names total p x
  unfolding shader_at buffers_at
  shader_read counted p x stands e =
      let a = bind_ok (word_at (codes "shader") p) _ x e in
      let b = bind_ok (word_at (codes "inputs") a.0) _ x a.2 in
      let c = bind_ok (bracketed_at declared_kind_at b.0) _ x b.2 in
      let d = bind_ok (word_at (codes "outputs") c.0.1) _ x c.2 in
      let f = bind_ok (bracketed_at declared_kind_at d.0) _ x d.2 in
      let g = bind_ok (word_at (codes "buffers") f.0.1) _ x f.2 in
      let h = bind_ok (buffers_at g.0) _ x g.2 in
      let i = bind_ok (list_at names 64 h.0.1) _ x h.2 in
      let j = bind_ok (end_at i.0.1) _ x i.2 in
      let each : ReadsEach names total (λ kind. IsCount kind.count) declared_kind_at = record { item = declared_read } in
      let shader = word_passes names total (codes "shader") p a.0 stands a.1 in
      let inputs_word = word_passes names total (codes "inputs") a.0 b.0 shader.stands b.1 in
      let inputs = bracketed_read names total (λ kind. IsCount kind.count) declared_kind_at each b.0 c.0 inputs_word.stands c.1 in
      let outputs_word = word_passes names total (codes "outputs") c.0.1 d.0 inputs.passes.stands d.1 in
      let outputs = bracketed_read names total (λ kind. IsCount kind.count) declared_kind_at each d.0 f.0 outputs_word.stands f.1 in
      let buffers_word = word_passes names total (codes "buffers") f.0.1 g.0 outputs.passes.stands g.1 in
      let buffers = Passes-to names total g.0 h.0.1 buffers_word.stands (buffers_ok (number_of_kind (here g.0).kind) g.0 h.0 h.1) in
      let body = list_read names total counted 64 h.0.1 i.0 buffers.stands i.1 in
      let to_inputs = Passes-then names total p b.0 c.0.1 (Passes-then names total p a.0 b.0 shader inputs_word) inputs.passes in
      let to_outputs = Passes-then names total p d.0 f.0.1 (Passes-then names total p c.0.1 d.0 to_inputs outputs_word) outputs.passes in
      let to_body = Passes-then names total p g.0 h.0.1 (Passes-then names total p f.0.1 g.0 to_outputs buffers_word) buffers in
      let whole = Reads-behind names total p h.0.1 i.0.1 (items i.0.0) to_body body in
      let at_end : Reads names total p j.0 (items i.0.0) = subst (λ (q : Point). Reads names total p q (items i.0.0)) (end_ok i.0.1 j.0 j.1) whole in
      let made : Shader × Point = (record { inputs = c.0.0; outputs = f.0.0; buffers = h.0.0; body = i.0.0; next_value = j.0.counts.values }, j.0) in
      subst (ReadsShader names total p) {x = made} (ok_is made x j.2) (record { body = at_end; next_value = refl; inputs = inputs.all; outputs = outputs.all })

-- numbers that are all those below a bound
IsDistinct-counted : (numbers : List ℕ) (to : ℕ) → Counts 0 to numbers → IsDistinct nat_eq numbers
IsDistinct-counted numbers to counted = subst (IsDistinct nat_eq) (sym (Counts-all to numbers counted)) (range-IsDistinct 0 to)

below-counted : (numbers : List ℕ) (to : ℕ) → Counts 0 to numbers → AllByRecursion (λ v. v < to) numbers
below-counted numbers to counted = subst (AllByRecursion (λ v. v < to)) (sym (Counts-all to numbers counted)) (range-below 0 to to (omega arith))

there-counted : (numbers : List ℕ) (to : ℕ) → Counts 0 to numbers → (used : List ℕ) → AllByRecursion (λ v. v < to) used → AllByRecursion (IsOneOf numbers) used
there-counted numbers to counted used below =
    subst (λ (l : List ℕ). AllByRecursion (IsOneOf l) used) (sym (Counts-all to numbers counted))
    (all_each (λ v. v < to) (IsOneOf (range_with_len 0 to)) (λ v lt. range-IsOneOf 0 to v (omega arith) (omega arith)) used below)

-- a text that was read to its end, with each name known
IsShaped-read_whole : (signs : List Sign) (names : Naming) (x : Shader × Point) → ReadsShader names x.1.counts (record { rest = signs; counts = no_counts }) x → IsShaped x.0
IsShaped-read_whole signs names x read = record {
  values = IsDistinct-counted (values_defined x.0.body) x.1.counts.values read.body.values;
  blocks = IsDistinct-counted (blocks_defined x.0.body) x.1.counts.blocks read.body.blocks;
  effects = IsDistinct-counted (effects_defined x.0.body) x.1.counts.effects read.body.effects;
  ifs = IsDistinct-counted (ifs_defined x.0.body) x.1.counts.ifs read.body.ifs;
  loops = IsDistinct-counted (loops_defined x.0.body) x.1.counts.loops read.body.loops;
  below = subst (λ (n : ℕ). AllByRecursion (λ v. v < n) (values_defined x.0.body)) (sym read.next_value) (below-counted (values_defined x.0.body) x.1.counts.values read.body.values);
  uses = there-counted (values_defined x.0.body) x.1.counts.values read.body.values (values_used x.0.body) read.body.used;
  names = there-counted (blocks_defined x.0.body) x.1.counts.blocks read.body.blocks (blocks_named x.0.body) read.body.named;
  items = read.body.shaped;
  inputs = read.inputs;
  outputs = read.outputs;
}

record ReadsWhole (signs : List Sign) (s : Shader) : Type 0 where
  read : Shader × Point
  whole : ReadsShader (naming_of signs) read.1.counts (record { rest = signs; counts = no_counts }) read
  same : read.0 ≡ s

whole_read : (signs : List Sign) (s : Shader) → length signs ≤ 2 ^ 32 → read_signs signs ≡ Ok s → ReadsWhole signs s
unfolding read_signs
whole_read signs s room e =
    let a = bind_ok (shader_at (naming_of signs) (record { rest = signs; counts = no_counts })) _ s e in
    let k = known_ok (first_unknown (naming_of signs) a.0.1.counts signs) a.0.0 s a.2 in
    let stands : Stands (naming_of signs) a.0.1.counts signs = record { known = k.0; room = room } in
    record { read = a.0; whole = shader_read (naming_of signs) a.0.1.counts (naming_of-HaveCounts signs) (record { rest = signs; counts = no_counts }) a.0 stands a.1; same = k.1 }

pub IsShaped-read_signs : (signs : List Sign) (s : Shader) → length signs ≤ 2 ^ 32 → read_signs signs ≡ Ok s → IsShaped s
IsShaped-read_signs signs s room e =
    let read = whole_read signs s room e in
    subst IsShaped read.same (IsShaped-read_whole signs (naming_of signs) read.read read.whole)

-- and has few values
pub few_values-read_signs : (signs : List Sign) (s : Shader) → length signs ≤ 2 ^ 32 → read_signs signs ≡ Ok s → s.next_value ≤ 16384
few_values-read_signs signs s room e =
    let read = whole_read signs s room e in
    subst (λ (n : ℕ). n ≤ 16384) (sym read.whole.next_value ∙ ap (λ t. t.next_value) read.same) (read.whole.body.few (omega arith))

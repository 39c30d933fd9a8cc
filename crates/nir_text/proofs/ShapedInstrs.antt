-- Instructions and phis that are read define the next value or effect, use what the text defines, and are shaped.
use Rattle.std.proofs.Common.{◌≡◌, ℕ, ◌^◌, ◌<◌, List, map, length, Option, Some, None, Ok, codes, refl, ap, subst, inl, inr}
use Rattle.std.specs.Option.{option_and_then}
use Rattle.std.specs.List.{AllByRecursion, range_with_len}
use Rattle.nir_ops.specs.declared.op.Op.{Op}
use Rattle.nir_ops.specs.Opcodes.{op_info}
use Rattle.nir_ops.specs.Lookup.{op_named}
use Rattle.nir_ops.specs.Width.{width_bits}
use Rattle.nir_ir.specs.declared.ids.ValueId.{ValueId}
use Rattle.nir_ir.specs.declared.instr.Instr.{Instr}
use Rattle.nir_ir.specs.declared.instr.Instr.TheVariants.{Alu, Const, Undef, Input, LoadBuf}
use Rattle.nir_ir.specs.declared.instr.Src.{Src}
use Rattle.nir_ir.specs.declared.kind.Kind.{Kind}
use Rattle.nir_ir.specs.Items.{target, effect_of, reads}
use Rattle.nir_ir.specs.Shaped.{IsCount, IsSwizzle, IsShapedInstr}
use Rattle.nir_text.specs.declared.counts.Counts as counts
use Rattle.nir_text.specs.declared.fault.TextFault.TheVariants.{Expected}
use Rattle.nir_text.specs.Signs.{word_of, number_of_kind, is_mark, is_word}
use Rattle.nir_text.specs.Kinds.{kind_named}
use Rattle.nir_text.specs.Naming.{Naming}
use Rattle.nir_text.specs.Reading.{Point, here, next, mark_at, wanted, kind_at, index_at, value_used_at, separated_at}
use Rattle.nir_text.specs.Instrs.{is_keyword, component_of, component_at, swizzle_of, count_of, src_at, named_or, opcode_of, opcode_at, alu_at, const_at, undef_at, input_at, load_at, definition_at}
use Rattle.list_laws.specs.AllLaws.{all_each}
use Rattle.nir_text.proofs.ShapedLists.{AllByRecursion-map}
use Rattle.nir_text.proofs.ShapedKinds.{kind_of_word-IsCount, count_of-IsCount, range-IsSwizzle, swizzle_of_word-IsSwizzle, component_of-fits}
use Rattle.nir_text.specs.ReadingLaws.{ok_is, bind_ok, not_held}
use Rattle.list_laws.specs.BoolLaws.{chosen}
use Rattle.nir_text.proofs.ShapedPoints.{Stands, Passes, Passes-then, Passes-to, mark_passes, wanted_passes, index_passes, value_used}
use Rattle.nir_text.proofs.ShapedSeries.{ReadsEach, separated_read}

-- a read opcode
named_ok : (o : Option Op) (p : Point) (x : Op × Point) → named_or o p ≡ Ok x → next p ≡ x.1
named_ok None p x e = absurd cc
named_ok (Some op) p x e = ap (λ y. y.1) (ok_is (op, next p) x e)

opcode_ok : (o : Option (List ℕ)) (p : Point) (x : Op × Point) → opcode_of o p ≡ Ok x → next p ≡ x.1
opcode_ok None p x e = absurd cc
opcode_ok (Some word) p x e = named_ok (op_named word) p x (not_held (is_keyword word) (Expected (here p).place) (named_or (op_named word) p) x e).1

module _ (names : Naming) (total : counts.Counts) where
  pub kind_read : (p : Point) (x : Kind × Point) → Stands names total p.rest → kind_at p ≡ Ok x → Passes names total p x.1 × IsCount x.0.count
  unfolding kind_at
  kind_read p x stands e =
      let w = wanted_passes names total (option_and_then kind_named (word_of (here p))) p x stands e in
      (w.0, kind_of_word-IsCount (word_of (here p)) x.0 w.1)

  component_read : (kind : Kind) (p : Point) (x : ℕ × Point) → Stands names total p.rest → component_at kind p ≡ Ok x → Passes names total p x.1 × (x.0 < 2 ^ width_bits kind.width)
  unfolding component_at
  component_read kind p x stands e =
      let w = wanted_passes names total (option_and_then (component_of (width_bits kind.width)) (number_of_kind (here p).kind)) p x stands e in
      (w.0, component_of-fits (width_bits kind.width) (number_of_kind (here p).kind) x.0 w.1)

  -- a source that is there, with a swizzle
  record IsSource (src : Src) : Type 0 where
    there : src.value.0 < total.values
    swizzle : IsSwizzle src.swizzle

  src_read : AllByRecursion IsCount names.counts → (p : Point) (x : Src × Point) → Stands names total p.rest → src_at names p ≡ Ok x → Passes names total p x.1 × IsSource x.0
  unfolding src_at
  src_read counted p x stands e =
      let a = bind_ok (value_used_at names p) _ x e in
      let value = value_used names total p a.0 stands a.1 in
      elim (chosen (is_mark 46 (here a.0.1)) _ _ (Ok x) a.2) [
        | inl way ↦
            let dot = Passes-to names total a.0.1 (next a.0.1) value.0.stands refl in
            let b = bind_ok (wanted (option_and_then swizzle_of (word_of (here (next a.0.1)))) (next a.0.1)) _ x way.1 in
            let w = wanted_passes names total (option_and_then swizzle_of (word_of (here (next a.0.1)))) (next a.0.1) b.0 dot.stands b.1 in
            let made : Src × Point = (record { value = a.0.0; swizzle = b.0.0 }, b.0.1) in
            let passes = Passes-then names total p a.0.1 b.0.1 value.0 (Passes-then names total a.0.1 (next a.0.1) b.0.1 dot w.0) in
            subst (λ (y : Src × Point). Passes names total p y.1 × IsSource y.0) {x = made} (ok_is made x b.2) (passes, record { there = value.1; swizzle = swizzle_of_word-IsSwizzle (word_of (here (next a.0.1))) b.0.0 w.1 })
        | inr way ↦
            let made : Src × Point = (record { value = a.0.0; swizzle = range_with_len 0 (count_of names a.0.0) }, a.0.1) in
            let count : IsCount (count_of names a.0.0) = count_of-IsCount names a.0.0 counted in
            subst (λ (y : Src × Point). Passes names total p y.1 × IsSource y.0) {x = made} (ok_is made x way.1) (value.0, record { there = value.1; swizzle = range-IsSwizzle (count_of names a.0.0) count })
      ]

  opcode_read : (p : Point) (x : Op × Point) → Stands names total p.rest → opcode_at p ≡ Ok x → Passes names total p x.1
  unfolding opcode_at
  opcode_read p x stands e = Passes-to names total p x.1 stands (opcode_ok (word_of (here p)) p x e)

  -- ---- what stands behind the name of a value and `=`

  pub record IsDefinition (value : ValueId) (instr : Instr) : Type 0 where
    pub target : target instr ≡ Some value
    pub effect : effect_of instr ≡ None
    pub used : AllByRecursion (λ v. v < total.values) (map (λ id. id.0) (reads instr))
    pub shaped : IsShapedInstr instr

  abbrev pub Defines : ValueId → Point → Instr × Point → Type 0
  Defines value p x = Passes names total p x.1 × IsDefinition value x.0

  load_defines : (value : ValueId) (kind : Kind) (buffer : ℕ) (offset : ValueId) → IsCount kind.count → offset.0 < total.values → IsDefinition value (LoadBuf value kind buffer offset)
  load_defines value kind buffer offset count there = record { target = refl; effect = refl; used = (there, tt); shaped = count }

  alu_read : AllByRecursion IsCount names.counts → (value : ValueId) (p : Point) (x : Instr × Point) → Stands names total p.rest → alu_at names value p ≡ Ok x → Defines value p x
  unfolding alu_at
  alu_read counted value p x stands e =
      let a = bind_ok (opcode_at p) _ x e in
      let b = bind_ok (kind_at a.0.1) _ x a.2 in
      let c = bind_ok (separated_at (λ k. src_at names) (length (op_info a.0.0).inputs) b.0.1) _ x b.2 in
      let op = opcode_read p a.0 stands a.1 in
      let kind = kind_read a.0.1 b.0 op.stands b.1 in
      let each : ReadsEach names total IsSource (λ k. src_at names) = record { item = λ k. src_read counted } in
      let srcs = separated_read names total IsSource (λ k. src_at names) each (length (op_info a.0.0).inputs) b.0.1 c.0 kind.0.stands c.1 in
      let made : Instr × Point = (Alu value a.0.0 b.0.0 c.0.0, c.0.1) in
      let passes = Passes-then names total p a.0.1 c.0.1 op (Passes-then names total a.0.1 b.0.1 c.0.1 kind.0 srcs.passes) in
      let values : AllByRecursion (λ (id : ValueId). id.0 < total.values) (map (λ src. src.value) c.0.0) = AllByRecursion-map IsSource (λ (id : ValueId). id.0 < total.values) (λ src. src.value) (λ src is. is.there) c.0.0 srcs.all in
      subst (Defines value p) {x = made} (ok_is made x c.2) (
        passes,
        record {
          target = refl;
          effect = refl;
          used = AllByRecursion-map (λ (id : ValueId). id.0 < total.values) (λ v. v < total.values) (λ id. id.0) (λ id lt. lt) (map (λ src. src.value) c.0.0) values;
          shaped = (kind.1, srcs.len, all_each IsSource (λ src. IsSwizzle src.swizzle) (λ src is. is.swizzle) c.0.0 srcs.all);
        },
      )

  const_read : (value : ValueId) (p : Point) (x : Instr × Point) → Stands names total p.rest → const_at value p ≡ Ok x → Defines value p x
  unfolding const_at
  const_read value p x stands e =
      let a = bind_ok (kind_at p) _ x e in
      let b = bind_ok (mark_at 40 a.0.1) _ x a.2 in
      let c = bind_ok (separated_at (λ k. component_at a.0.0) a.0.0.count b.0) _ x b.2 in
      let d = bind_ok (mark_at 41 c.0.1) _ x c.2 in
      let kind = kind_read p a.0 stands a.1 in
      let begun = mark_passes names total 40 a.0.1 b.0 kind.0.stands b.1 in
      let each : ReadsEach names total (λ comp. comp < 2 ^ width_bits a.0.0.width) (λ k. component_at a.0.0) = record { item = λ k. component_read a.0.0 } in
      let comps = separated_read names total (λ comp. comp < 2 ^ width_bits a.0.0.width) (λ k. component_at a.0.0) each a.0.0.count b.0 c.0 begun.stands c.1 in
      let close = mark_passes names total 41 c.0.1 d.0 comps.passes.stands d.1 in
      let made : Instr × Point = (Const value a.0.0 c.0.0, d.0) in
      let passes = Passes-then names total p a.0.1 d.0 kind.0 (Passes-then names total a.0.1 b.0 d.0 begun (Passes-then names total b.0 c.0.1 d.0 comps.passes close)) in
      subst (Defines value p) {x = made} (ok_is made x d.2) (passes, record { target = refl; effect = refl; used = tt; shaped = (kind.1, record { count = comps.len; words = comps.all }) })

  undef_read : (value : ValueId) (p : Point) (x : Instr × Point) → Stands names total p.rest → undef_at value p ≡ Ok x → Defines value p x
  unfolding undef_at
  undef_read value p x stands e =
      let a = bind_ok (kind_at p) _ x e in
      let kind = kind_read p a.0 stands a.1 in
      let made : Instr × Point = (Undef value a.0.0, a.0.1) in
      subst (Defines value p) {x = made} (ok_is made x a.2) (kind.0, record { target = refl; effect = refl; used = tt; shaped = kind.1 })

  input_read : (value : ValueId) (p : Point) (x : Instr × Point) → Stands names total p.rest → input_at value p ≡ Ok x → Defines value p x
  unfolding input_at
  input_read value p x stands e =
      let a = bind_ok (kind_at p) _ x e in
      let b = bind_ok (mark_at 64 a.0.1) _ x a.2 in
      let c = bind_ok (index_at b.0) _ x b.2 in
      let kind = kind_read p a.0 stands a.1 in
      let at = mark_passes names total 64 a.0.1 b.0 kind.0.stands b.1 in
      let slot = index_passes names total b.0 c.0 at.stands c.1 in
      let made : Instr × Point = (Input value a.0.0 c.0.0, c.0.1) in
      let passes = Passes-then names total p a.0.1 c.0.1 kind.0 (Passes-then names total a.0.1 b.0 c.0.1 at slot) in
      subst (Defines value p) {x = made} (ok_is made x c.2) (passes, record { target = refl; effect = refl; used = tt; shaped = kind.1 })

  load_read : (value : ValueId) (p : Point) (x : Instr × Point) → Stands names total p.rest → load_at names value p ≡ Ok x → Defines value p x
  unfolding load_at
  load_read value p x stands e =
      let a = bind_ok (kind_at p) _ x e in
      let b = bind_ok (mark_at 64 a.0.1) _ x a.2 in
      let c = bind_ok (index_at b.0) _ x b.2 in
      let d = bind_ok (mark_at 44 c.0.1) _ x c.2 in
      let f = bind_ok (value_used_at names d.0) _ x d.2 in
      let kind = kind_read p a.0 stands a.1 in
      let at = mark_passes names total 64 a.0.1 b.0 kind.0.stands b.1 in
      let buffer = index_passes names total b.0 c.0 at.stands c.1 in
      let comma = mark_passes names total 44 c.0.1 d.0 buffer.stands d.1 in
      let offset = value_used names total d.0 f.0 comma.stands f.1 in
      let made : Instr × Point = (LoadBuf value a.0.0 c.0.0 f.0.0, f.0.1) in
      let passes = Passes-then names total p a.0.1 f.0.1 kind.0 (Passes-then names total a.0.1 b.0 f.0.1 at (Passes-then names total b.0 c.0.1 f.0.1 buffer (Passes-then names total c.0.1 d.0 f.0.1 comma offset.0))) in
      subst (Defines value p) {x = made} (ok_is made x f.2) (passes, load_defines value a.0.0 c.0.0 f.0.0 kind.1 offset.1)

  behind_word : (value : ValueId) (p : Point) (x : Instr × Point) → Stands names total p.rest → (Stands names total (next p).rest → Defines value (next p) x) → Defines value p x
  behind_word value p x stands follows =
      let word = Passes-to names total p (next p) stands refl in
      let part = follows word.stands in
      (Passes-then names total p (next p) x.1 word part.0, part.1)

  pub definition_read : AllByRecursion IsCount names.counts → (value : ValueId) (p : Point) (x : Instr × Point) → Stands names total p.rest → definition_at names value p ≡ Ok x → Defines value p x
  unfolding definition_at
  definition_read counted value p x stands e =
      elim (chosen (is_word (codes "const") (here p)) _ _ (Ok x) e) [
        | inl way ↦ behind_word value p x stands (λ behind. const_read value (next p) x behind way.1)
        | inr other ↦ elim (chosen (is_word (codes "undef") (here p)) _ _ (Ok x) other.1) [
          | inl way ↦ behind_word value p x stands (λ behind. undef_read value (next p) x behind way.1)
          | inr other ↦ elim (chosen (is_word (codes "input") (here p)) _ _ (Ok x) other.1) [
            | inl way ↦ behind_word value p x stands (λ behind. input_read value (next p) x behind way.1)
            | inr other ↦ elim (chosen (is_word (codes "load") (here p)) _ _ (Ok x) other.1) [
              | inl way ↦ behind_word value p x stands (λ behind. load_read value (next p) x behind way.1)
              | inr other ↦ alu_read counted value p x stands other.1
            ]
          ]
        ]
      ]

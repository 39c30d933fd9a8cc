-- Instructions, phis and blocks that are read take the next numbers in order.
use Rattle.std.proofs.Common.{◌≡◌, ℕ, zero, suc, ◌+◌, ◌^◌, ◌<◌, ◌≤◌, List, [], ◌∷◌, ◌++◌, map, length, Option, Some, None, option_to_list, Ok, nat_lt, codes, refl, sym, ap, ◌∙◌, subst, inl, inr, arith, ltb-true}
use Rattle.std.specs.List.{AllByRecursion}
use Rattle.nir_ir.specs.declared.ids.BlockId.{BlockId}
use Rattle.nir_ir.specs.declared.ids.EffectId.{EffectId}
use Rattle.nir_ir.specs.declared.ids.ValueId.{ValueId}
use Rattle.nir_ir.specs.declared.instr.Instr.{Instr}
use Rattle.nir_ir.specs.declared.instr.Instr.TheVariants.{Output, StoreBuf}
use Rattle.nir_ir.specs.declared.node.Block as block
use Rattle.nir_ir.specs.declared.node.Jump.{Jump}
use Rattle.nir_ir.specs.declared.node.Jump.TheVariants.{Break, Continue}
use Rattle.nir_ir.specs.declared.node.Phi.{Phi}
use Rattle.nir_ir.specs.declared.node.PhiSource.{PhiSource}
use Rattle.nir_ir.specs.Items.{BlockHead, PhiItem, InstrItem, JumpItem, block_items, target, effect_of, reads}
use Rattle.nir_ir.specs.Shaped.{IsCount, IsShapedInstr, IsShapedPhi}
use Rattle.nir_text.specs.declared.counts.Counts as counts
use Rattle.nir_text.specs.declared.fault.TextFault.TheVariants.{Twice, TooMany}
use Rattle.nir_text.specs.Signs.{word_of, name_of, is_word}
use Rattle.nir_text.specs.Naming.{Naming, place_of, is_among_first}
use Rattle.nir_text.specs.Reading.{Point, here, next, value_begun, block_begun, mark_at, word_at, wanted, kind_at, index_at, value_defined_at, value_used_at, block_defined_at, block_used_at, bracketed_at}
use Rattle.nir_text.specs.Instrs.{effect_begun, effect_here, output_at, store_at, instr_at, begins_instr, instrs_at, source_at, phi_at, begins_phi, phis_at, jump_at}
use Rattle.nir_text.specs.Tree.{block_at}
use Rattle.nir_text.proofs.ShapedLists.{AllByRecursion-map, Counts, Counts-none, Counts-one}
use Rattle.nir_text.specs.ReadingLaws.{ok_is, bind_ok, held, not_held}
use Rattle.list_laws.specs.BoolLaws.{chosen}
use Rattle.nir_text.proofs.ShapedPoints.{Stands, Passes, Passes-refl, Passes-next, Passes-then, Passes-to, mark_passes, word_passes, index_passes, value_used, block_used}
use Rattle.nir_text.proofs.ShapedSeries.{ReadsEach, bracketed_read}
use Rattle.nir_text.proofs.ShapedInstrs.{kind_read, IsDefinition, definition_read}
use Rattle.nir_text.proofs.ShapedItems.{AreFew, AreFew-kept, Reads, Reads-one, Reads-none, Reads-then}

module _ (names : Naming) (total : counts.Counts) where
  -- a token took these numbers
  record Takes (p q : Point) (taken : counts.Counts) : Type 0 where
    counts : q.counts ≡ taken
    few : AreFew p q
    shorter : length q.rest ≤ length p.rest
    stands : Stands names total q.rest

  Takes-then : (p q r : Point) (taken : counts.Counts) → Takes p q taken → Passes names total q r → Takes p r taken
  Takes-then p q r taken first second = record {
    counts = second.counts ∙ first.counts;
    few = λ few. AreFew-kept q r (ap (λ c. c.values) second.counts) (first.few few);
    shorter = omega (arith, first.shorter, second.shorter);
    stands = second.stands;
  }

  abbrev one_value : counts.Counts → counts.Counts
  one_value c = record c { values = c.values + 1 }

  abbrev one_block : counts.Counts → counts.Counts
  one_block c = record c { blocks = c.blocks + 1 }

  abbrev one_effect : counts.Counts → counts.Counts
  one_effect c = record c { effects = c.effects + 1 }

  value_defined : (p : Point) (x : ValueId × Point) → Stands names total p.rest → value_defined_at names p ≡ Ok x → (x.0.0 ≡ p.counts.values) × Takes p x.1 (one_value p.counts)
  unfolding value_defined_at
  value_defined p x stands e =
      let a = bind_ok (wanted (name_of (here p)) p) _ x e in
      let token = Passes-next names total p stands in
      let once = not_held (is_among_first p.counts.values (place_of a.0.0 names.values)) (Twice (here p).place) _ x a.2 in
      let few = held (nat_lt p.counts.values 16384) (TooMany (here p).place) _ x once.1 in
      let made : ValueId × Point = (record { 0 = p.counts.values }, value_begun p) in
      subst (λ (y : ValueId × Point). (y.0.0 ≡ p.counts.values) × Takes p y.1 (one_value p.counts)) {x = made} (ok_is made x few.1) (refl, record { counts = refl; few = λ _. omega (arith, ltb-true p.counts.values 16384 few.0); shorter = token.shorter; stands = token.stands })

  block_defined : (p : Point) (x : BlockId × Point) → Stands names total p.rest → block_defined_at names p ≡ Ok x → (x.0.0 ≡ p.counts.blocks) × Takes p x.1 (one_block p.counts)
  unfolding block_defined_at
  block_defined p x stands e =
      let a = bind_ok (wanted (word_of (here p)) p) _ x e in
      let token = Passes-next names total p stands in
      let once = not_held (is_among_first p.counts.blocks (place_of a.0.0 names.blocks)) (Twice (here p).place) _ x a.2 in
      let made : BlockId × Point = (record { 0 = p.counts.blocks }, block_begun p) in
      subst (λ (y : BlockId × Point). (y.0.0 ≡ p.counts.blocks) × Takes p y.1 (one_block p.counts)) {x = made} (ok_is made x once.1) (refl, record { counts = refl; few = λ few. few; shorter = token.shorter; stands = token.stands })

  -- an item that took the next value, block or effect, and nothing else
  value_item : (p q : Point) (value : ValueId) → value.0 ≡ p.counts.values → q.counts ≡ one_value p.counts → Counts p.counts.values q.counts.values (map (λ id. id.0) (option_to_list (Some value)))
  value_item p q value same counts = subst (λ (n : ℕ). Counts p.counts.values q.counts.values (n ∷ [])) (sym same) (Counts-one p.counts.values q.counts.values (ap (λ c. c.values) counts))

  -- an instruction that defines a value
  defined_item : (p q : Point) (value : ValueId) (instr : Instr) → value.0 ≡ p.counts.values → Takes p q (one_value p.counts) → IsDefinition names total value instr → Reads names total p q (InstrItem instr ∷ [])
  defined_item p q value instr same takes is = Reads-one names total p q (InstrItem instr) (record {
    values = subst (λ (o : Option ValueId). Counts p.counts.values q.counts.values (map (λ id. id.0) (option_to_list o))) (sym is.target) (value_item p q value same takes.counts);
    few = takes.few;
    blocks = Counts-none p.counts.blocks q.counts.blocks (ap (λ c. c.blocks) takes.counts);
    effects = subst (λ (o : Option EffectId). Counts p.counts.effects q.counts.effects (map (λ id. id.0) (option_to_list o))) (sym is.effect) (Counts-none p.counts.effects q.counts.effects (ap (λ c. c.effects) takes.counts));
    ifs = Counts-none p.counts.ifs q.counts.ifs (ap (λ c. c.ifs) takes.counts);
    loops = Counts-none p.counts.loops q.counts.loops (ap (λ c. c.loops) takes.counts);
    used = is.used;
    named = tt;
    shaped = is.shaped;
    shorter = takes.shorter;
    stands = takes.stands;
  })

  effect_takes : (p q : Point) → Stands names total p.rest → (Stands names total (effect_begun p).rest → Passes names total (effect_begun p) q) → Takes p q (one_effect p.counts)
  effect_takes p q stands follows =
      let word = Passes-next names total p stands in
      let part = follows word.stands in
      record { counts = part.counts; few = AreFew-kept p q (ap (λ c. c.values) part.counts); shorter = omega (arith, word.shorter, part.shorter); stands = part.stands }

  -- an output or a store
  effect_item : (p q : Point) (instr : Instr) → target instr ≡ None → effect_of instr ≡ Some (effect_here p) → AllByRecursion (λ v. v < total.values) (map (λ id. id.0) (reads instr)) → IsShapedInstr instr → Takes p q (one_effect p.counts) → Reads names total p q (InstrItem instr ∷ [])
  effect_item p q instr target effect used shaped takes = Reads-one names total p q (InstrItem instr) (record {
    values = subst (λ (o : Option ValueId). Counts p.counts.values q.counts.values (map (λ id. id.0) (option_to_list o))) (sym target) (Counts-none p.counts.values q.counts.values (ap (λ c. c.values) takes.counts));
    few = takes.few;
    blocks = Counts-none p.counts.blocks q.counts.blocks (ap (λ c. c.blocks) takes.counts);
    effects = subst (λ (o : Option EffectId). Counts p.counts.effects q.counts.effects (map (λ id. id.0) (option_to_list o))) (sym effect) (Counts-one p.counts.effects q.counts.effects (ap (λ c. c.effects) takes.counts));
    ifs = Counts-none p.counts.ifs q.counts.ifs (ap (λ c. c.ifs) takes.counts);
    loops = Counts-none p.counts.loops q.counts.loops (ap (λ c. c.loops) takes.counts);
    used = used;
    named = tt;
    shaped = shaped;
    shorter = takes.shorter;
    stands = takes.stands;
  })

  abbrev IsInstrPart : Point → Instr × Point → Type 0
  IsInstrPart p x = Reads names total p x.1 (InstrItem x.0 ∷ [])

  output_item : (p q : Point) (slot : ℕ) (src : ValueId) → src.0 < total.values → Takes p q (one_effect p.counts) → IsInstrPart p (Output (effect_here p) slot src, q)
  output_item p q slot src there takes = effect_item p q (Output (effect_here p) slot src) refl refl (there, tt) tt takes

  store_item : (p q : Point) (buffer : ℕ) (offset src : ValueId) → offset.0 < total.values → src.0 < total.values → Takes p q (one_effect p.counts) → IsInstrPart p (StoreBuf (effect_here p) buffer offset src, q)
  store_item p q buffer offset src inside there takes = effect_item p q (StoreBuf (effect_here p) buffer offset src) refl refl (inside, (there, tt)) tt takes

  output_read : (p : Point) (x : Instr × Point) → Stands names total p.rest → output_at names p ≡ Ok x → IsInstrPart p x
  unfolding output_at
  output_read p x stands e =
      let a = bind_ok (mark_at 64 (effect_begun p)) _ x e in
      let b = bind_ok (index_at a.0) _ x a.2 in
      let c = bind_ok (mark_at 44 b.0.1) _ x b.2 in
      let d = bind_ok (value_used_at names c.0) _ x c.2 in
      let begun = Passes-next names total p stands in
      let at = mark_passes names total 64 (effect_begun p) a.0 begun.stands a.1 in
      let slot = index_passes names total a.0 b.0 at.stands b.1 in
      let comma = mark_passes names total 44 b.0.1 c.0 slot.stands c.1 in
      let src = value_used names total c.0 d.0 comma.stands d.1 in
      let passes = Passes-then names total (effect_begun p) a.0 d.0.1 at (Passes-then names total a.0 b.0.1 d.0.1 slot (Passes-then names total b.0.1 c.0 d.0.1 comma src.0)) in
      let made : Instr × Point = (Output (effect_here p) b.0.0 d.0.0, d.0.1) in
      subst (IsInstrPart p) {x = made} (ok_is made x d.2) (output_item p d.0.1 b.0.0 d.0.0 src.1 (effect_takes p d.0.1 stands (λ _. passes)))

  store_read : (p : Point) (x : Instr × Point) → Stands names total p.rest → store_at names p ≡ Ok x → IsInstrPart p x
  unfolding store_at
  store_read p x stands e =
      let a = bind_ok (mark_at 64 (effect_begun p)) _ x e in
      let b = bind_ok (index_at a.0) _ x a.2 in
      let c = bind_ok (mark_at 44 b.0.1) _ x b.2 in
      let d = bind_ok (value_used_at names c.0) _ x c.2 in
      let f = bind_ok (mark_at 44 d.0.1) _ x d.2 in
      let g = bind_ok (value_used_at names f.0) _ x f.2 in
      let begun = Passes-next names total p stands in
      let at = mark_passes names total 64 (effect_begun p) a.0 begun.stands a.1 in
      let buffer = index_passes names total a.0 b.0 at.stands b.1 in
      let comma = mark_passes names total 44 b.0.1 c.0 buffer.stands c.1 in
      let offset = value_used names total c.0 d.0 comma.stands d.1 in
      let second = mark_passes names total 44 d.0.1 f.0 offset.0.stands f.1 in
      let src = value_used names total f.0 g.0 second.stands g.1 in
      let behind = Passes-then names total c.0 d.0.1 g.0.1 offset.0 (Passes-then names total d.0.1 f.0 g.0.1 second src.0) in
      let passes = Passes-then names total (effect_begun p) a.0 g.0.1 at (Passes-then names total a.0 b.0.1 g.0.1 buffer (Passes-then names total b.0.1 c.0 g.0.1 comma behind)) in
      let made : Instr × Point = (StoreBuf (effect_here p) b.0.0 d.0.0 g.0.0, g.0.1) in
      subst (IsInstrPart p) {x = made} (ok_is made x g.2) (store_item p g.0.1 b.0.0 d.0.0 g.0.0 offset.1 src.1 (effect_takes p g.0.1 stands (λ _. passes)))

  instr_read : AllByRecursion IsCount names.counts → (p : Point) (x : Instr × Point) → Stands names total p.rest → instr_at names p ≡ Ok x → IsInstrPart p x
  unfolding instr_at
  instr_read counted p x stands e =
      elim (chosen (is_word (codes "output") (here p)) _ _ (Ok x) e) [
        | inl way ↦ output_read p x stands way.1
        | inr other ↦ elim (chosen (is_word (codes "store") (here p)) _ _ (Ok x) other.1) [
          | inl way ↦ store_read p x stands way.1
          | inr way ↦
              let a = bind_ok (value_defined_at names p) _ x way.1 in
              let b = bind_ok (mark_at 61 a.0.1) _ x a.2 in
              let value = value_defined p a.0 stands a.1 in
              let equals = mark_passes names total 61 a.0.1 b.0 value.1.stands b.1 in
              let behind = definition_read names total counted a.0.0 b.0 x equals.stands b.2 in
              defined_item p x.1 a.0.0 x.0 value.0 (Takes-then p b.0 x.1 (one_value p.counts) (Takes-then p a.0.1 b.0 (one_value p.counts) value.1 equals) behind.0) behind.1
        ]
      ]

  abbrev AreInstrs : Point → List Instr × Point → Type 0
  AreInstrs p x = Reads names total p x.1 (map InstrItem x.0)

  pub instrs_read : AllByRecursion IsCount names.counts → (fuel : ℕ) (p : Point) (x : List Instr × Point) → Stands names total p.rest → instrs_at names fuel p ≡ Ok x → Reads names total p x.1 (map InstrItem x.0)
  unfolding instrs_at
  instrs_read counted zero p x stands e = absurd cc
  instrs_read counted (suc fuel) p x stands e =
      elim (chosen (begins_instr (here p)) _ _ (Ok x) e) [
        | inl way ↦
            let a = bind_ok (instr_at names p) _ x way.1 in
            let b = bind_ok (instrs_at names fuel a.0.1) _ x a.2 in
            let first = instr_read counted p a.0 stands a.1 in
            let others = instrs_read counted fuel a.0.1 b.0 first.stands b.1 in
            let made : List Instr × Point = (a.0.0 ∷ b.0.0, b.0.1) in
            subst (AreInstrs p) {x = made} (ok_is made x b.2) (Reads-then names total p a.0.1 b.0.1 (InstrItem a.0.0 ∷ []) (map InstrItem b.0.0) first others)
        | inr way ↦ subst (AreInstrs p) (ok_is ([], p) x way.1) (Reads-none names total p p (Passes-refl names total p stands))
      ]

  -- ---- phis

  record IsPhiSource (source : PhiSource) : Type 0 where
    from : source.from.0 < total.blocks
    value : source.value.0 < total.values

  source_read : (p : Point) (x : PhiSource × Point) → Stands names total p.rest → source_at names p ≡ Ok x → Passes names total p x.1 × IsPhiSource x.0
  unfolding source_at
  source_read p x stands e =
      let a = bind_ok (block_used_at names p) _ x e in
      let b = bind_ok (mark_at 58 a.0.1) _ x a.2 in
      let c = bind_ok (value_used_at names b.0) _ x b.2 in
      let from = block_used names total p a.0 b.0 stands a.1 b.1 in
      let value = value_used names total b.0 c.0 from.0.stands c.1 in
      let made : PhiSource × Point = (record { from = a.0.0; value = c.0.0 }, c.0.1) in
      subst (λ (y : PhiSource × Point). Passes names total p y.1 × IsPhiSource y.0) {x = made} (ok_is made x c.2) (Passes-then names total p b.0 c.0.1 from.0 value.0, record { from = from.1; value = value.1 })

  phi_item : (p q : Point) (phi : Phi) → phi.value.0 ≡ p.counts.values → Takes p q (one_value p.counts) → IsShapedPhi phi → AllByRecursion IsPhiSource phi.sources → Reads names total p q (PhiItem phi ∷ [])
  phi_item p q phi same takes shaped sources =
      let values : AllByRecursion (λ (id : ValueId). id.0 < total.values) (map (λ source. source.value) phi.sources) = AllByRecursion-map IsPhiSource (λ (id : ValueId). id.0 < total.values) (λ source. source.value) (λ source is. is.value) phi.sources sources in
      let blocks : AllByRecursion (λ (id : BlockId). id.0 < total.blocks) (map (λ source. source.from) phi.sources) = AllByRecursion-map IsPhiSource (λ (id : BlockId). id.0 < total.blocks) (λ source. source.from) (λ source is. is.from) phi.sources sources in
      Reads-one names total p q (PhiItem phi) (record {
        values = value_item p q phi.value same takes.counts;
        few = takes.few;
        blocks = Counts-none p.counts.blocks q.counts.blocks (ap (λ c. c.blocks) takes.counts);
        effects = Counts-none p.counts.effects q.counts.effects (ap (λ c. c.effects) takes.counts);
        ifs = Counts-none p.counts.ifs q.counts.ifs (ap (λ c. c.ifs) takes.counts);
        loops = Counts-none p.counts.loops q.counts.loops (ap (λ c. c.loops) takes.counts);
        used = AllByRecursion-map (λ (id : ValueId). id.0 < total.values) (λ v. v < total.values) (λ id. id.0) (λ id lt. lt) (map (λ source. source.value) phi.sources) values;
        named = AllByRecursion-map (λ (id : BlockId). id.0 < total.blocks) (λ b. b < total.blocks) (λ id. id.0) (λ id lt. lt) (map (λ source. source.from) phi.sources) blocks;
        shaped = shaped;
        shorter = takes.shorter;
        stands = takes.stands;
      })

  abbrev IsPhiPart : Point → Phi × Point → Type 0
  IsPhiPart p x = Reads names total p x.1 (PhiItem x.0 ∷ [])

  phi_read : (p : Point) (x : Phi × Point) → Stands names total p.rest → phi_at names p ≡ Ok x → IsPhiPart p x
  unfolding phi_at
  phi_read p x stands e =
      let a = bind_ok (value_defined_at names p) _ x e in
      let b = bind_ok (mark_at 61 a.0.1) _ x a.2 in
      let c = bind_ok (word_at (codes "phi") b.0) _ x b.2 in
      let d = bind_ok (kind_at c.0) _ x c.2 in
      let f = bind_ok (bracketed_at (λ k. source_at names) d.0.1) _ x d.2 in
      let value = value_defined p a.0 stands a.1 in
      let equals = mark_passes names total 61 a.0.1 b.0 value.1.stands b.1 in
      let word = word_passes names total (codes "phi") b.0 c.0 equals.stands c.1 in
      let kind = kind_read names total c.0 d.0 word.stands d.1 in
      let each : ReadsEach names total IsPhiSource (λ k. source_at names) = record { item = λ k. source_read } in
      let sources = bracketed_read names total IsPhiSource (λ k. source_at names) each d.0.1 f.0 kind.0.stands f.1 in
      let passes = Passes-then names total a.0.1 b.0 f.0.1 equals (Passes-then names total b.0 c.0 f.0.1 word (Passes-then names total c.0 d.0.1 f.0.1 kind.0 sources.passes)) in
      let phi : Phi = record { value = a.0.0; kind = d.0.0; sources = f.0.0 } in
      let made : Phi × Point = (phi, f.0.1) in
      let few : length f.0.0 < 2 ^ 32 = omega (arith, sources.few, kind.0.stands.room) in
      subst (IsPhiPart p) {x = made} (ok_is made x f.2) (phi_item p f.0.1 phi value.0 (Takes-then p a.0.1 f.0.1 (one_value p.counts) value.1 passes) (kind.1, few) sources.all)

  abbrev ArePhis : Point → List Phi × Point → Type 0
  ArePhis p x = Reads names total p x.1 (map PhiItem x.0)

  pub phis_read : (fuel : ℕ) (p : Point) (x : List Phi × Point) → Stands names total p.rest → phis_at names fuel p ≡ Ok x → Reads names total p x.1 (map PhiItem x.0)
  unfolding phis_at
  phis_read zero p x stands e = absurd cc
  phis_read (suc fuel) p x stands e =
      elim (chosen (begins_phi p.rest) _ _ (Ok x) e) [
        | inl way ↦
            let a = bind_ok (phi_at names p) _ x way.1 in
            let b = bind_ok (phis_at names fuel a.0.1) _ x a.2 in
            let first = phi_read p a.0 stands a.1 in
            let others = phis_read fuel a.0.1 b.0 first.stands b.1 in
            let made : List Phi × Point = (a.0.0 ∷ b.0.0, b.0.1) in
            subst (ArePhis p) {x = made} (ok_is made x b.2) (Reads-then names total p a.0.1 b.0.1 (PhiItem a.0.0 ∷ []) (map PhiItem b.0.0) first others)
        | inr way ↦ subst (ArePhis p) (ok_is ([], p) x way.1) (Reads-none names total p p (Passes-refl names total p stands))
      ]

  -- ---- blocks

  jump_read : (p : Point) (x : Option Jump × Point) → Stands names total p.rest → jump_at p ≡ Ok x → Passes names total p x.1
  unfolding jump_at
  jump_read p x stands e =
      elim (chosen (is_word (codes "break") (here p)) _ _ (Ok x) e) [
        | inl way ↦ Passes-to names total p x.1 stands (ap (λ y. y.1) (ok_is (Some Break, next p) x way.1))
        | inr other ↦ elim (chosen (is_word (codes "continue") (here p)) _ _ (Ok x) other.1) [
          | inl way ↦ Passes-to names total p x.1 stands (ap (λ y. y.1) (ok_is (Some Continue, next p) x way.1))
          | inr way ↦ subst (Passes names total p) (ap (λ (y : Option Jump × Point). y.1) (ok_is (None, p) x way.1)) (Passes-refl names total p stands)
        ]
      ]

  jump_items : (p q : Point) (jump : Option Jump) → Passes names total p q → Reads names total p q (map JumpItem (option_to_list jump))
  jump_items p q None passes = Reads-none names total p q passes
  jump_items p q (Some jump) passes = Reads-one names total p q (JumpItem jump) (record {
    values = Counts-none p.counts.values q.counts.values (ap (λ c. c.values) passes.counts);
    few = AreFew-kept p q (ap (λ c. c.values) passes.counts);
    blocks = Counts-none p.counts.blocks q.counts.blocks (ap (λ c. c.blocks) passes.counts);
    effects = Counts-none p.counts.effects q.counts.effects (ap (λ c. c.effects) passes.counts);
    ifs = Counts-none p.counts.ifs q.counts.ifs (ap (λ c. c.ifs) passes.counts);
    loops = Counts-none p.counts.loops q.counts.loops (ap (λ c. c.loops) passes.counts);
    used = tt;
    named = tt;
    shaped = tt;
    shorter = passes.shorter;
    stands = passes.stands;
  })

  head_item : (p q : Point) (id : BlockId) → id.0 ≡ p.counts.blocks → Takes p q (one_block p.counts) → Reads names total p q (BlockHead id ∷ [])
  head_item p q id same takes = Reads-one names total p q (BlockHead id) (record {
    values = Counts-none p.counts.values q.counts.values (ap (λ c. c.values) takes.counts);
    few = takes.few;
    blocks = subst (λ (n : ℕ). Counts p.counts.blocks q.counts.blocks (n ∷ [])) (sym same) (Counts-one p.counts.blocks q.counts.blocks (ap (λ c. c.blocks) takes.counts));
    effects = Counts-none p.counts.effects q.counts.effects (ap (λ c. c.effects) takes.counts);
    ifs = Counts-none p.counts.ifs q.counts.ifs (ap (λ c. c.ifs) takes.counts);
    loops = Counts-none p.counts.loops q.counts.loops (ap (λ c. c.loops) takes.counts);
    used = tt;
    named = tt;
    shaped = tt;
    shorter = takes.shorter;
    stands = takes.stands;
  })

  pub block_read : AllByRecursion IsCount names.counts → (p : Point) (x : block.Block × Point) → Stands names total p.rest → block_at names p ≡ Ok x → Reads names total p x.1 (block_items x.0)
  unfolding block_at
  block_read counted p x stands e =
      let a = bind_ok (block_defined_at names p) _ x e in
      let b = bind_ok (mark_at 123 a.0.1) _ x a.2 in
      let c = bind_ok (phis_at names (length b.0.rest) b.0) _ x b.2 in
      let d = bind_ok (instrs_at names (length c.0.1.rest) c.0.1) _ x c.2 in
      let f = bind_ok (jump_at d.0.1) _ x d.2 in
      let made : Point → block.Block × Point = λ close. (record { id = a.0.0; phis = c.0.0; instrs = d.0.0; jump = f.0.0 }, close) in
      let g = bind_ok (mark_at 125 f.0.1) (λ close. Ok (made close)) x f.2 in
      let id = block_defined p a.0 stands a.1 in
      let begun = mark_passes names total 123 a.0.1 b.0 id.1.stands b.1 in
      let head = head_item p b.0 a.0.0 id.0 (Takes-then p a.0.1 b.0 (one_block p.counts) id.1 begun) in
      let phis = phis_read (length b.0.rest) b.0 c.0 begun.stands c.1 in
      let instrs = instrs_read counted (length c.0.1.rest) c.0.1 d.0 phis.stands d.1 in
      let jump = jump_read d.0.1 f.0 instrs.stands f.1 in
      let close = mark_passes names total 125 f.0.1 g.0 jump.stands g.1 in
      let jumps = jump_items d.0.1 g.0 f.0.0 (Passes-then names total d.0.1 f.0.1 g.0 jump close) in
      let with_phis = Reads-then names total p b.0 c.0.1 (BlockHead a.0.0 ∷ []) (map PhiItem c.0.0) head phis in
      let with_instrs = Reads-then names total p c.0.1 d.0.1 (BlockHead a.0.0 ∷ map PhiItem c.0.0) (map InstrItem d.0.0) with_phis instrs in
      let whole = Reads-then names total p d.0.1 g.0 (BlockHead a.0.0 ∷ map PhiItem c.0.0 ++ map InstrItem d.0.0) (map JumpItem (option_to_list f.0.0)) with_instrs jumps in
      subst (λ (y : block.Block × Point). Reads names total p y.1 (block_items y.0)) {x = made g.0} (ok_is (made g.0) x g.2) whole

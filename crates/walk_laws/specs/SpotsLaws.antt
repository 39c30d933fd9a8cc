-- The first round by parts: where nothing is told of an item, jumps stand in loops and items fit, and the other way round.
use Rattle.std.specs.Prelude.{◌≡◌, ◌⊎◌, refl, Bool, true, List, [], ◌∷◌, ◌++◌, map, Option, Some, None}
use Rattle.std.specs.List.{AllByRecursion}
use Rattle.std.specs.Option.{option_to_list}
use Rattle.std.proofs.Common.{sym, subst, inl, inr}
use Rattle.nir_ir.specs.declared.instr.Instr.{Instr}
use Rattle.nir_ir.specs.declared.node.Block.{Block}
use Rattle.nir_ir.specs.declared.node.Jump.{Jump}
use Rattle.nir_ir.specs.declared.node.Phi.{Phi}
use Rattle.nir_ir.specs.declared.node.PhiSource.{PhiSource}
use Rattle.nir_ir.specs.Definitions.{kind_at}
use Rattle.nir_ir.specs.Items.{Item, BlockHead, PhiItem, InstrItem, JumpItem, block_items}
use Rattle.nir_ir.specs.Nodes.{Nodes, Nil, BlockThen, IfThen, LoopThen}
use Rattle.nir_ir.specs.Shader.{Shader}
use Rattle.nir_validate.specs.Fitting.{each_holds, kept_from_fits, kind-has_kind}
use Rattle.nir_validate.specs.Rules.{condition_kind, has_kind, Spot, spots}
use Rattle.nir_validate.specs.Typed.{BlockFits, InstrFits, NodesFit, PhiFits}
use Rattle.list_laws.specs.AllLaws.{all_append, all_back, all_front}
use Rattle.nir_validate.specs.TypedLaws.{SpotKept, spots_of, spots_of-append}
use Rattle.nir_validate.specs.Alternates.{JumpsIn}
use Rattle.nir_validate.specs.Fitting.{each, fits_from_kept, has_kind-true}

abbrev pub Keeps : Shader → Spot → Type 0
Keeps s spot = SpotKept (kind_at s.body) s spot

-- jumps stand in loops
jump-from : (s : Shader) (in_loop : Bool) (jump : Option Jump) → AllByRecursion (Keeps s) (spots_of in_loop (map JumpItem (option_to_list jump))) → (in_loop ≡ true) ⊎ (jump ≡ None)
jump-from s in_loop None kept = inr refl
jump-from s in_loop (Some jump) kept = inl kept.0.stands

block-from : (s : Shader) (in_loop : Bool) (b : Block) → AllByRecursion (Keeps s) (spots_of in_loop (block_items b)) → (in_loop ≡ true) ⊎ (b.jump ≡ None)
block-from s in_loop b kept =
    let front : List Item = BlockHead b.id ∷ map PhiItem b.phis ++ map InstrItem b.instrs in
    let jumps : List Item = map JumpItem (option_to_list b.jump) in
    jump-from s in_loop b.jump (all_back (Keeps s) (spots_of in_loop front) (spots_of in_loop jumps) (subst (AllByRecursion (Keeps s)) (spots_of-append in_loop front jumps) kept))

pub jumps-from : (s : Shader) (in_loop : Bool) (nodes : Nodes) → AllByRecursion (Keeps s) (spots in_loop nodes) → JumpsIn in_loop nodes
jumps-from s in_loop Nil kept = tt
jumps-from s in_loop (BlockThen b rest) kept = (
  block-from s in_loop b (all_front (Keeps s) (spots_of in_loop (block_items b)) (spots in_loop rest) kept),
  jumps-from s in_loop rest (all_back (Keeps s) (spots_of in_loop (block_items b)) (spots in_loop rest) kept),
)
jumps-from s in_loop (IfThen id condition first second rest) kept =
    let one : List Spot = spots in_loop first in
    let two : List Spot = spots in_loop second in
    let front = all_front (Keeps s) (one ++ two) (spots in_loop rest) kept.1 in (
      jumps-from s in_loop first (all_front (Keeps s) one two front),
      jumps-from s in_loop second (all_back (Keeps s) one two front),
      jumps-from s in_loop rest (all_back (Keeps s) (one ++ two) (spots in_loop rest) kept.1),
    )
jumps-from s in_loop (LoopThen id body rest) kept = (
  jumps-from s true body (all_front (Keeps s) (spots true body) (spots in_loop rest) kept.1),
  jumps-from s in_loop rest (all_back (Keeps s) (spots true body) (spots in_loop rest) kept.1),
)

-- and the other way round
phis_keep : (s : Shader) (in_loop : Bool) (phis : List Phi) → AllByRecursion (PhiFits (kind_at s.body)) phis → AllByRecursion (Keeps s) (spots_of in_loop (map PhiItem phis))
phis_keep s in_loop [] fits = tt
phis_keep s in_loop (phi ∷ phis) fits = (
  record {
    kinds_fit = each_holds (λ (source : PhiSource). has_kind (kind_at s.body) source.value phi.kind) (λ source. kind_at s.body source.value ≡ Some phi.kind)
        (λ source. kind-has_kind (kind_at s.body) source.value phi.kind) phi.sources fits.0;
    declared = refl;
    stands = refl;
    names = refl;
    condition = refl;
  },
  phis_keep s in_loop phis fits.1,
)

instrs_keep : (s : Shader) (in_loop : Bool) (instrs : List Instr) → AllByRecursion (InstrFits s) instrs → AllByRecursion (Keeps s) (spots_of in_loop (map InstrItem instrs))
instrs_keep s in_loop [] fits = tt
instrs_keep s in_loop (instr ∷ instrs) fits =
    let kept = kept_from_fits (kind_at s.body) s instr fits.0 in
    (record { kinds_fit = kept.kinds_fit; declared = kept.declared; stands = refl; names = kept.names; condition = refl }, instrs_keep s in_loop instrs fits.1)

jump_keeps : (s : Shader) (in_loop : Bool) (jump : Option Jump) → (in_loop ≡ true) ⊎ (jump ≡ None) → AllByRecursion (Keeps s) (spots_of in_loop (map JumpItem (option_to_list jump)))
jump_keeps s in_loop None may = tt
jump_keeps s in_loop (Some jump) (inl is) = (record { kinds_fit = refl; declared = refl; stands = is; names = refl; condition = refl }, tt)
jump_keeps s in_loop (Some jump) (inr is) = absurd (cc)

block_keeps : (s : Shader) (in_loop : Bool) (b : Block) → BlockFits s b → (in_loop ≡ true) ⊎ (b.jump ≡ None) → AllByRecursion (Keeps s) (spots_of in_loop (block_items b))
block_keeps s in_loop b fits may =
    let phis : List Item = map PhiItem b.phis in
    let instrs : List Item = map InstrItem b.instrs in
    let jumps : List Item = map JumpItem (option_to_list b.jump) in
    let inner : AllByRecursion (Keeps s) (spots_of in_loop (phis ++ instrs)) =
    subst (AllByRecursion (Keeps s)) (sym (spots_of-append in_loop phis instrs)) (all_append (Keeps s) (spots_of in_loop phis) (spots_of in_loop instrs) (phis_keep s in_loop b.phis fits.0) (instrs_keep s in_loop b.instrs fits.1)) in (
      record { kinds_fit = refl; declared = refl; stands = refl; names = refl; condition = refl },
      subst (AllByRecursion (Keeps s)) (sym (spots_of-append in_loop (phis ++ instrs) jumps)) (all_append (Keeps s) (spots_of in_loop (phis ++ instrs)) (spots_of in_loop jumps) inner (jump_keeps s in_loop b.jump may)),
    )

pub spots_keep : (s : Shader) (in_loop : Bool) (nodes : Nodes) → NodesFit s nodes → JumpsIn in_loop nodes → AllByRecursion (Keeps s) (spots in_loop nodes)
spots_keep s in_loop Nil fits jumps = tt
spots_keep s in_loop (BlockThen b rest) fits jumps =
    all_append (Keeps s) (spots_of in_loop (block_items b)) (spots in_loop rest) (block_keeps s in_loop b fits.0 jumps.0) (spots_keep s in_loop rest fits.1 jumps.1)
spots_keep s in_loop (IfThen id condition first second rest) fits jumps = (
  record { kinds_fit = refl; declared = refl; stands = refl; names = refl; condition = kind-has_kind (kind_at s.body) condition condition_kind fits.0 },
  all_append (Keeps s) (spots in_loop first ++ spots in_loop second) (spots in_loop rest)
      (all_append (Keeps s) (spots in_loop first) (spots in_loop second) (spots_keep s in_loop first fits.1 jumps.0) (spots_keep s in_loop second fits.2 jumps.1))
      (spots_keep s in_loop rest fits.3 jumps.2),
)
spots_keep s in_loop (LoopThen id body rest) fits jumps = (
  record { kinds_fit = refl; declared = refl; stands = refl; names = refl; condition = refl },
  all_append (Keeps s) (spots true body) (spots in_loop rest) (spots_keep s true body fits.0 jumps.0) (spots_keep s in_loop rest fits.1 jumps.1),
)

-- items fit, from spots and with no list of items between
phis_fit : (s : Shader) (in_loop : Bool) (phis : List Phi) → AllByRecursion (Keeps s) (spots_of in_loop (map PhiItem phis)) → AllByRecursion (PhiFits (kind_at s.body)) phis
phis_fit s in_loop [] kept = tt
phis_fit s in_loop (phi ∷ phis) kept = (
  each (λ (source : PhiSource). has_kind (kind_at s.body) source.value phi.kind) (λ source. kind_at s.body source.value ≡ Some phi.kind)
      (λ source. has_kind-true (kind_at s.body) source.value phi.kind (kind_at s.body source.value) refl) phi.sources kept.0.kinds_fit,
  phis_fit s in_loop phis kept.1,
)

instrs_fit : (s : Shader) (in_loop : Bool) (instrs : List Instr) → AllByRecursion (Keeps s) (spots_of in_loop (map InstrItem instrs)) → AllByRecursion (InstrFits s) instrs
instrs_fit s in_loop [] kept = tt
instrs_fit s in_loop (instr ∷ instrs) kept =
    (fits_from_kept (kind_at s.body) s instr (record { kinds_fit = kept.0.kinds_fit; declared = kept.0.declared; names = kept.0.names }), instrs_fit s in_loop instrs kept.1)

block_fits : (s : Shader) (in_loop : Bool) (b : Block) → AllByRecursion (Keeps s) (spots_of in_loop (block_items b)) → BlockFits s b
block_fits s in_loop b kept =
    let phis : List Item = map PhiItem b.phis in
    let instrs : List Item = map InstrItem b.instrs in
    let jumps : List Item = map JumpItem (option_to_list b.jump) in
    let front = all_front (Keeps s) (spots_of in_loop (phis ++ instrs)) (spots_of in_loop jumps) (subst (AllByRecursion (Keeps s)) (spots_of-append in_loop (phis ++ instrs) jumps) kept.1) in
    let both = subst (AllByRecursion (Keeps s)) (spots_of-append in_loop phis instrs) front in (
      phis_fit s in_loop b.phis (all_front (Keeps s) (spots_of in_loop phis) (spots_of in_loop instrs) both),
      instrs_fit s in_loop b.instrs (all_back (Keeps s) (spots_of in_loop phis) (spots_of in_loop instrs) both),
    )

pub spots_fit : (s : Shader) (in_loop : Bool) (nodes : Nodes) → AllByRecursion (Keeps s) (spots in_loop nodes) → NodesFit s nodes
spots_fit s in_loop Nil kept = tt
spots_fit s in_loop (BlockThen b rest) kept = (
  block_fits s in_loop b (all_front (Keeps s) (spots_of in_loop (block_items b)) (spots in_loop rest) kept),
  spots_fit s in_loop rest (all_back (Keeps s) (spots_of in_loop (block_items b)) (spots in_loop rest) kept),
)
spots_fit s in_loop (IfThen id condition first second rest) kept =
    let one : List Spot = spots in_loop first in
    let two : List Spot = spots in_loop second in
    let front = all_front (Keeps s) (one ++ two) (spots in_loop rest) kept.1 in (
      has_kind-true (kind_at s.body) condition condition_kind (kind_at s.body condition) refl kept.0.condition,
      spots_fit s in_loop first (all_front (Keeps s) one two front),
      spots_fit s in_loop second (all_back (Keeps s) one two front),
      spots_fit s in_loop rest (all_back (Keeps s) (one ++ two) (spots in_loop rest) kept.1),
    )
spots_fit s in_loop (LoopThen id body rest) kept = (
  spots_fit s true body (all_front (Keeps s) (spots true body) (spots in_loop rest) kept.1),
  spots_fit s in_loop rest (all_back (Keeps s) (spots true body) (spots in_loop rest) kept.1),
)

-- A shader in text order means what the shader means: its run is the shader's run under other numbers.
use Rattle.std.specs.Prelude.{◌≡◌, refl, ℕ, nat_eq, List, [], ◌∷◌, ◌++◌, map, Some, None, slice_index}
use Rattle.std.specs.List.{AllByRecursion}
use Rattle.std.specs.Option.{option_map, option_map_or, option_to_list}
use Rattle.std.proofs.Common.{sym, ap, subst}
use Rattle.nir_ir.specs.declared.ids.BlockId.{BlockId}
use Rattle.nir_ir.specs.declared.ids.ValueId.{ValueId}
use Rattle.nir_ir.specs.declared.instr.Instr.{Instr}
use Rattle.nir_ir.specs.declared.node.Block.{Block}
use Rattle.nir_ir.specs.declared.node.Phi.{Phi}
use Rattle.nir_ir.specs.Items.{Item, PhiItem, InstrItem, JumpItem, block_items, blocks_defined, blocks_of, defines, items, names_blocks, uses, values_defined}
use Rattle.nir_ir.specs.Nodes.{Nodes, Nil, BlockThen, IfThen, LoopThen}
use Rattle.nir_ir.specs.Shader.{Shader}
use Rattle.nir_ir.specs.Shaped.{IsOneOf, IsShaped}
use Rattle.nir_mean.specs.Outcome.{outcome, setting, start}
use Rattle.nir_mean.specs.Renamed.{SameExit, SamePart, SameState, after_fall-same, jump_exit-same, outcome_of-same, run_choice-same, turns-same}
use Rattle.nir_mean.specs.Run.{Setting, run_block, run_choice, run_instrs, run_list, run_phis, scalar, turns}
use Rattle.nir_mean.specs.State.{zeros}
use Rattle.list_laws.specs.AllLaws.{all_back, all_front, all_of_map, given_by_each}
use Rattle.nir_print.specs.Renumber.{Numbers, new_block, new_block_node, new_instr, new_nodes, new_phi, new_value, numbers_of, renumber}
use Rattle.list_laws.specs.AllLaws.{all_each}
use Rattle.print_meaning.specs.RenumberedLaws.{RenumberedIsSame}
use Rattle.print_meaning.proofs.Places.{all_members, kind_at-renumbered}
use Rattle.print_meaning.proofs.Steps.{InstrNamed, PhiNamed, SameSetting, by_places, run_instrs-renumbered, run_phis-renumbered}

-- ---- what stands in the body is named

-- what an item defines, uses, is and names
pub record ItemNamed (numbers : Numbers) (item : Item) : Type 0 where
  pub defined : AllByRecursion (IsOneOf numbers.naming.values) (map (λ id. id.0) (defines item))
  pub used : AllByRecursion (IsOneOf numbers.naming.values) (map (λ id. id.0) (uses item))
  pub head : AllByRecursion (IsOneOf numbers.naming.blocks) (map (λ id. id.0) (blocks_of item))
  pub from : AllByRecursion (IsOneOf numbers.naming.blocks) (map (λ id. id.0) (names_blocks item))

abbrev ListNamed : Numbers → List Item → Type 0
ListNamed numbers list = AllByRecursion (ItemNamed numbers) list

body_named : (s : Shader) → IsShaped s → ListNamed (numbers_of s.body) (items s.body)
body_named s shaped =
    let values : List ℕ = values_defined s.body in
    let blocks : List ℕ = blocks_defined s.body in
    all_each (λ item. AllByRecursion (IsOneOf values) (map (λ id. id.0) (defines item)) × AllByRecursion (IsOneOf values) (map (λ id. id.0) (uses item))
    × AllByRecursion (IsOneOf blocks) (map (λ id. id.0) (blocks_of item)) × AllByRecursion (IsOneOf blocks) (map (λ id. id.0) (names_blocks item)))
    (ItemNamed (numbers_of s.body))
    (λ item parts. record { defined = parts.0; used = parts.1; head = parts.2; from = parts.3 })
    (items s.body)
    (four (λ item. AllByRecursion (IsOneOf values) (map (λ id. id.0) (defines item)))
    (λ item. AllByRecursion (IsOneOf values) (map (λ id. id.0) (uses item)))
    (λ item. AllByRecursion (IsOneOf blocks) (map (λ id. id.0) (blocks_of item)))
    (λ item. AllByRecursion (IsOneOf blocks) (map (λ id. id.0) (names_blocks item)))
    (items s.body)
    (given_by_each (IsOneOf values) (λ item. map (λ id. id.0) (defines item)) (items s.body) (all_members values))
    (given_by_each (IsOneOf values) (λ item. map (λ id. id.0) (uses item)) (items s.body) shaped.uses)
    (given_by_each (IsOneOf blocks) (λ item. map (λ id. id.0) (blocks_of item)) (items s.body) (all_members blocks))
    (given_by_each (IsOneOf blocks) (λ item. map (λ id. id.0) (names_blocks item)) (items s.body) shaped.names))
  where
    four : (P Q R S : Item → Type 0) (list : List Item) → AllByRecursion P list → AllByRecursion Q list → AllByRecursion R list → AllByRecursion S list
        → AllByRecursion (λ item. P item × Q item × R item × S item) list
    four P Q R S [] p q r s = tt
    four P Q R S (item ∷ list) p q r s = ((p.0, q.0, r.0, s.0), four P Q R S list p.1 q.1 r.1 s.1)

-- ---- blocks

phis_named : (numbers : Numbers) (phis : List Phi) → ListNamed numbers (map PhiItem phis) → AllByRecursion (PhiNamed numbers) phis
phis_named numbers phis all =
    all_each (λ phi. ItemNamed numbers (PhiItem phi)) (PhiNamed numbers)
    (λ phi named. record {
      defined = named.defined.0;
      read = all_of_map (λ source. source.value) (λ (id : ValueId). IsOneOf numbers.naming.values id.0) phi.sources (all_of_map (λ id. id.0) (IsOneOf numbers.naming.values) (map (λ source. source.value) phi.sources) named.used);
      blocks = all_of_map (λ source. source.from) (λ (id : BlockId). IsOneOf numbers.naming.blocks id.0) phi.sources (all_of_map (λ id. id.0) (IsOneOf numbers.naming.blocks) (map (λ source. source.from) phi.sources) named.from);
    })
    phis (all_of_map PhiItem (ItemNamed numbers) phis all)

instrs_named : (numbers : Numbers) (instrs : List Instr) → ListNamed numbers (map InstrItem instrs) → AllByRecursion (InstrNamed numbers) instrs
instrs_named numbers instrs all =
    all_each (λ instr. ItemNamed numbers (InstrItem instr)) (InstrNamed numbers)
    (λ instr named. record { defined = named.defined; read = named.used })
    instrs (all_of_map InstrItem (ItemNamed numbers) instrs all)

block-same : (numbers : Numbers) (s t : Setting) (b : Block) → SameSetting numbers s t → ListNamed numbers (block_items b)
    → SamePart (by_places numbers) (run_block s b) (run_block t (new_block_node numbers b))
block-same numbers s t b same_setting all last f g named same =
    jump_exit-same (by_places numbers) b.jump (Some b.id)
    (run_instrs s b.instrs (record f { values = run_phis last b.phis f.values }))
    (run_instrs t (map (new_instr numbers) b.instrs) (record g { values = run_phis (option_map (new_block numbers) last) (map (new_phi numbers) b.phis) g.values }))
    all.0.head.0
    (run_instrs-renumbered numbers s t b.instrs
    (record f { values = run_phis last b.phis f.values })
    (record g { values = run_phis (option_map (new_block numbers) last) (map (new_phi numbers) b.phis) g.values })
    (instrs_named numbers b.instrs (all_back (ItemNamed numbers) (map PhiItem b.phis) (map InstrItem b.instrs) front))
    same_setting
    (record {
      values = run_phis-renumbered numbers last b.phis f.values g.values named (phis_named numbers b.phis (all_front (ItemNamed numbers) (map PhiItem b.phis) (map InstrItem b.instrs) front)) same.values;
      world = same.world;
    }))
  where
    front : ListNamed numbers (map PhiItem b.phis ++ map InstrItem b.instrs)
    front = all_front (ItemNamed numbers) (map PhiItem b.phis ++ map InstrItem b.instrs) (map JumpItem (option_to_list b.jump)) all.1

-- ---- lists

pub follows : (numbers : Numbers) (s t : Setting) → SameSetting numbers s t → (nodes : Nodes) → ListNamed numbers (items nodes)
    → SamePart (by_places numbers) (run_list s nodes) (run_list t (new_nodes numbers nodes))
follows numbers s t same_setting Nil all last f g named same = record { state = g; is = refl; same = same; named = named }
follows numbers s t same_setting (BlockThen b rest) all last f g named same =
    after_fall-same (by_places numbers) (run_block s b last f) (run_block t (new_block_node numbers b) (option_map (new_block numbers) last) g)
    (run_list s rest) (run_list t (new_nodes numbers rest))
    (block-same numbers s t b same_setting (all_front (ItemNamed numbers) (block_items b) (items rest) all) last f g named same)
    (follows numbers s t same_setting rest (all_back (ItemNamed numbers) (block_items b) (items rest) all))
follows numbers s t same_setting (IfThen id cond first second rest) all last f g named same =
    let both = all_front (ItemNamed numbers) (items first ++ items second) (items rest) all.1 in
    let tells : nat_eq (scalar g.values (new_value numbers cond)) 1 ≡ nat_eq (scalar f.values cond) 1 = ap (λ comps. nat_eq (slice_index comps 0) 1) (same.values cond.0 all.0.used.0) in
    after_fall-same (by_places numbers)
    (run_choice (nat_eq (scalar f.values cond) 1) (run_list s first) (run_list s second) last f)
    (run_choice (nat_eq (scalar g.values (new_value numbers cond)) 1) (run_list t (new_nodes numbers first)) (run_list t (new_nodes numbers second)) (option_map (new_block numbers) last) g)
    (run_list s rest) (run_list t (new_nodes numbers rest))
    (run_choice-same (by_places numbers) (nat_eq (scalar f.values cond) 1) (nat_eq (scalar g.values (new_value numbers cond)) 1)
    (run_list s first) (run_list s second) (run_list t (new_nodes numbers first)) (run_list t (new_nodes numbers second)) tells
    (follows numbers s t same_setting first (all_front (ItemNamed numbers) (items first) (items second) both))
    (follows numbers s t same_setting second (all_back (ItemNamed numbers) (items first) (items second) both))
    last f g named same)
    (follows numbers s t same_setting rest (all_back (ItemNamed numbers) (items first ++ items second) (items rest) all.1))
follows numbers s t same_setting (LoopThen id body rest) all last f g named same =
    after_fall-same (by_places numbers) (turns s.repeats (run_list s body) last f) (turns t.repeats (run_list t (new_nodes numbers body)) (option_map (new_block numbers) last) g)
    (run_list s rest) (run_list t (new_nodes numbers rest))
    (subst (λ (n : ℕ). SameExit (by_places numbers) (turns s.repeats (run_list s body) last f) (turns n (run_list t (new_nodes numbers body)) (option_map (new_block numbers) last) g)) (sym same_setting.turns)
    (turns-same (by_places numbers) s.repeats (run_list s body) (run_list t (new_nodes numbers body))
    (follows numbers s t same_setting body (all_front (ItemNamed numbers) (items body) (items rest) all.1)) last f g named same))
    (follows numbers s t same_setting rest (all_back (ItemNamed numbers) (items body) (items rest) all.1))

-- ---- shaders

same_start : (s : Shader) (buffers : List (List ℕ)) → SameState (by_places (numbers_of s.body)) (start s buffers) (start (renumber s) buffers)
same_start s buffers = record {
  values = λ n is. ap (λ found. option_map_or zeros found []) (kind_at-renumbered s.body (record { 0 = n }) is);
  world = refl;
}

same_settings : (s : Shader) (inputs : List (List ℕ)) (repeats : ℕ) → SameSetting (numbers_of s.body) (setting s inputs repeats) (setting (renumber s) inputs repeats)
same_settings s inputs repeats = record { kinds = kind_at-renumbered s.body; given = refl; turns = refl }

same_outcomes : (s : Shader) → IsShaped s → (inputs buffers : List (List ℕ)) (repeats : ℕ) → outcome s inputs buffers repeats ≡ outcome (renumber s) inputs buffers repeats
unfolding outcome
same_outcomes s shaped inputs buffers repeats =
    outcome_of-same (by_places (numbers_of s.body))
    (run_list (setting s inputs repeats) s.body None (start s buffers))
    (run_list (setting (renumber s) inputs repeats) (renumber s).body None (start (renumber s) buffers))
    (follows (numbers_of s.body) (setting s inputs repeats) (setting (renumber s) inputs repeats) (same_settings s inputs repeats) s.body (body_named s shaped)
    None (start s buffers) (start (renumber s) buffers) tt (same_start s buffers))

pub renumbered_is_same : RenumberedIsSame
renumbered_is_same s shaped = record {
  inputs = refl;
  outputs = refl;
  buffers = refl;
  outcomes = λ inputs buffers repeats given bytes. same_outcomes s shaped inputs buffers repeats;
}

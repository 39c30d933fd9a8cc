-- The index of a shader: by each value's number what defines it and how often it is used, as the definitions and the use lists of an SSA form tell it.
use Rattle.std.specs.Prelude.{◌≡◌, ℕ, ◌+◌, ◌-◌, suc, List, [], ◌∷◌, ◌++◌, length, Option, None, replicate, slice_get, slice_index, count_by}
use Rattle.std.specs.List.{find, flat_map}
use Rattle.std.specs.Option.{option_and_then, option_map, option_or, option_to_list}
use Rattle.nir_ir.specs.declared.ids.ValueId.{ValueId}
use Rattle.nir_ir.specs.declared.instr.Instr.{Instr}
use Rattle.nir_ir.specs.declared.kind.Kind.{Kind}
use Rattle.nir_ir.specs.Definitions.{instr_defining, instr_of, is_phi_of, is_target, phi_defining, phi_of}
use Rattle.nir_ir.specs.Items.{Item, reads, uses}
use Rattle.nir_ir.specs.Nodes.{Nodes}
use Rattle.nir_ir.specs.Uses.{is_value, use_count}
use Rattle.nir_index.specs.declared.index.Definer.{Definer}
use Rattle.nir_index.specs.declared.index.Index.{Index}

-- the instruction, and the kind of the phi, that is known to define the value
abbrev pub known_instr : List Definer → ValueId → Option Instr
known_instr definers value = option_and_then (λ definer. definer.instr) (slice_get definers value.0)

abbrev pub known_phi : List Definer → ValueId → Option Kind
known_phi definers value = option_and_then (λ definer. definer.phi) (slice_get definers value.0)

-- what the index says of each value is so: the instruction and the kind of the phi that defines it, and the number of its uses
pub record IsIndex (body : Nodes) (index : Index) : Type 0 where
  pub instrs : (value : ValueId) → known_instr index.definers value ≡ instr_defining value body
  pub phis : (value : ValueId) → known_phi index.definers value ≡ option_map (λ phi. phi.kind) (phi_defining value body)
  pub counts : (value : ValueId) → slice_index index.counts value.0 ≡ use_count value body

-- ---- an index while it is made: of all values at once, place by place

abbrev pub numbered : ℕ → ValueId
numbered n = record { 0 = n }

-- each item of a list, changed as its place says, where the first has this place
abbrev pub by_place : {A : Type 0} → (ℕ → A → A) → ℕ → List A → List A
by_place change at [] = []
by_place change at (a ∷ list) = change at a ∷ by_place change (suc at) list

-- what is known to define a value, else the first of the items that does
abbrev pub known_or : List Item → ValueId → Definer → Definer
known_or list value known = record {
  instr = option_or known.instr (find (is_target value) (flat_map instr_of list));
  phi = option_or known.phi (option_map (λ phi. phi.kind) (find (is_phi_of value) (flat_map phi_of list)));
}

abbrev pub told : List Item → List Definer → List Definer
told list definers = by_place (λ n known. known_or list (numbered n) known) 0 definers

-- the counts with these uses added
abbrev pub counted : List ValueId → List ℕ → List ℕ
counted used counts = by_place (λ n count. count + count_by (is_value (numbered n)) used) 0 counts

-- the index with what these items define and use
abbrev pub noted : List Item → Index → Index
noted list index = record { definers = told list index.definers; counts = counted (flat_map uses list) index.counts }

-- nothing is defined or used
abbrev pub blank : ℕ → Index
blank count = record { definers = replicate count (record { instr = None; phi = None }); counts = replicate count 0 }

-- ---- an index where instructions take the place of one

-- nothing is known of a value
abbrev pub unknown : Definer
unknown = record { instr = None; phi = None }

abbrev pub lengthened : ℕ → List Definer → List Definer
lengthened values definers = definers ++ replicate (values - length definers) unknown

-- some values more, of which nothing is known
abbrev pub IsLengthened : List Definer → List Definer → Type 0
IsLengthened before after = (more : ℕ) × (after ≡ before ++ replicate more unknown)

pub record IsLonger (before after : Index) : Type 0 where
  pub definers : IsLengthened before.definers after.definers
  pub counts : after.counts ≡ before.counts

-- the counts without these uses
abbrev pub uncounted : List ValueId → List ℕ → List ℕ
uncounted used counts = by_place (λ n count. count - count_by (is_value (numbered n)) used) 0 counts

-- the first of the new instructions that defines the value, else what is known
abbrev pub newly : List Instr → ValueId → Definer → Definer
newly news value known = record { instr = option_or (find (is_target value) news) known.instr; phi = known.phi }

abbrev pub exchanged : List Instr → List Definer → List Definer
exchanged news definers = by_place (λ n known. newly news (numbered n) known) 0 definers

-- the index where these instructions came to the place of the one that defines the value, and so many values are numbered
abbrev pub exchange_of : Index → ValueId → List Instr → ℕ → Index
exchange_of index value news values = record {
  definers = exchanged news (lengthened values index.definers);
  counts = uncounted (flat_map reads (option_to_list (known_instr index.definers value)))
      (counted (flat_map reads news) (index.counts ++ replicate (values - length index.counts) 0));
}

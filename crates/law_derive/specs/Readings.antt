-- A law read at a term in parts: the size at which it is read with what its letters stand for there, and the expressions that are bound to letters.
use Rattle.std.specs.Prelude.{ℕ, Bool, true, false, ◌&&◌, List, [], ◌∷◌, ◌++◌, Option, Some, None, Result, Err, is_none, if◌then◌else◌}
use Rattle.std.specs.Option.{option_map}
use Rattle.nir_ops.specs.declared.width.Width.{Width}
use Rattle.op_eval.specs.Calls.{same_width}
use Rattle.rule_term.specs.Terms.{Terms}
use Rattle.rule_spelling.specs.Files.{Binding}
use Rattle.law_derive.specs.declared.binding.Bound as code_bound
use Rattle.law_derive.specs.declared.law.LawNode.{LawNode}
use Rattle.law_derive.specs.declared.node.Node.{Node}
use Rattle.law_derive.specs.declared.reading.Reading as code_reading
use Rattle.law_derive.specs.Derivations.{Setting, StepFault, bound_others, complete, expr_nodes, from_at, has_letter, letter_named, letter_size}
use Rattle.law_derive.specs.declared.fault.StepFault.TheVariants.{NoMatch}
use Rattle.law_derive.specs.LawTable.{Law}
use Rattle.law_derive.specs.Matching.{Filling, found, match_side}
use Rattle.law_derive.specs.Views.{filling_says}

-- ---- the size

abbrev pub reading_says : Option code_reading.Reading → Option (Width × Filling)
reading_says reading = option_map (λ r. (r.width, filling_says r.filling.items)) reading

abbrev pub filled_at : Width → Option Filling → Option (Width × Filling)
filled_at width filling = option_map (λ f. (width, f)) filling

-- whether a side whose value has this size can match a term: the term has the size too
abbrev pub may_match : Width → List LawNode → List Node → Bool
may_match size [] nodes = true
may_match size (part ∷ side) [] = false
may_match size (part ∷ side) (node ∷ nodes) = same_width size node.width

-- a size, with what the letters stand for where the law matches at it
abbrev pub read_of : Law → Bool → List Node → Option Width → Option (Width × Filling)
read_of law rev term None = None
read_of law rev term (Some width) = filled_at width (match_side (from_at law rev width) term [])

-- ---- bound letters

abbrev pub bound_says : code_bound.Bound → ℕ × List Node
bound_says bound = (bound.letter, bound.nodes)

-- a letter and its expression
abbrev pub expr_of : Setting → Width → Option ℕ → Terms → Option (ℕ × List Node)
expr_of at width None terms = None
expr_of at width (Some letter) terms = option_map (λ nodes. (letter, nodes)) (expr_nodes at (Some (letter_size width letter)) terms)

abbrev pub before : Option (ℕ × List Node) → Option Filling → Option Filling
before None others = None
before (Some one) others = option_map (λ list. one ∷ list) others

-- the letters of all bindings and their expressions
abbrev pub exprs_of : Setting → Width → List Binding → Option Filling
exprs_of at width [] = Some []
exprs_of at width (binding ∷ bindings) = before (expr_of at width (letter_named binding.name) binding.with) (exprs_of at width bindings)

-- those before others
abbrev pub onto : Filling → Option Filling → Option Filling
onto front others = option_map (λ list. front ++ list) others

abbrev pub fill_one : Law → ℕ → List Node → Filling → Option Filling
fill_one law letter nodes filling = if has_letter law letter && is_none (found letter filling) then Some ((letter, nodes) ∷ filling) else None

-- those letters stand for their expressions, where the law has them and nothing stands for them yet
abbrev pub fill_all : Law → Filling → Filling → Option Filling
fill_all law [] filling = Some filling
fill_all law (one ∷ bounds) filling = bound_others (fill_one law one.0 one.1 filling) (fill_all law bounds)

abbrev pub fill_with : Law → Option Filling → Filling → Option Filling
fill_with law None filling = None
fill_with law (Some bounds) filling = fill_all law bounds filling

-- ---- the whole

abbrev pub made_of : Setting → Law → Bool → List Binding → Option (Width × Filling) → Result (List Node) StepFault
made_of at law rev bindings None = Err NoMatch
made_of at law rev bindings (Some reading) = complete at law rev reading.0 (fill_with law (exprs_of at reading.0 bindings) reading.1)

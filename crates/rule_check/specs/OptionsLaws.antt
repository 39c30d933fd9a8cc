-- What a derivation shows does not rest on the options of the rule: each part of a step is that of the rule without them.
use Rattle.std.specs.Prelude.{◌≡◌, refl, ℕ, suc, Bool, ◌&&◌, List, [], ◌∷◌, Option, Some, None, Result, Ok, Err, is_none, if◌then◌else◌}
use Rattle.std.specs.List.{find}
use Rattle.std.proofs.Common.{ap, drop, ◌∙◌}
use Rattle.nir_ops.specs.declared.width.Width.{Width}
use Rattle.rule_term.specs.declared.cond.Cond.{Cond}
use Rattle.rule_term.specs.Rule.{Rule}
use Rattle.rule_term.specs.Terms.{Terms}
use Rattle.rule_read.specs.Says.{rule_says}
use Rattle.rule_spelling.specs.Files.{Binding, Step, Apply, Calc}
use Rattle.law_derive.specs.declared.fault.DeriveFault.{DeriveFault}
use Rattle.law_derive.specs.declared.fault.StepFault.TheVariants.{NoMatch, CondMissing}
use Rattle.law_derive.specs.declared.node.Kind.{Kind}
use Rattle.law_derive.specs.declared.node.Kind.TheVariants.{App, Var, Lit}
use Rattle.law_derive.specs.declared.node.Node.{Node}
use Rattle.law_derive.specs.LawTable.{Law}
use Rattle.law_derive.specs.Matching.{Filling, filled, found, match_side}
use Rattle.law_derive.specs.Nodes.{first_term, place_at}
use Rattle.law_derive.specs.Derivations.{Setting, StepFault, among, are_filled, at_path, bound, bound_letter, bound_others, by_calc, by_law, calculated, complete, cond_met, derive_from, derived_on, derivation_fault, expr_nodes, from_at, from_side, has_letter, is_truth, kind_meets, law_numbered, law_sizes, law_step, letter_named, letter_size, matched, matches_at, met, put_at, read_at, size_of_binding, size_of_expr, size_read, step_made, term_meets, to_at, with_letter}
use Rattle.rule_check.specs.Accepted.{bare}

-- a rule without its options
abbrev pub plain : Rule → Rule
plain rule = bare (rule_says rule)

-- a letter binds alike, so do all
others_alike : (make other : Filling → Option Filling) → ((filling : Filling) → make filling ≡ other filling) → (filling : Option Filling) → bound_others filling make ≡ bound_others filling other
others_alike make other alike None = refl
others_alike make other alike (Some filling) = alike filling

path_alike : (make other : List Node → Result (List Node) StepFault) → ((term : List Node) → make term ≡ other term) → (nodes : List Node) (place : Option ℕ) → at_path nodes place make ≡ at_path nodes place other
path_alike make other alike nodes None = refl
path_alike make other alike nodes (Some place) = ap (put_at place nodes) (alike (first_term (drop place nodes)))

derived_alike : (k : ℕ) (make other : List Node → Option DeriveFault) → ((nodes : List Node) → make nodes ≡ other nodes) → (made : Result (List Node) StepFault) → derived_on k made make ≡ derived_on k made other
derived_alike k make other alike (Ok nodes) = alike nodes
derived_alike k make other alike (Err wrong) = refl

module _ (at : Setting) where
  abbrev bared : Setting
  bared = record { rule = plain at.rule; widths = at.widths }

  expr_alike : (size : Option Width) (terms : Terms) → expr_nodes bared size terms ≡ expr_nodes at size terms
  unfolding expr_nodes
  expr_alike size terms = refl

  binding_alike : (bindings : List Binding) → size_of_binding bared bindings ≡ size_of_binding at bindings
  binding_alike [] = refl
  binding_alike (binding ∷ []) = ap size_of_expr (expr_alike None binding.with)
  binding_alike (binding ∷ others ∷ more) = refl

  kind_alike : (cond : Cond) (width : Width) (kind : Kind) → kind_meets bared cond width kind ≡ kind_meets at cond width kind
  kind_alike cond width (Var var) = refl
  kind_alike cond width (Lit word) = refl
  kind_alike cond width (App op) = refl

  term_alike : (cond : Cond) (term : Option (List Node)) → term_meets bared cond term ≡ term_meets at cond term
  term_alike cond None = refl
  term_alike cond (Some []) = refl
  term_alike cond (Some (node ∷ nodes)) = kind_alike cond node.width node.kind

  cond_alike : (cond : Option Cond) (filling : Filling) → cond_met bared cond filling ≡ cond_met at cond filling
  cond_alike None filling = refl
  cond_alike (Some cond) filling = term_alike cond (found 4 filling)

  calc_alike : (terms : Terms) (term : List Node) → by_calc bared terms term ≡ by_calc at terms term
  calc_alike terms term = ap (calculated term) (expr_alike (size_of_expr (Some term)) terms)

  module _ (law : Law) (rev : Bool) where
    letter_alike : (width : Width) (letter : Option ℕ) (terms : Terms) (filling : Filling) → bound_letter bared law width letter terms filling ≡ bound_letter at law width letter terms filling
    letter_alike width None terms filling = refl
    letter_alike width (Some letter) terms filling =
        ap (λ e. if has_letter law letter && is_none (found letter filling) then with_letter letter e filling else None) (expr_alike (Some (letter_size width letter)) terms)

    bound_alike : (width : Width) (bindings : List Binding) (filling : Filling) → bound bared law width bindings filling ≡ bound at law width bindings filling
    bound_alike width [] filling = refl
    bound_alike width (binding ∷ bindings) filling =
        ap (λ f. bound_others f (bound bared law width bindings)) (letter_alike width (letter_named binding.name) binding.with filling)
        ∙ others_alike (bound bared law width bindings) (bound at law width bindings) (bound_alike width bindings) (bound_letter at law width (letter_named binding.name) binding.with filling)

    size_alike : (bindings : List Binding) (term : List Node) → size_read bared law rev bindings term ≡ size_read at law rev bindings term
    size_alike bindings term =
        ap (λ size. if is_truth (from_side law rev) then among (law_sizes law) size else find (matches_at law rev term) (law_sizes law)) (binding_alike bindings)

    met_alike : (width : Width) (filling : Filling) → met bared law rev width filling ≡ met at law rev width filling
    met_alike width filling = ap (λ c. if c then Ok (filled filling (to_at law rev width)) else Err CondMissing) (cond_alike law.cond filling)

    complete_alike : (width : Width) (filling : Option Filling) → complete bared law rev width filling ≡ complete at law rev width filling
    complete_alike width None = refl
    complete_alike width (Some filling) = ap (λ m. if are_filled filling (to_at law rev width) then m else Err NoMatch) (met_alike width filling)

    matched_alike : (bindings : List Binding) (width : Width) (filling : Option Filling) → matched bared law rev bindings width filling ≡ matched at law rev bindings width filling
    matched_alike bindings width None = refl
    matched_alike bindings width (Some filling) = ap (complete bared law rev width) (bound_alike width bindings filling) ∙ complete_alike width (bound at law width bindings filling)

    read_alike : (bindings : List Binding) (term : List Node) (width : Option Width) → read_at bared law rev bindings term width ≡ read_at at law rev bindings term width
    read_alike bindings term None = refl
    read_alike bindings term (Some width) = matched_alike bindings width (match_side (from_at law rev width) term [])

    law_alike : (bindings : List Binding) (term : List Node) → by_law bared law rev bindings term ≡ by_law at law rev bindings term
    law_alike bindings term = ap (read_at bared law rev bindings term) (size_alike bindings term) ∙ read_alike bindings term (size_read at law rev bindings term)

  numbered_alike : (law : Option Law) (path : List ℕ) (rev : Bool) (bindings : List Binding) (nodes : List Node) → law_step bared law path rev bindings nodes ≡ law_step at law path rev bindings nodes
  numbered_alike None path rev bindings nodes = refl
  numbered_alike (Some law) path rev bindings nodes =
      path_alike (by_law bared law rev bindings) (by_law at law rev bindings) (law_alike law rev bindings) nodes (place_at path nodes)

  step_alike : (step : Step) (nodes : List Node) → step_made bared step nodes ≡ step_made at step nodes
  unfolding step_made
  step_alike (Apply law path rev bindings) nodes = numbered_alike (law_numbered law) path rev bindings nodes
  step_alike (Calc path with) nodes = path_alike (by_calc bared with) (by_calc at with) (calc_alike with) nodes (place_at path nodes)

  derive_alike : (steps : List Step) (k : ℕ) (nodes : List Node) → derive_from bared k steps nodes ≡ derive_from at k steps nodes
  derive_alike [] k nodes = refl
  derive_alike (step ∷ steps) k nodes =
      ap (λ made. derived_on k made (derive_from bared (suc k) steps)) (step_alike step nodes)
      ∙ derived_alike k (derive_from bared (suc k) steps) (derive_from at (suc k) steps) (derive_alike steps (suc k)) (step_made at step nodes)

-- a derivation for a rule and for the rule without its options goes alike
pub derived_plainly : (rule : Rule) (widths : List Width) (steps : List Step)
    → derivation_fault (record { rule = plain rule; widths = widths }) steps ≡ derivation_fault (record { rule = rule; widths = widths }) steps
unfolding derivation_fault
derived_plainly rule widths steps = derive_alike (record { rule = rule; widths = widths }) steps 0 _

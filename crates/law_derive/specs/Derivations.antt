-- Derivations: what each step makes of a term, or why it does not apply, and what all steps show.
use Rattle.std.specs.Prelude.{◌≡◌, ℕ, zero, suc, Bool, true, false, not, ◌&&◌, ◌||◌, List, [], ◌∷◌, ◌++◌, take, drop, length, Option, Some, None, Result, Ok, Err, is_none, nat_eq, codes, slice_get, if◌then◌else◌}
use Rattle.std.specs.Cmp.Lexicographic.{pointwise}
use Rattle.std.specs.List.{find, list_all, list_any}
use Rattle.std.specs.Option.{option_map}
use Rattle.std.specs.Str.{bytes_eq}
use Rattle.std.proofs.Common.{filter}
use denote.Enum.Bare.{sameb}
use Rattle.nir_ops.specs.declared.width.Width.{Width}
use Rattle.nir_ops.specs.declared.width.Width.TheVariants.{W1, W8, W16, W32, W64}
use Rattle.nir_ops.specs.Opcodes.{op_info}
use Rattle.nir_ops.specs.Width.{width_bits}
use Rattle.op_eval.specs.Calls.{same_width}
use Rattle.rule_term.specs.contracts.cond.Cond as cond_type
use Rattle.rule_term.specs.declared.cond.Cond.{Cond}
use Rattle.rule_term.specs.Conditions.{cond_holds}
use Rattle.rule_term.specs.Formed.{may_stand}
use Rattle.rule_term.specs.Pieces.{Piece, VarPiece, LitPiece, AppPiece, pieces, terms_count}
use Rattle.rule_term.specs.Rule.{Rule}
use Rattle.rule_term.specs.Terms.{Terms}
use Rattle.rule_term.specs.Typings.{Occurrence, occurrences, obeys, first_of, search_part, replace_part, size_of, width_lists}
use Rattle.rule_spelling.specs.Files.{Binding, Step, Apply, Calc}
use Rattle.law_derive.specs.declared.fault.DeriveFault.{DeriveFault}
use Rattle.law_derive.specs.declared.fault.DeriveFault.TheVariants as fault
use Rattle.law_derive.specs.declared.fault.StepFault as step_fault
use Rattle.law_derive.specs.declared.fault.StepFault.TheVariants.{NoLaw, BadPath, NoMatch, CondMissing}
use Rattle.law_derive.specs.declared.law.LawNode.{LawNode}
use Rattle.law_derive.specs.declared.law.LawNode.TheVariants as law_node
use Rattle.law_derive.specs.declared.node.Kind.{Kind}
use Rattle.law_derive.specs.declared.node.Kind.TheVariants.{App, Var, Lit}
use Rattle.law_derive.specs.declared.node.Node.{Node}
use Rattle.law_derive.specs.LawTable.{Law, laws, left_at, right_at}
use Rattle.law_derive.specs.Matching.{Filling, filled, found, match_side}
use Rattle.law_derive.specs.Nodes.{first_term, behind_first, nodes_of, place_at, roots, same_nodes, values}

-- ---- expressions

-- what a term is derived at: the rule, and the sizes of its nodes
pub record Setting : Type 0 where
  pub rule : Rule
  pub widths : List Width

-- the occurrences of the variables of the search side, each with its size
abbrev pub standing : Setting → List Occurrence
standing at = occurrences at.rule.search (search_part at.rule at.widths)

-- the size of a variable, where the rule has it
abbrev pub size_of_var : Setting → ℕ → Option Width
size_of_var at var = option_map (λ o. o.width) (find (λ o. nat_eq o.var var) (standing at))

-- an opcode that may stand in a rule, with its sources
abbrev pub piece_formed : Piece → Bool
piece_formed (VarPiece var constant size cond) = true
piece_formed (LitPiece value boolean) = true
piece_formed (AppPiece op size once sources) = may_stand op && nat_eq sources (length (op_info op).inputs)

abbrev pub is_expr : Terms → Bool
is_expr terms = nat_eq (terms_count terms) 1 && list_all piece_formed (pieces terms)

abbrev pub is_size : Option Width → Width → Bool
is_size None width = true
is_size (Some size) width = same_width size width

abbrev pub has_size_of : Option Width → Width → Bool
has_size_of None width = false
has_size_of (Some own) width = same_width own width

abbrev pub has_var_size : Setting → Occurrence → Bool
has_var_size at o = has_size_of (size_of_var at o.var) o.width

-- sizes for the nodes of an expression: variables have those of the rule, and its value has this one, where one is asked for
abbrev pub is_expr_typing : Setting → Option Width → Terms → List Width → Bool
is_expr_typing at size terms widths =
    obeys terms widths && list_all (has_var_size at) (occurrences terms widths) && is_size size (first_of widths)

abbrev pub only : List (List Width) → Option (List Width)
only [] = None
only (widths ∷ []) = Some widths
only (widths ∷ others ∷ more) = None

-- the nodes of an expression, where exactly one list of sizes obeys
unfoldable pub expr_nodes : Setting → Option Width → Terms → Option (List Node)
expr_nodes at size terms =
    if is_expr terms then option_map (nodes_of terms) (only (filter (is_expr_typing at size terms) (width_lists (size_of terms)))) else None

-- ---- steps

-- why a step does not apply
abbrev pub StepFault : Type 0
StepFault = step_fault.StepFault

-- the letter of a name
abbrev pub letter_named : List ℕ → Option ℕ
letter_named name =
    if bytes_eq name (codes "x") then Some 0
    else (if bytes_eq name (codes "y") then Some 1
    else (if bytes_eq name (codes "z") then Some 2
    else (if bytes_eq name (codes "b") then Some 3
    else (if bytes_eq name (codes "c") then Some 4 else None))))

-- b has 1 bit, and each other letter the law's size
abbrev pub letter_size : Width → ℕ → Width
letter_size width letter = if nat_eq letter 3 then W1 else width

abbrev pub is_letter : ℕ → LawNode → Bool
is_letter letter (law_node.App op) = false
is_letter letter (law_node.Letter other) = nat_eq other letter
is_letter letter (law_node.Lit value boolean) = false

abbrev pub has_letter : Law → ℕ → Bool
has_letter law letter = list_any (is_letter letter) law.left || list_any (is_letter letter) law.right

-- the side from which a law is read, and the other
abbrev pub from_at : Law → Bool → Width → List Node
from_at law false width = left_at law width
from_at law true width = right_at law width

abbrev pub to_at : Law → Bool → Width → List Node
to_at law false width = right_at law width
to_at law true width = left_at law width

abbrev pub law_sizes : Law → List Width
law_sizes law = if law.bit then W1 ∷ W8 ∷ W16 ∷ W32 ∷ W64 ∷ [] else W8 ∷ W16 ∷ W32 ∷ W64 ∷ []

-- ---- the size at which a law is read

-- a side that is a truth value fixes no size
abbrev pub is_truth : List LawNode → Bool
is_truth (law_node.Lit value true ∷ []) = true
is_truth _ = false

abbrev pub from_side : Law → Bool → List LawNode
from_side law false = law.left
from_side law true = law.right

abbrev pub size_of_nodes : List Node → List Width → Option Width
size_of_nodes nodes [] = None
size_of_nodes nodes (width ∷ others) = Some width

abbrev pub size_of_expr : Option (List Node) → Option Width
size_of_expr None = None
size_of_expr (Some nodes) = size_of_nodes nodes (roots nodes)

-- the size of the only binding
abbrev pub size_of_binding : Setting → List Binding → Option Width
size_of_binding at [] = None
size_of_binding at (binding ∷ []) = size_of_expr (expr_nodes at None binding.with)
size_of_binding at (binding ∷ others ∷ more) = None

abbrev pub matches_at : Law → Bool → List Node → Width → Bool
matches_at law rev term width = not (is_none (match_side (from_at law rev width) term []))

abbrev pub among : List Width → Option Width → Option Width
among sizes None = None
among sizes (Some width) = if list_any (same_width width) sizes then Some width else None

-- the size at which the law is read at a term
abbrev pub size_read : Setting → Law → Bool → List Binding → List Node → Option Width
size_read at law rev bindings term =
    if is_truth (from_side law rev) then among (law_sizes law) (size_of_binding at bindings) else find (matches_at law rev term) (law_sizes law)

-- ---- letters that are bound

abbrev pub with_letter : ℕ → Option (List Node) → Filling → Option Filling
with_letter letter None filling = None
with_letter letter (Some term) filling = Some ((letter, term) ∷ filling)

-- one more letter, which the law has and nothing stands for yet
abbrev pub bound_letter : Setting → Law → Width → Option ℕ → Terms → Filling → Option Filling
bound_letter at law width None terms filling = None
bound_letter at law width (Some letter) terms filling =
    if has_letter law letter && is_none (found letter filling) then with_letter letter (expr_nodes at (Some (letter_size width letter)) terms) filling else None

abbrev pub bound_others : Option Filling → (Filling → Option Filling) → Option Filling
bound_others None others = None
bound_others (Some filling) others = others filling

abbrev pub bound : Setting → Law → Width → List Binding → Filling → Option Filling
bound at law width [] filling = Some filling
bound at law width (binding ∷ bindings) filling =
    bound_others (bound_letter at law width (letter_named binding.name) binding.with filling) (bound at law width bindings)

abbrev pub is_filled : Filling → Kind → Bool
is_filled filling (Var letter) = not (is_none (found letter filling))
is_filled filling (App op) = true
is_filled filling (Lit word) = true

-- each letter of a side stands for something
abbrev pub are_filled : Filling → List Node → Bool
are_filled filling side = list_all (λ (part : Node). is_filled filling part.kind) side

-- ---- conditions

abbrev pub is_cond : Cond → Option Cond → Bool
is_cond cond None = false
is_cond cond (Some own) = sameb cond_type.the_type own cond

abbrev pub asks : Cond → ℕ → Occurrence → Bool
asks cond var o = nat_eq o.var var && is_cond cond o.cond

-- a variable with the condition on some occurrence, or a number that meets it
abbrev pub kind_meets : Setting → Cond → Width → Kind → Bool
kind_meets at cond width (Var var) = list_any (asks cond var) (standing at)
kind_meets at cond width (Lit word) = cond_holds cond (width_bits width) word
kind_meets at cond width (App op) = false

abbrev pub term_meets : Setting → Cond → Option (List Node) → Bool
term_meets at cond None = false
term_meets at cond (Some []) = false
term_meets at cond (Some (node ∷ nodes)) = kind_meets at cond node.width node.kind

abbrev pub cond_met : Setting → Option Cond → Filling → Bool
cond_met at None filling = true
cond_met at (Some cond) filling = term_meets at cond (found 4 filling)

-- ---- a law at a term

abbrev pub met : Setting → Law → Bool → Width → Filling → Result (List Node) StepFault
met at law rev width filling = if cond_met at law.cond filling then Ok (filled filling (to_at law rev width)) else Err CondMissing

abbrev pub complete : Setting → Law → Bool → Width → Option Filling → Result (List Node) StepFault
complete at law rev width None = Err NoMatch
complete at law rev width (Some filling) = if are_filled filling (to_at law rev width) then met at law rev width filling else Err NoMatch

abbrev pub matched : Setting → Law → Bool → List Binding → Width → Option Filling → Result (List Node) StepFault
matched at law rev bindings width None = Err NoMatch
matched at law rev bindings width (Some filling) = complete at law rev width (bound at law width bindings filling)

abbrev pub read_at : Setting → Law → Bool → List Binding → List Node → Option Width → Result (List Node) StepFault
read_at at law rev bindings term None = Err NoMatch
read_at at law rev bindings term (Some width) = matched at law rev bindings width (match_side (from_at law rev width) term [])

-- what a law makes of a term
abbrev pub by_law : Setting → Law → Bool → List Binding → List Node → Result (List Node) StepFault
by_law at law rev bindings term = read_at at law rev bindings term (size_read at law rev bindings term)

-- ---- a calculation

abbrev pub is_var : Kind → Bool
is_var (App op) = false
is_var (Var var) = true
is_var (Lit word) = false

abbrev pub has_var : List Node → Bool
has_var nodes = list_any (λ (node : Node). is_var node.kind) nodes

abbrev pub calculated : List Node → Option (List Node) → Result (List Node) StepFault
calculated term None = Err NoMatch
calculated term (Some nodes) =
    if not (has_var term) && (not (has_var nodes) && pointwise nat_eq (values term []) (values nodes [])) then Ok nodes else Err NoMatch

abbrev pub by_calc : Setting → Terms → List Node → Result (List Node) StepFault
by_calc at terms term = calculated term (expr_nodes at (size_of_expr (Some term)) terms)

-- ---- a step

-- a part in the place of the one that begins there
abbrev pub put_at : ℕ → List Node → Result (List Node) StepFault → Result (List Node) StepFault
put_at place nodes (Ok part) = Ok (take place nodes ++ (part ++ behind_first (drop place nodes)))
put_at place nodes (Err fault) = Err fault

abbrev pub at_path : List Node → Option ℕ → (List Node → Result (List Node) StepFault) → Result (List Node) StepFault
at_path nodes None make = Err BadPath
at_path nodes (Some place) make = put_at place nodes (make (first_term (drop place nodes)))

abbrev pub law_step : Setting → Option Law → List ℕ → Bool → List Binding → List Node → Result (List Node) StepFault
law_step at None path rev bindings nodes = Err NoLaw
law_step at (Some law) path rev bindings nodes = at_path nodes (place_at path nodes) (by_law at law rev bindings)

-- laws have the numbers from 1 on
abbrev pub law_numbered : ℕ → Option Law
law_numbered zero = None
law_numbered (suc k) = slice_get laws k

-- what a step makes of a term
unfoldable pub step_made : Setting → Step → List Node → Result (List Node) StepFault
step_made at (Apply law path rev bindings) nodes = law_step at (law_numbered law) path rev bindings nodes
step_made at (Calc path with) nodes = at_path nodes (place_at path nodes) (by_calc at with)

-- ---- a derivation

-- the first step that does not apply, and why
abbrev pub fault_at : ℕ → StepFault → DeriveFault
fault_at k NoLaw = fault.NoLaw k
fault_at k BadPath = fault.BadPath k
fault_at k NoMatch = fault.NoMatch k
fault_at k CondMissing = fault.CondMissing k

abbrev pub derived_on : ℕ → Result (List Node) StepFault → (List Node → Option DeriveFault) → Option DeriveFault
derived_on k (Ok nodes) others = others nodes
derived_on k (Err stepped) others = Some (fault_at k stepped)

abbrev pub derive_from : Setting → ℕ → List Step → List Node → Option DeriveFault
derive_from at k [] nodes = if same_nodes nodes (nodes_of at.rule.replace (replace_part at.rule at.widths)) then None else Some fault.WrongEnd
derive_from at k (step ∷ steps) nodes = derived_on k (step_made at step nodes) (derive_from at (suc k) steps)

-- what is wrong with a derivation, None where it leads from the search side to the replacement
unfoldable pub derivation_fault : Setting → List Step → Option DeriveFault
derivation_fault at steps = derive_from at 0 steps (nodes_of at.rule.search (search_part at.rule at.widths))

-- the answer tells what is wrong, or that nothing is; memory may be wanting at any time
abbrev pub TellsFault : Option DeriveFault → Result (Unit {0}) DeriveFault → Type 0
TellsFault found (Ok done) = found ≡ None
TellsFault found (Err fault.OutOfMemory) = Unit {0}
TellsFault found (Err told) = found ≡ Some told

-- The size rules of a rule: what is asked of each of its nodes, of the two roots, and of the nodes of one variable (bit sizes in rules as in Mesa's nir_algebraic.py).
use Rattle.std.specs.Prelude.{ℕ, suc, ◌+◌, Bool, false, cond, Option, Some, None, List, [], ◌∷◌, ◌++◌, nat_eq}
use Rattle.nir_ops.specs.declared.op.Op.{Op}
use Rattle.nir_ops.specs.declared.width.Width.{Width}
use Rattle.nir_ops.specs.Opcodes.{op_info, op_allows}
use Rattle.op_eval.specs.Calls.{same_width}
use Rattle.rule_term.specs.declared.cond.Cond.{Cond}
use Rattle.rule_term.specs.Terms.{Terms, Nil, VarThen, LitThen, AppThen}
use Rattle.rule_term.specs.Rule.{Rule}
use Rattle.rule_term.specs.Typings.{size_of, has_size, literal_fits}
use Rattle.size_laws.specs.Places.{SizeRule, Same, Only}

-- how many nodes both sides have; a node is named by its place in preorder, the search side first
abbrev pub node_count : Rule → ℕ
node_count rule = size_of rule.search + size_of rule.replace

-- a source has the size of its input, or that of the node that has the unsized size
abbrev pub source_rule : ℕ → Option Width → ℕ → SizeRule
source_rule u None p = Same u p
source_rule u (Some size) p = Only p (same_width size)

-- each source by its input; an opcode that lacks sources or has too many has no sizes
abbrev pub source_rules : {I : Type 0} → (I → Option Width) → ℕ → List I → List ℕ → List SizeRule
source_rules get u [] [] = []
source_rules get u (input ∷ inputs) (p ∷ places) = source_rule u (get input) p ∷ source_rules get u inputs places
source_rules get u inputs places = Only u (λ w. false) ∷ []

-- the node that has the unsized size: the result, or the first source where the result has a size of its own
abbrev pub unsized_place : Option Width → ℕ → List ℕ → ℕ
unsized_place None k places = k
unsized_place (Some size) k [] = k
unsized_place (Some size) k (p ∷ places) = p

-- an opcode works at the unsized size, and its result and sources have the sizes of its row
abbrev pub fit_rules : {I : Type 0} → Option Width → (Width → Bool) → (I → Option Width) → List I → ℕ → List ℕ → List SizeRule
fit_rules out allow get inputs k places =
    Only (unsized_place out k places) allow ∷ Only k (has_size out) ∷ source_rules get (unsized_place out k places) inputs places

-- what the opcode at a place asks of it and of its sources
abbrev pub op_rules : Op → ℕ → List ℕ → List SizeRule
op_rules op k places = fit_rules (op_info op).out.size (op_allows op) (λ input. input.kind.size) (op_info op).inputs k places

-- the places of terms that stand one after another, the first at this place
abbrev pub root_places : Terms → ℕ → List ℕ
root_places Nil k = []
root_places (VarThen var constant size cond rest) k = k ∷ root_places rest (k + 1)
root_places (LitThen value boolean rest) k = k ∷ root_places rest (k + 1)
root_places (AppThen op size once args rest) k = k ∷ root_places rest (k + suc (size_of args))

-- what terms ask of their nodes by themselves
abbrev pub rules_of : Terms → ℕ → List SizeRule
rules_of Nil k = []
rules_of (VarThen var constant size cond rest) k = Only k (has_size size) ∷ rules_of rest (k + 1)
rules_of (LitThen value boolean rest) k = Only k (literal_fits value boolean) ∷ rules_of rest (k + 1)
rules_of (AppThen op size once args rest) k =
    Only k (has_size size) ∷ (rules_of args (k + 1) ++ (op_rules op k (root_places args (k + 1)) ++ rules_of rest (k + suc (size_of args))))

-- where a variable stands
pub record VarPlace : Type 0 where
  pub var : ℕ
  pub place : ℕ
  pub cond : Option Cond

-- the variables of terms, in preorder
abbrev pub var_places : Terms → ℕ → List VarPlace
var_places Nil k = []
var_places (VarThen var constant size cond rest) k = record { var = var; place = k; cond = cond } ∷ var_places rest (k + 1)
var_places (LitThen value boolean rest) k = var_places rest (k + 1)
var_places (AppThen op size once args rest) k = var_places args (k + 1) ++ var_places rest (k + suc (size_of args))

-- those of both sides
abbrev pub rule_places : Rule → List VarPlace
rule_places rule = var_places rule.search 0 ++ var_places rule.replace (size_of rule.search)

-- the next place of a variable, or its own
abbrev pub next_place : ℕ → List VarPlace → ℕ → ℕ
next_place v [] own = own
next_place v (q ∷ rest) own = cond (nat_eq v q.var) q.place (next_place v rest own)

-- each place of a variable has the size of the next
abbrev pub link_rules : List VarPlace → List SizeRule
link_rules [] = []
link_rules (p ∷ rest) = Same p.place (next_place p.var rest p.place) ∷ link_rules rest

-- all that is asked: as many rules as there are nodes and sources
unfoldable pub linked_rules : Rule → List SizeRule
linked_rules rule =
    rules_of rule.search 0
    ++ (rules_of rule.replace (size_of rule.search)
    ++ (Same 0 (size_of rule.search) ∷ link_rules (rule_places rule)))

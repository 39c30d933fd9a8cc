-- Terms whose opcodes have sizes that fit them.
use Rattle.std.specs.Prelude.{◌&&◌, Bool, true, List, [], ◌∷◌, take}
use Rattle.nir_ops.specs.declared.width.Width.{Width}
use Rattle.op_eval.specs.Calls.{sizes_fit}
use Rattle.rule_term.specs.Formed.{may_stand}
use Rattle.law_derive.specs.declared.node.Kind.{Kind}
use Rattle.law_derive.specs.declared.node.Kind.TheVariants.{App, Var, Lit}
use Rattle.law_derive.specs.declared.node.Node.{Node}
use Rattle.law_derive.specs.Nodes.{arity, roots}

-- an opcode that may stand in a rule, whose size and those of its sources, the first of the terms behind it, fit it
abbrev pub kind_fits : Width → Kind → List Width → Bool
kind_fits width (App op) behind = may_stand op && sizes_fit op width (take (arity op) behind)
kind_fits width (Var var) behind = true
kind_fits width (Lit word) behind = true

abbrev pub nodes_fit : List Node → Bool
nodes_fit [] = true
nodes_fit (node ∷ rest) = kind_fits node.width node.kind (roots rest) && nodes_fit rest

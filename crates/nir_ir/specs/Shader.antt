-- What contracts see of a shader: its declarations, its body, and the bound of its value numbers.
use Rattle.std.specs.Prelude.{ℕ, List, refl}
use Rattle.std.specs.Coded.{Coded, code_by, coded_list, coded×, coded_ℕ}
use Rattle.nir_ir.specs.declared.kind.Kind.{Kind}
use Rattle.nir_ir.specs.contracts.kind.Kind as kind
use Rattle.nir_ir.specs.declared.node.Node.{Node}
use Rattle.nir_ir.specs.contracts.node.Node as node
use Rattle.nir_ir.specs.Nodes.{Nodes, nodes_of, list_of, nodes_of-list_of}

pub record Shader : Type 0 where
  pub inputs : List Kind
  pub outputs : List Kind
  pub buffers : ℕ
  pub body : Nodes
  pub next_value : ℕ

-- a chain is stored as its list
abbrev pub nodes_code : Coded Nodes
nodes_code = code_by (List Node) (coded_list node.the_row.coded) list_of nodes_of nodes_of-list_of

-- a shader is stored as the tuple of its parts
abbrev pub shader_code : Coded Shader
shader_code =
    code_by (List Kind × (List Kind × (ℕ × (Nodes × ℕ))))
    (coded× (coded_list kind.the_row.coded) (coded× (coded_list kind.the_row.coded) (coded× coded_ℕ (coded× nodes_code coded_ℕ))))
    (λ s. (s.inputs, (s.outputs, (s.buffers, (s.body, s.next_value)))))
    (λ p. record { inputs = p.0; outputs = p.1.0; buffers = p.1.1.0; body = p.1.1.1.0; next_value = p.1.1.1.1 })
    (λ _. refl)

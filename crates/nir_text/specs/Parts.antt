-- The parts of a shader as the shader that they make.
use Rattle.nir_ir.specs.Nodes.{nodes_of}
use Rattle.nir_ir.specs.Shader.{Shader}
use Rattle.nir_text.specs.declared.parts.Parts as code

abbrev pub parts : code.Parts → Shader
parts p = record { inputs = p.inputs; outputs = p.outputs; buffers = p.buffers; body = nodes_of p.body; next_value = p.next_value }

-- How far the building of a replacement has come: what terms add to it.
use Rattle.std.specs.Prelude.{◌≡◌, ◌+◌, ℕ, List, ◌++◌, drop}
use Rattle.nir_ops.specs.declared.width.Width.{Width}
use Rattle.nir_ir.specs.declared.instr.Src.{Src}
use Rattle.rule_term.specs.Terms.{Terms}
use Rattle.rule_term.specs.Typings.{size_of}
use Rattle.nir_search.specs.declared.hit.Bind.{Bind}
use Rattle.nir_search.specs.Put.{Made, made}
use Rattle.rewrite_pass.specs.declared.build.Building.{Building}

-- what the terms are made into where so much is built: the next of these sizes are those of their nodes
abbrev pub made_on : List Bind → ℕ → Terms → List Width → Building → Made
made_on subst count terms widths building = made subst count terms (drop building.nodes widths) building.next

-- the terms were built: their instructions stand behind those that were there, their nodes are counted, and their values are these sources
pub record Builds (subst : List Bind) (count : ℕ) (terms : Terms) (widths : List Width) (before after : Building) (srcs : List Src) : Type 0 where
  pub instrs : after.instrs ≡ before.instrs ++ (made_on subst count terms widths before).instrs
  pub nodes : after.nodes ≡ before.nodes + size_of terms
  pub next : after.next ≡ (made_on subst count terms widths before).next
  pub sources : srcs ≡ (made_on subst count terms widths before).sources

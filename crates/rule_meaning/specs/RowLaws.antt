-- What a replacement is built of are instructions with fresh numbers in a row.
use Rattle.std.specs.Prelude.{◌≡◌, refl, ◌+◌, ◌≤◌, ℕ, suc, Option, Some, List, [], ◌∷◌, ◌++◌, map, length, drop}
use Rattle.std.proofs.Common.{◌∙◌, ap, ap₂, subst, arith}
use Rattle.std.specs.List.{range_with_len}
use Rattle.nir_ops.specs.declared.width.Width.{Width}
use Rattle.nir_ir.specs.declared.ids.ValueId.{ValueId}
use Rattle.nir_ir.specs.declared.instr.Instr.{Instr}
use Rattle.nir_ir.specs.declared.instr.Instr.TheVariants.{Alu}
use Rattle.nir_ir.specs.Items.{target}
use Rattle.rule_term.specs.Terms.{Terms, Nil, VarThen, LitThen, AppThen}
use Rattle.rule_term.specs.Typings.{first_of, size_of}
use Rattle.nir_search.specs.declared.hit.Bind.{Bind}
use Rattle.nir_search.specs.Put.{Made, made}

-- ---- numbers in a row

-- the instructions define the numbers from this one on, in order
abbrev pub InRow : ℕ → List Instr → Type 0
InRow next [] = Unit {0}
InRow next (instr ∷ instrs) = (target instr ≡ Some (record { 0 = next })) × InRow (suc next) instrs

pub row_append : (next : ℕ) (first second : List Instr) → InRow next first → InRow (next + length first) second → InRow next (first ++ second)
row_append next [] second one two = subst (λ n. InRow n second) (omega arith) two
row_append next (instr ∷ first) second one two =
    (one.0, row_append (suc next) first second one.1 (subst (λ n. InRow n second) (omega arith) two))

pub row_targets : (next : ℕ) (instrs : List Instr) → InRow next instrs → map target instrs ≡ map (λ n. Some (record { 0 = n })) (range_with_len next (length instrs))
row_targets next [] row = refl
row_targets next (instr ∷ instrs) row =
    ap₂ (λ (a : Option ValueId) (l : List (Option ValueId)). a ∷ l) row.0
    (row_targets (suc next) instrs row.1 ∙ ap (λ n. map (λ k. Some (record { 0 = k })) (range_with_len n (length instrs))) (omega arith))

-- what is made ends where it says
pub record InOrder (next : ℕ) (built : Made) : Type 0 where
  pub row : InRow next built.instrs
  pub ends : built.next ≡ next + length built.instrs

one_more : (a b : ℕ) (instrs : List Instr) → b ≡ suc a + length instrs → b ≡ a + suc (length instrs)
one_more a b instrs h = omega (arith, h)

middle_length : (first second : List Instr) (own : Instr) → length (first ++ own ∷ second) ≡ length first + suc (length second)
middle_length [] second own = omega arith
middle_length (instr ∷ first) second own = ap suc (middle_length first second own) ∙ omega arith

pub made_in_order : (binds : List Bind) (count : ℕ) (terms : Terms) (widths : List Width) (next : ℕ) → InOrder next (made binds count terms widths next)
made_in_order binds count Nil widths next = record { row = tt; ends = omega arith }
made_in_order binds count (VarThen var constant size cond rest) widths next =
    let more = made_in_order binds count rest (drop 1 widths) next in record { row = more.row; ends = more.ends }
made_in_order binds count (LitThen number boolean rest) widths next =
    let more = made_in_order binds count rest (drop 1 widths) (suc next) in
    record { row = (refl, more.row); ends = one_more next (made binds count rest (drop 1 widths) (suc next)).next (made binds count rest (drop 1 widths) (suc next)).instrs more.ends }
made_in_order binds count (AppThen op size once args rest) widths next =
    let inner = made binds count args (drop 1 widths) next in
    let more = made binds count rest (drop (suc (size_of args)) widths) (suc inner.next) in
    let first = made_in_order binds count args (drop 1 widths) next in
    let second = made_in_order binds count rest (drop (suc (size_of args)) widths) (suc inner.next) in
    let own : Instr = Alu (record { 0 = inner.next }) op (record { width = first_of widths; count = count }) inner.sources in
    record {
      row = row_append next inner.instrs (own ∷ more.instrs) first.row (subst (λ n. InRow n (own ∷ more.instrs)) first.ends (refl, second.row));
      ends = ends next inner.next more.next inner.instrs more.instrs own first.ends second.ends;
    }
  where
    ends : (next middle last : ℕ) (first second : List Instr) (own : Instr) → middle ≡ next + length first → last ≡ suc middle + length second → last ≡ next + length (first ++ own ∷ second)
    ends next middle last first second own one two = let long : length (first ++ own ∷ second) ≡ length first + suc (length second) = middle_length first second own in omega (arith, one, two, long)

-- each node takes one fresh number at most
pub made_next : (binds : List Bind) (count : ℕ) (terms : Terms) (widths : List Width) (next : ℕ) → (made binds count terms widths next).next ≤ next + size_of terms
made_next binds count Nil widths next = omega arith
made_next binds count (VarThen var constant size cond rest) widths next =
    let more = made_next binds count rest (drop 1 widths) next in
    omega (arith, more)
made_next binds count (LitThen number boolean rest) widths next =
    let more = made_next binds count rest (drop 1 widths) (suc next) in
    omega (arith, more)
made_next binds count (AppThen op size once args rest) widths next =
    let inner = made_next binds count args (drop 1 widths) next in
    let more = made_next binds count rest (drop (suc (size_of args)) widths) (suc (made binds count args (drop 1 widths) next).next) in
    omega (arith, inner, more)

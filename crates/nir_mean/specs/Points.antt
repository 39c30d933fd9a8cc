-- The sources of what an opcode writes are among the values that are defined before a point; and what is found by its value defines it.
use Rattle.std.specs.Prelude.{◌≡◌, refl, Bool, true, false, ◌||◌, nat_eq, List, [], ◌∷◌, Option, Some}
use Rattle.std.specs.List.{find}
use Rattle.std.specs.Option.{option_and_then, option_map, option_or}
use Rattle.std.proofs.Common.{sym, ◌∙◌, ap, subst, ℕ}
use Rattle.std.proofs.lemmas.Bool.{cond-true, cond-false, eqb-true}
use Rattle.std.proofs.lemmas.Option.{none-some, same_Some}
use Rattle.nir_ops.specs.declared.op.Op.{Op}
use Rattle.nir_ir.specs.declared.ids.ValueId.{ValueId}
use Rattle.nir_ir.specs.declared.kind.Kind.{Kind}
use Rattle.nir_ir.specs.declared.instr.Instr.{Instr}
use Rattle.nir_ir.specs.declared.instr.Instr.TheVariants.{Alu}
use Rattle.nir_ir.specs.declared.instr.Src.{Src}
use Rattle.nir_ir.specs.Definitions.{instr_defining, instrs, is_target, kind_at, kind_of_target, phi_defining}
use Rattle.nir_ir.specs.EditsShaped.{target_of}
use Rattle.nir_ir.specs.Items.{target}
use Rattle.nir_ir.specs.Nodes.{Nodes}
use Rattle.nir_validate.specs.Kept.{IsRead}
use Rattle.nir_validate.specs.Edges.{Set}

-- the sources of what an opcode writes are in the set
abbrev pub Closed : Nodes → Set → Type 0
Closed body set =
    (value source : ValueId) (op : Op) (kind : Kind) (srcs : List Src) → set value.0 ≡ true → instr_defining value body ≡ Some (Alu value op kind srcs)
    → IsRead (Alu value op kind srcs) source → set source.0 ≡ true

-- numbers of values
pub same_id : (a b : ValueId) → nat_eq a.0 b.0 ≡ true → a ≡ b
same_id a b e = let id : ℕ → ValueId = λ n. record { 0 = n } in ap id (eqb-true a.0 b.0 e)

pub or_right : (a b : Bool) → b ≡ true → (a || b) ≡ true
or_right true b h = refl
or_right false b h = h

pub or_other : (a b : Bool) → a ≡ false → (a || b) ≡ true → b ≡ true
or_other a b e h = subst (λ (test : Bool). (test || b) ≡ true) e h

-- the kind of what an instruction defines
pub kind_at-defines : (body : Nodes) (id : ValueId) (instr : Instr) (kind : Kind) → instr_defining id body ≡ Some instr → kind_of_target instr ≡ Some kind → kind_at body id ≡ Some kind
kind_at-defines body id instr kind defined is =
    let others : Option Kind = option_map (λ phi. phi.kind) (phi_defining id body) in
    ap (λ found. option_or (option_and_then kind_of_target found) others) defined ∙ ap (λ found. option_or found others) is

-- what is found passes the test
found_test : {A : Type 0} (test : A → Bool) (list : List A) (x : A) → find test list ≡ Some x → test x ≡ true
found_test test [] x found = absurd (none-some x found)
found_test test (a ∷ list) x found = by_test (test a) refl (found_test test list x) where
  by_test : (here : Bool) → test a ≡ here → (find test list ≡ Some x → test x ≡ true) → test x ≡ true
  by_test true e rest = subst (λ (b : _). test b ≡ true) (same_Some a x (sym (cond-true (test a) (Some a) (find test list) e) ∙ found)) e
  by_test false e rest = rest (sym (cond-false (test a) (Some a) (find test list) e) ∙ found)

-- the instruction that defines a value has it as its target
pub defining_target : (body : Nodes) (value : ValueId) (instr : Instr) → instr_defining value body ≡ Some instr → target instr ≡ Some value
defining_target body value instr found = target_of value instr (found_test (is_target value) (instrs body) instr found)

-- The unsized bit size of a call, by its first source.
use Rattle.std.proofs.Common.{◌≡◌, List, [], ◌∷◌, Some, None, Option, refl, sym, ◌∙◌, ap, map}
use Rattle.std.specs.Prelude.{slice_get}
use Rattle.nir_ops.specs.declared.op.Op.{Op}
use Rattle.nir_ops.specs.declared.width.Width.{Width}
use Rattle.nir_ops.specs.Opcodes.{op_info}
use Rattle.op_eval.specs.Calls.{unsized_of, unsized_width}

of_none : (size : Option Width) (dst : Width) → unsized_of size dst [] ≡ dst
of_none None dst = refl
of_none (Some size) dst = refl

-- without sources it is that of the result
pub width_of_none : {A : Type 0} (width : A → Width) (op : Op) (dst : Width) (args : List A) → slice_get args 0 ≡ None → dst ≡ unsized_width op dst (map width args)
unfolding unsized_width
width_of_none width op dst [] e = sym (of_none (op_info op).out.size dst)
width_of_none width op dst (first ∷ rest) e = cc

-- with sources the first decides
pub width_of_first : {A : Type 0} (width : A → Width) (op : Op) (dst : Width) (args : List A) (first : A) (answer : Width) →
    slice_get args 0 ≡ Some first → ((rest : List Width) → answer ≡ unsized_width op dst (width first ∷ rest)) → answer ≡ unsized_width op dst (map width args)
width_of_first width op dst [] first answer e h = cc
width_of_first width op dst (other ∷ rest) first answer e h =
    let same : other ≡ first = cc in
    h (map width rest) ∙ ap (λ w. unsized_width op dst (width w ∷ map width rest)) (sym same)

-- The index that the items of a shader make says of each value what is so.
use Rattle.std.proofs.Common.{◌≡◌, ℕ, ◌+◌, ◌<◌, ◌≤◌, ⊎_elim, sym, ◌∙◌, ap, arith, zero-add}
use Rattle.std.specs.Prelude.{Some, None, slice_get, count_by, replicate}
use Rattle.std.specs.List.{flat_map}
use Rattle.std.specs.Option.{option_and_then, option_map, unwrap_or}
use Rattle.std.proofs.lemmas.Option.{unwrap_or-slice_get}
use Rattle.std.proofs.lemmas.Bool.{cases_lt}
use Rattle.nir_ir.specs.declared.ids.ValueId.{ValueId}
use Rattle.nir_ir.specs.Items.{items, uses, values_defined}
use Rattle.nir_ir.specs.Shaped.{IsOneOf, IsShaped}
use Rattle.nir_ir.specs.Shader.{Shader}
use Rattle.nir_ir.specs.Uses.{is_value, use_count}
use Rattle.edit_laws.specs.NumbersLaws.{member_has}
use Rattle.edit_laws.specs.UsesLaws.{no_instr, no_phi, no_use}
use Rattle.nir_index.specs.declared.index.Definer.{Definer}
use Rattle.nir_index.specs.Index.{IsIndex, blank, by_place, counted, known_or, noted, numbered}
use Rattle.nir_index.proofs.PlaceLemmas.{slice_get-place, slice_get-replicate, slice_get-replicate_past}

-- a number that no value of the shader has
pub past_all : (s : Shader) → IsShaped s → (value : ValueId) → s.next_value ≤ value.0 → IsOneOf (values_defined s.body) value.0 → ⊥
past_all s shaped value past is = let less = member_has (λ v. v < s.next_value) (values_defined s.body) value.0 shaped.below is in absurd (omega (arith, less, past))

-- what stands at a number below the bound, and past it
at_place : {A : Type 0} (change : ℕ → A → A) (count : ℕ) (a : A) (n : ℕ) → n < count → slice_get (by_place change 0 (replicate count a)) n ≡ Some (change n a)
at_place change count a n within =
    slice_get-place change 0 (replicate count a) n
    ∙ ap (option_map (change (0 + n))) (slice_get-replicate count a n within)
    ∙ ap (λ i. Some (change i a)) (zero-add n)

past_place : {A : Type 0} (change : ℕ → A → A) (count : ℕ) (a : A) (n : ℕ) → count ≤ n → slice_get (by_place change 0 (replicate count a)) n ≡ None
past_place change count a n past = slice_get-place change 0 (replicate count a) n ∙ ap (option_map (change (0 + n))) (slice_get-replicate_past count a n past)

abbrev change : Shader → ℕ → Definer → Definer
change s n known = known_or (items s.body) (numbered n) known

abbrev add : Shader → ℕ → ℕ → ℕ
add s n count = count + count_by (is_value (numbered n)) (flat_map uses (items s.body))

abbrev none : Definer
none = record { instr = None; phi = None }

pub made : (s : Shader) → IsShaped s → IsIndex s.body (noted (items s.body) (blank s.next_value))
made s shaped = record {
  instrs = λ value. ⊎_elim
      (λ within. ap (option_and_then (λ definer. definer.instr)) (at_place (change s) s.next_value none value.0 within))
      (λ past. ap (option_and_then (λ definer. definer.instr)) (past_place (change s) s.next_value none value.0 past) ∙ sym (no_instr value s.body (past_all s shaped value past)))
      (cases_lt value.0 s.next_value);
  phis = λ value. ⊎_elim
      (λ within. ap (option_and_then (λ definer. definer.phi)) (at_place (change s) s.next_value none value.0 within))
      (λ past. ap (option_and_then (λ definer. definer.phi)) (past_place (change s) s.next_value none value.0 past) ∙ sym (ap (option_map (λ phi. phi.kind)) (no_phi value s.body (past_all s shaped value past))))
      (cases_lt value.0 s.next_value);
  counts = λ value. sym (unwrap_or-slice_get (counted (flat_map uses (items s.body)) (replicate s.next_value 0)) value.0 0) ∙ ⊎_elim
      (λ within. ap (λ found. unwrap_or found 0) (at_place (add s) s.next_value 0 value.0 within) ∙ zero-add (use_count value s.body))
      (λ past. ap (λ found. unwrap_or found 0) (past_place (add s) s.next_value 0 value.0 past) ∙ sym (no_use s value shaped (past_all s shaped value past)))
      (cases_lt value.0 s.next_value);
}

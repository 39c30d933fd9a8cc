-- Instructions and phis whose values nothing needs are left out: what is left does what it did, where it uses what is kept.
use Rattle.std.specs.Prelude.{◌≡◌, refl, ℕ, Bool, true, false, nat_eq, List, [], ◌∷◌, filter, Option, Some, None, cond}
use Rattle.std.specs.List.{AllByRecursion, find}
use Rattle.std.specs.Option.{option_map_or}
use Rattle.std.proofs.Common.{sym, ◌∙◌, ap, subst}
use Rattle.std.proofs.lemmas.Bool.{cond-false, cond-true, eqb-true, true≢false}
use Rattle.list_laws.specs.AllLaws.{all_each}
use Rattle.nir_ir.specs.declared.ids.ValueId.{ValueId}
use Rattle.nir_ir.specs.declared.instr.Instr.{Instr}
use Rattle.nir_ir.specs.declared.node.Phi.{Phi}
use Rattle.nir_ir.specs.Items.{PhiItem, reads, target, uses}
use Rattle.nir_validate.specs.Edges.{Set, meet, set_after}
use Rattle.walk_laws.specs.GrownLaws.{IsBelow}
use Rattle.walk_laws.specs.PairsLaws.{Change}
use Rattle.nir_mean.specs.Run.{phi_value, run_instr, run_instrs}
use Rattle.nir_mean.specs.State.{State}
use Rattle.run_laws.specs.Agree.{Agree}
use Rattle.run_laws.specs.AgreeLaws.{agree_less}
use Rattle.run_laws.specs.Known.{Basis, InstrGood, PhiGood, under}
use Rattle.run_laws.specs.KnownLaws.{edge_all}
use Rattle.run_laws.specs.Simulates.{Kept, Simulates, Tied}
use Rattle.run_laws.specs.UnchangedLaws.{IsKept, condition_unchanged, instr_dropped, instr_unchanged, phis_unchanged}

-- an instruction without a value is kept
abbrev pub is_kept : Set → Option ValueId → Bool
is_kept kept None = true
is_kept kept (Some id) = kept id.0

abbrev pub swept : Set → Change
swept kept = record {
  phis = filter (λ phi. kept phi.value.0);
  instr = λ instr. cond (is_kept kept (target instr)) (instr ∷ []) [];
  condition = λ id condition. condition;
}

-- what is kept uses what is kept
pub record NeedsKept (basis : Basis) (kept : Set) : Type 0 where
  pub instr : (instr : Instr) → basis.instr instr → is_kept kept (target instr) ≡ true → AllByRecursion (IsKept kept) (reads instr)
  pub phi : (phi : Phi) → basis.phi phi → IsKept kept phi.value → AllByRecursion (IsKept kept) (uses (PhiItem phi))
  pub condition : (condition : ValueId) → basis.condition condition → IsKept kept condition

-- a kept phi is found among those that are left
find_left : (kept : Set) (n : ℕ) (phis : List Phi) → kept n ≡ true → find (λ phi. nat_eq phi.value.0 n) (filter (λ phi. kept phi.value.0) phis) ≡ find (λ phi. nat_eq phi.value.0 n) phis
find_left kept n [] keeps = refl
find_left kept n (phi ∷ phis) keeps = by (kept phi.value.0) refl (nat_eq phi.value.0 n) refl (find_left kept n phis keeps) where
  left : List Phi
  left = filter (λ p. kept p.value.0) phis

  by : (stays : Bool) → kept phi.value.0 ≡ stays → (is : Bool) → nat_eq phi.value.0 n ≡ is → find (λ p. nat_eq p.value.0 n) left ≡ find (λ p. nat_eq p.value.0 n) phis
      → find (λ p. nat_eq p.value.0 n) (cond (kept phi.value.0) (phi ∷ left) left) ≡ cond (nat_eq phi.value.0 n) (Some phi) (find (λ p. nat_eq p.value.0 n) phis)
  by true stays is e rest =
      ap (find (λ p. nat_eq p.value.0 n)) (cond-true (kept phi.value.0) (phi ∷ left) left stays) ∙ ap (λ more. cond (nat_eq phi.value.0 n) (Some phi) more) rest
  by false gone true e rest = absurd (true≢false (sym keeps ∙ ap kept (sym (eqb-true phi.value.0 n e)) ∙ gone))
  by false gone false e rest =
      ap (find (λ p. nat_eq p.value.0 n)) (cond-false (kept phi.value.0) (phi ∷ left) left gone) ∙ rest
      ∙ sym (cond-false (nat_eq phi.value.0 n) (Some phi) (find (λ p. nat_eq p.value.0 n) phis) e)

pub swept_simulates : (basis : Basis) (kept : Set) (inputs : List (List ℕ)) (repeats : ℕ) → NeedsKept basis kept → Simulates basis (Agree kept) inputs repeats (swept kept)
swept_simulates basis kept inputs repeats needs = record {
  less = agree_less kept;
  instr = λ instr set good closed s t tied. one instr set good s t tied;
  phis = λ b edges all at edge listed s t tied n inside keeps.
      phis_unchanged basis kept b.phis edges all at.good.phis
      (all_each (PhiGood basis edges all) (λ phi. IsKept kept phi.value → AllByRecursion (IsKept kept) (uses (PhiItem phi))) (λ phi good. needs.phi phi good.other) b.phis at.good.phis)
      edge listed (edge_all (λ e. IsBelow (meet edges) e.set) all at.under edge listed) s.values t.values tied.related n inside keeps
      ∙ ap (λ found. option_map_or (phi_value edge.from t.values) found (t.values n)) (sym (find_left kept n b.phis keeps));
  condition = λ id condition edges at s t tied. condition_unchanged basis kept condition edges at (needs.condition condition at.good.other) s t tied;
} where
  one : (instr : Instr) (set : Set) → InstrGood basis set instr → (s t : State) → Tied basis (Agree kept) set s t
      → Kept (Agree kept) (set_after instr set) (run_instr (under basis inputs repeats) instr s) (run_instrs (under basis inputs repeats) (cond (is_kept kept (target instr)) (instr ∷ []) []) t)
  one instr set good s t tied = by (is_kept kept (target instr)) refl where
    dropped : (found : Option ValueId) → target instr ≡ found → is_kept kept found ≡ false → Kept (Agree kept) (set_after instr set) (run_instr (under basis inputs repeats) instr s) t
    dropped None aims gone = absurd (true≢false gone)
    dropped (Some id) aims gone = instr_dropped (under basis inputs repeats) kept set instr id s t aims gone tied.related tied.world

    by : (stays : Bool) → is_kept kept (target instr) ≡ stays
        → Kept (Agree kept) (set_after instr set) (run_instr (under basis inputs repeats) instr s) (run_instrs (under basis inputs repeats) (cond (is_kept kept (target instr)) (instr ∷ []) []) t)
    by true stays =
        subst (λ list. Kept (Agree kept) (set_after instr set) (run_instr (under basis inputs repeats) instr s) (run_instrs (under basis inputs repeats) list t))
        (sym (cond-true (is_kept kept (target instr)) (instr ∷ []) [] stays))
        (instr_unchanged basis kept inputs repeats instr set good (needs.instr instr good.other stays) s t tied)
    by false gone =
        subst (λ list. Kept (Agree kept) (set_after instr set) (run_instr (under basis inputs repeats) instr s) (run_instrs (under basis inputs repeats) list t))
        (sym (cond-false (is_kept kept (target instr)) (instr ∷ []) [] gone)) (dropped (target instr) refl gone)

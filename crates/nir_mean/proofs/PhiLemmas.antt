-- Phis that are read and then written: the steps of the loops, and that together they are the phis of the definition.
use Rattle.std.proofs.Common.{◌≡◌, ℕ, ◌+◌, ◌<◌, Bool, true, false, cond, nat_eq, List, [], ◌∷◌, ◌++◌, length, map, take, get_or, sym, ◌∙◌, ap, subst, refl, arith, Option, Some}
use Rattle.std.proofs.Math.Path.{fun_ext}
use Rattle.std.specs.List.{AllByRecursion, find}
use Rattle.std.specs.Option.{option_map, option_map_or}
use Rattle.std.proofs.lemmas.Bool.{eqb-true, eq-eqb, ne_eqb, true≢false}
use Rattle.std.proofs.lemmas.List.{length-map, map_more, take_more}
use Rattle.std.proofs.lemmas.Option.{none-some, same_Some}
use Rattle.op_eval.specs.declared.view.View.{View}
use Rattle.op_eval.specs.Views.{views_comps}
use Rattle.nir_ir.specs.declared.ids.BlockId.{BlockId}
use Rattle.nir_ir.specs.declared.ids.ValueId.{ValueId}
use Rattle.nir_ir.specs.declared.kind.Kind.{Kind}
use Rattle.nir_ir.specs.declared.node.Phi.{Phi}
use Rattle.nir_ir.specs.declared.node.PhiSource.{PhiSource}
use Rattle.nir_ir.specs.Definitions.{kind_at}
use Rattle.nir_ir.specs.Nodes.{Nodes}
use Rattle.nir_mean.specs.Phis.{written}
use Rattle.nir_mean.specs.Run.{phi_value, run_phis}
use Rattle.nir_mean.specs.State.{with_value}
use Rattle.nir_mean.specs.Table.{kind_seen}
use Rattle.nir_mean.specs.Values.{Values}

-- the source that is taken has the kind of the phi
first_kind : (body : Nodes) (kind : Kind) (source : PhiSource) (more : Option PhiSource) (value : ValueId) (here : Bool) → kind_at body source.value ≡ Some kind
    → (option_map (λ s. s.value) more ≡ Some value → kind_at body value ≡ Some kind) → option_map (λ s. s.value) (cond here (Some source) more) ≡ Some value → kind_at body value ≡ Some kind
first_kind body kind source more value true first others is = subst (λ (id : ValueId). kind_at body id ≡ Some kind) (same_Some source.value value is) first
first_kind body kind source more value false first others is = others is

pub taken_kind : (body : Nodes) (kind : Kind) (test : PhiSource → Bool) (sources : List PhiSource) (value : ValueId) → AllByRecursion (λ source. kind_at body source.value ≡ Some kind) sources
    → option_map (λ s. s.value) (find test sources) ≡ Some value → kind_at body value ≡ Some kind
taken_kind body kind test [] value all is = absurd (none-some value is)
taken_kind body kind test (source ∷ sources) value all is =
    first_kind body kind source (find test sources) value (test source) all.0 (taken_kind body kind test sources value all.1) is

-- a list without its last item
front : {A : Type 0} → List A → List A
front [] = []
front (a ∷ []) = []
front (a ∷ b ∷ list) = a ∷ front (b ∷ list)

front-snoc : {A : Type 0} (list : List A) (a : A) → front (list ++ a ∷ []) ≡ list
unfolding front
front-snoc [] a = refl
front-snoc (b ∷ []) a = refl
front-snoc (b ∷ c ∷ list) a = ap (λ t. b ∷ t) (front-snoc (c ∷ list) a)

-- the last phi is written first
pub written-snoc : (phis : List Phi) (taken : List (List ℕ)) (phi : Phi) (comps : List ℕ) (values : Values) → length phis ≡ length taken
    → written (phis ++ phi ∷ []) (taken ++ comps ∷ []) values ≡ written phis taken (with_value phi.value comps values)
written-snoc [] [] phi comps values same = refl
written-snoc [] (c ∷ taken) phi comps values same = absurd (omega arith)
written-snoc (p ∷ phis) [] phi comps values same = absurd (omega arith)
written-snoc (p ∷ phis) (c ∷ taken) phi comps values same = ap (λ rest. with_value p.value c rest) (written-snoc phis taken phi comps values (omega arith))

views_comps-snoc : (views : List View) (view : View) → views_comps (views ++ view ∷ []) ≡ views_comps views ++ view.comps ∷ []
views_comps-snoc [] view = refl
views_comps-snoc (v ∷ views) view = ap (λ t. v.comps ∷ t) (views_comps-snoc views view)

kinds-snoc : (views : List View) (view : View) → map kind_seen (views ++ view ∷ []) ≡ map kind_seen views ++ kind_seen view ∷ []
kinds-snoc [] view = refl
kinds-snoc (v ∷ views) view = ap (λ t. kind_seen v ∷ t) (kinds-snoc views view)

-- one phi is written
pub kinds_left : (phis : List Phi) (at : ℕ) (views left : List View) (view : View) (phi : Phi) → at < length phis → views ≡ left ++ view ∷ []
    → map kind_seen views ≡ map (λ p. p.kind) (take (at + 1) phis) → map kind_seen left ≡ map (λ p. p.kind) (take at phis)
kinds_left phis at views left view phi within is kinds =
    sym (front-snoc (map kind_seen left) (kind_seen view))
    ∙ ap front (sym (kinds-snoc left view) ∙ ap (map kind_seen) (sym is) ∙ kinds ∙ map_more (λ (p : Phi). p.kind) phis at phi within)
    ∙ front-snoc (map (λ p. p.kind) (take at phis)) (get_or phis at phi).kind

pub written_left : (phis : List Phi) (at : ℕ) (views left : List View) (view : View) (phi : Phi) (values after whole : Values) → at < length phis → views ≡ left ++ view ∷ []
    → phi ≡ get_or phis at phi → map kind_seen left ≡ map (λ p. p.kind) (take at phis) → after ≡ with_value phi.value view.comps values
    → written (take (at + 1) phis) (views_comps views) values ≡ whole → written (take at phis) (views_comps left) after ≡ whole
written_left phis at views left view phi values after whole within is here kinds changed before =
    let lengths : length (take at phis) ≡ length (views_comps left) =
    sym (length-map left (λ v. v.comps) ∙ sym (length-map left kind_seen) ∙ ap length kinds ∙ length-map (take at phis) (λ p. p.kind)) in
    ap (written (take at phis) (views_comps left)) changed
    ∙ sym (written-snoc (take at phis) (views_comps left) phi view.comps values lengths)
    ∙ ap (λ list. written (take at phis ++ list ∷ []) (views_comps left ++ view.comps ∷ []) values) here
    ∙ ap (λ list. written list (views_comps left ++ view.comps ∷ []) values) (sym (take_more phis at phi within))
    ∙ ap (λ list. written (take (at + 1) phis) list values) (sym (views_comps-snoc left view) ∙ ap views_comps (sym is))
    ∙ before

-- phis that are written, each with what it takes of the values before
one_value : (from read : Values) (phi : Phi) (n : ℕ) (comps : List ℕ) (rest : Option Phi) (f : Phi → List ℕ) (here : Bool) → nat_eq phi.value.0 n ≡ here → f phi ≡ comps
    → cond (nat_eq n phi.value.0) comps (option_map_or f rest (read n)) ≡ option_map_or f (cond here (Some phi) rest) (read n)
one_value from read phi n comps rest f true is same =
    ap (λ test. cond test comps (option_map_or f rest (read n))) (eq-eqb n phi.value.0 (sym (eqb-true phi.value.0 n is))) ∙ sym same
one_value from read phi n comps rest f false is same =
    ap (λ test. cond test comps (option_map_or f rest (read n))) (ne_eqb n phi.value.0 (λ e. true≢false (sym (eq-eqb phi.value.0 n (sym e)) ∙ is)))

written_each : (from : Option BlockId) (phis : List Phi) (read : Values) (n : ℕ)
    → written phis (map (phi_value from read) phis) read n ≡ option_map_or (phi_value from read) (find (λ phi. nat_eq phi.value.0 n) phis) (read n)
written_each from [] read n = refl
written_each from (phi ∷ phis) read n =
    ap (λ rest. cond (nat_eq n phi.value.0) (phi_value from read phi) rest) (written_each from phis read n)
    ∙ one_value read read phi n (phi_value from read phi) (find (λ p. nat_eq p.value.0 n) phis) (phi_value from read) (nat_eq phi.value.0 n) refl refl

pub written_whole : (from : Option BlockId) (phis : List Phi) (values : Values) → written phis (map (phi_value from values) phis) values ≡ run_phis from phis values
written_whole from phis values = fun_ext (written_each from phis values)

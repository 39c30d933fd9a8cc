-- A typed shader, part by part: what a run asks of each part, and that the table in which a run starts is the shader's.
use Rattle.std.proofs.Common.{◌≡◌, ◌<◌, ◌≤◌, ℕ, Bool, true, false, ◌||◌, cond, nat_eq, List, [], ◌∷◌, ◌++◌, Option, Some, None, length, map, refl, sym, ◌∙◌, ap, subst, arith}
use Rattle.std.proofs.Math.Path.{fun_ext}
use Rattle.std.specs.List.{AllByRecursion, IsDistinct, find, flat_map}
use Rattle.std.specs.Option.{option_and_then, option_map, option_map_or, option_or, option_to_list, unwrap_or}
use Rattle.std.proofs.lemmas.Bool.{eq-eqb, eqb-true, ne_eqb, true≢false}
use Rattle.list_laws.specs.AllLaws.{all_back, all_both, all_each, all_front, all_of_map}
use Rattle.std.proofs.lemmas.List.{map-append}
use Rattle.nir_ops.specs.declared.width.Width.TheVariants.{W1}
use Rattle.op_eval.specs.declared.view.View.{View}
use Rattle.nir_ir.specs.declared.ids.ValueId.{ValueId}
use Rattle.nir_ir.specs.declared.instr.Instr.{Instr}
use Rattle.nir_ir.specs.declared.instr.Instr.TheVariants.{Alu, Const, Undef, Input, Output, LoadBuf, StoreBuf}
use Rattle.nir_ir.specs.declared.kind.Kind.{Kind}
use Rattle.nir_ir.specs.declared.node.Phi.{Phi}
use Rattle.nir_ir.specs.Definitions.{instr_of, is_phi_of, is_target, kind_at, kind_of_target, phi_of}
use Rattle.nir_ir.specs.Found.{count_most}
use Rattle.nir_ir.specs.Items.{Item, BlockHead, PhiItem, InstrItem, JumpItem, IfHead, LoopHead, defines, items}
use Rattle.nir_ir.specs.Parts.{parts}
use Rattle.nir_ir.specs.Nodes.{Nodes, Nil, BlockThen, IfThen, LoopThen}
use Rattle.nir_ir.specs.Shader.{Shader}
use Rattle.nir_ir.specs.Shaped.{IsShaped, IsShapedItem}
use Rattle.nir_mean.specs.declared.outcome.Stored.{Stored}
use Rattle.nir_mean.specs.Declares.{Declared, FitIn, Shown, declared, declares, nothing_shown, shown_of, told_of}
use Rattle.nir_mean.specs.Outcome.{start}
use Rattle.nir_mean.specs.Sound.{InstrSound, NodesSound, PhiSound}
use Rattle.nir_mean.specs.State.{State, unwritten, zeros}
use Rattle.nir_mean.specs.Table.{IsTable, values_of}
use Rattle.nir_validate.specs.Typed.{ItemFits, IsTyped}
use Rattle.nir_mean.specs.Values.{Values}

-- a state of these parts
abbrev pub state_with : Values → List (List ℕ) → List (List ℕ) → List Stored → State
state_with values buffers outputs stores = record { values = values; world = record { buffers = buffers; outputs = outputs; stores = stores } }

-- the numbers of the values
number : Declared → ℕ
number value = value.0.0

number_one : (found : Option Declared) → map number (option_to_list found) ≡ map (λ id. id.0) (option_to_list (option_map (λ value. value.0) found))
unfolding number
number_one None = refl
number_one (Some value) = refl

numbers_one : (item : Item) → map number (declares item) ≡ map (λ id. id.0) (defines item)
unfolding number
numbers_one (BlockHead id) = refl
numbers_one (PhiItem phi) = refl
numbers_one (InstrItem instr) = number_one (parts instr).defines
numbers_one (JumpItem jump) = refl
numbers_one (IfHead id condition) = refl
numbers_one (LoopHead id) = refl

numbers : (list : List Item) → map number (flat_map declares list) ≡ flat_map (λ item. map (λ id. id.0) (defines item)) list
numbers [] = refl
numbers (item ∷ list) =
    map-append number (declares item) (flat_map declares list)
    ∙ ap (λ t. t ++ map number (flat_map declares list)) (numbers_one item)
    ∙ ap (λ t. map (λ id. id.0) (defines item) ++ t) (numbers list)

-- the kind of a value in a list of values
found_in : List Declared → ℕ → Option Declared
found_in values n = find (λ value. nat_eq value.0.0 n) values

Apart : ℕ → List Declared → Type 0
Apart n values = AllByRecursion (λ m. nat_eq n m ≡ false) (map number values)

found_none : (n m : ℕ) (values : List Declared) → Apart n values → nat_eq n m ≡ true → found_in values m ≡ None
unfolding found_in Apart number
found_none n m [] apart same = refl
found_none n m (value ∷ values) apart same =
    let other : nat_eq value.0.0 m ≡ false = ne_eqb value.0.0 m (λ e. true≢false (sym (eq-eqb n value.0.0 (eqb-true n m same ∙ sym e)) ∙ apart.0)) in
    ap (λ test. cond test (Some value) (find (λ v. nat_eq v.0.0 m) values)) other ∙ found_none n m values apart.1 same

AreApart : List Declared → Type 0
AreApart values = IsDistinct nat_eq (map number values)

-- each value is found under its number
self_more : (value : Declared) (values part : List Declared) → Apart value.0.0 part → AllByRecursion (λ v. found_in values v.0.0 ≡ Some v) part → AllByRecursion (λ v. found_in (value ∷ values) v.0.0 ≡ Some v) part
unfolding found_in Apart number
self_more value values [] apart all = tt
self_more value values (v ∷ part) apart all =
    (ap (λ test. cond test (Some value) (find (λ w. nat_eq w.0.0 v.0.0) values)) apart.0 ∙ all.0, self_more value values part apart.1 all.1)

self_found : (values : List Declared) → AreApart values → AllByRecursion (λ v. found_in values v.0.0 ≡ Some v) values
unfolding AreApart IsDistinct found_in Apart number
self_found [] apart = tt
self_found (value ∷ values) apart =
    (ap (λ test. cond test (Some value) (find (λ w. nat_eq w.0.0 value.0.0) values)) (eq-eqb value.0.0 value.0.0 refl), self_more value values values apart.0 (self_found values apart.1))

-- what a table shows that is told of values that differ
shown_at : Option Declared → Kind × List ℕ → Kind × List ℕ
shown_at found before = option_map_or (λ value. (value.1, zeros value.1)) found before

told_head : (value : Declared) (rest : Option Declared) (n : ℕ) (before : Kind × List ℕ) (test : Bool) → nat_eq value.0.0 n ≡ test → (nat_eq value.0.0 n ≡ true → rest ≡ None)
    → shown_at rest (cond (nat_eq n value.0.0) (value.1, zeros value.1) before) ≡ shown_at (cond (nat_eq value.0.0 n) (Some value) rest) before
unfolding shown_at
told_head value rest n before true is none =
    ap (λ found. shown_at found (cond (nat_eq n value.0.0) (value.1, zeros value.1) before)) (none is)
    ∙ ap (λ t. cond t (value.1, zeros value.1) before) (eq-eqb n value.0.0 (sym (eqb-true value.0.0 n is)))
    ∙ sym (ap (λ t. shown_at (cond t (Some value) rest) before) is)
told_head value rest n before false is none =
    ap (λ t. shown_at rest (cond t (value.1, zeros value.1) before)) (ne_eqb n value.0.0 (λ e. true≢false (sym (eq-eqb value.0.0 n (sym e)) ∙ is)))
    ∙ sym (ap (λ t. shown_at (cond t (Some value) rest) before) is)

told_found : (values : List Declared) (before : Shown) (n : ℕ) → AreApart values → told_of values before n ≡ shown_at (found_in values n) (before n)
unfolding AreApart IsDistinct found_in shown_at Apart number
told_found [] before n apart = refl
told_found (value ∷ values) before n apart =
    told_found values (λ m. cond (nat_eq m value.0.0) (value.1, zeros value.1) (before m)) n apart.1
    ∙ told_head value (found_in values n) n (before n) (nat_eq value.0.0 n) refl (λ same. found_none value.0.0 n values apart.0 same)

-- the kind of a value in a list of items
kind_among : List Item → ValueId → Option Kind
kind_among list v = option_or (option_and_then kind_of_target (find (is_target v) (flat_map instr_of list))) (option_map (λ phi. phi.kind) (find (is_phi_of v) (flat_map phi_of list)))

or_none : {A : Type 0} (a b : Option A) → option_or a b ≡ None → a ≡ None
or_none None b is = refl
or_none (Some x) b is = is

head_phi : (v : ValueId) (phi : Phi) (instrs : Option Kind) (phis : Option Phi) (rest : Option Declared) (test : Bool) → nat_eq phi.value.0 v.0 ≡ test → (nat_eq phi.value.0 v.0 ≡ true → rest ≡ None)
    → option_or instrs (option_map (λ p. p.kind) phis) ≡ option_map (λ value. value.1) rest
    → option_or instrs (option_map (λ p. p.kind) (cond (nat_eq phi.value.0 v.0) (Some phi) phis)) ≡ option_map (λ value. value.1) (cond (nat_eq phi.value.0 v.0) (Some (phi.value, phi.kind)) rest)
head_phi v phi instrs phis rest true is none same =
    let no_instr : instrs ≡ None = or_none instrs (option_map (λ p. p.kind) phis) (same ∙ ap (option_map (λ value. value.1)) (none is)) in
    ap (λ a. option_or a (option_map (λ p. p.kind) (cond (nat_eq phi.value.0 v.0) (Some phi) phis))) no_instr
    ∙ ap (λ t. option_map (λ p. p.kind) (cond t (Some phi) phis)) is
    ∙ sym (ap (λ t. option_map (λ value. value.1) (cond t (Some (phi.value, phi.kind)) rest)) is)
head_phi v phi instrs phis rest false is none same =
    ap (λ t. option_or instrs (option_map (λ p. p.kind) (cond t (Some phi) phis))) is
    ∙ same
    ∙ sym (ap (λ t. option_map (λ value. value.1) (cond t (Some (phi.value, phi.kind)) rest)) is)

or_false : (b : Bool) → (b || false) ≡ b
or_false true = refl
or_false false = refl

head_instr : (id v : ValueId) (kind : Kind) (instr : Instr) (instrs : Option Instr) (others : Option Kind) (rest : Option Declared) (test : Bool) → nat_eq id.0 v.0 ≡ test → kind_of_target instr ≡ Some kind
    → option_or (option_and_then kind_of_target instrs) others ≡ option_map (λ value. value.1) rest
    → option_or (option_and_then kind_of_target (cond (nat_eq id.0 v.0 || false) (Some instr) instrs)) others ≡ option_map (λ value. value.1) (cond (nat_eq id.0 v.0) (Some (id, kind)) rest)
head_instr id v kind instr instrs others rest true is kinded same =
    ap (λ t. option_or (option_and_then kind_of_target (cond (t || false) (Some instr) instrs)) others) is
    ∙ ap (λ k. option_or k others) kinded
    ∙ sym (ap (λ t. option_map (λ value. value.1) (cond t (Some (id, kind)) rest)) is)
head_instr id v kind instr instrs others rest false is kinded same =
    ap (λ t. option_or (option_and_then kind_of_target (cond (t || false) (Some instr) instrs)) others) is
    ∙ same
    ∙ sym (ap (λ t. option_map (λ value. value.1) (cond t (Some (id, kind)) rest)) is)

kind_told : (list : List Item) (v : ValueId) → AreApart (flat_map declares list) → kind_among list v ≡ option_map (λ value. value.1) (found_in (flat_map declares list) v.0)
unfolding AreApart IsDistinct kind_among found_in Apart number
kind_told [] v apart = refl
kind_told (BlockHead id ∷ list) v apart = kind_told list v apart
kind_told (PhiItem phi ∷ list) v apart =
    head_phi v phi (option_and_then kind_of_target (find (is_target v) (flat_map instr_of list))) (find (is_phi_of v) (flat_map phi_of list)) (found_in (flat_map declares list) v.0) (nat_eq phi.value.0 v.0) refl
    (λ same. found_none phi.value.0 v.0 (flat_map declares list) apart.0 same) (kind_told list v apart.1)
kind_told (InstrItem (Alu id op kind srcs) ∷ list) v apart =
    head_instr id v kind (Alu id op kind srcs) (find (is_target v) (flat_map instr_of list)) (option_map (λ phi. phi.kind) (find (is_phi_of v) (flat_map phi_of list))) (found_in (flat_map declares list) v.0) (nat_eq id.0 v.0) refl refl (kind_told list v apart.1)
kind_told (InstrItem (Const id kind comps) ∷ list) v apart =
    head_instr id v kind (Const id kind comps) (find (is_target v) (flat_map instr_of list)) (option_map (λ phi. phi.kind) (find (is_phi_of v) (flat_map phi_of list))) (found_in (flat_map declares list) v.0) (nat_eq id.0 v.0) refl refl (kind_told list v apart.1)
kind_told (InstrItem (Undef id kind) ∷ list) v apart =
    head_instr id v kind (Undef id kind) (find (is_target v) (flat_map instr_of list)) (option_map (λ phi. phi.kind) (find (is_phi_of v) (flat_map phi_of list))) (found_in (flat_map declares list) v.0) (nat_eq id.0 v.0) refl refl (kind_told list v apart.1)
kind_told (InstrItem (Input id kind slot) ∷ list) v apart =
    head_instr id v kind (Input id kind slot) (find (is_target v) (flat_map instr_of list)) (option_map (λ phi. phi.kind) (find (is_phi_of v) (flat_map phi_of list))) (found_in (flat_map declares list) v.0) (nat_eq id.0 v.0) refl refl (kind_told list v apart.1)
kind_told (InstrItem (Output effect slot src) ∷ list) v apart = kind_told list v apart
kind_told (InstrItem (LoadBuf id kind buffer offset) ∷ list) v apart =
    head_instr id v kind (LoadBuf id kind buffer offset) (find (is_target v) (flat_map instr_of list)) (option_map (λ phi. phi.kind) (find (is_phi_of v) (flat_map phi_of list))) (found_in (flat_map declares list) v.0) (nat_eq id.0 v.0) refl refl (kind_told list v apart.1)
kind_told (InstrItem (StoreBuf effect buffer offset src) ∷ list) v apart = kind_told list v apart
kind_told (JumpItem jump ∷ list) v apart = kind_told list v apart
kind_told (IfHead id condition ∷ list) v apart = kind_told list v apart
kind_told (LoopHead id ∷ list) v apart = kind_told list v apart

apart : (s : Shader) → IsShaped s → AreApart (declared s.body)
unfolding AreApart
apart s shaped = subst (λ (list : List ℕ). IsDistinct nat_eq list) (sym (numbers (items s.body))) shaped.values

kind_found : (s : Shader) (v : ValueId) → IsShaped s → kind_at s.body v ≡ option_map (λ value. value.1) (found_in (declared s.body) v.0)
unfolding kind_among
kind_found s v shaped = kind_told (items s.body) v (apart s shaped)

-- the counts of components
few_items : (list : List Item) → AllByRecursion IsShapedItem list → AllByRecursion (λ value. value.1.count ≤ 4) (flat_map declares list)
few_items [] all = tt
few_items (BlockHead id ∷ list) all = few_items list all.1
few_items (PhiItem phi ∷ list) all = (count_most phi.kind.count all.0.0, few_items list all.1)
few_items (InstrItem (Alu id op kind srcs) ∷ list) all = (count_most kind.count all.0.0, few_items list all.1)
few_items (InstrItem (Const id kind comps) ∷ list) all = (count_most kind.count all.0.0, few_items list all.1)
few_items (InstrItem (Undef id kind) ∷ list) all = (count_most kind.count all.0, few_items list all.1)
few_items (InstrItem (Input id kind slot) ∷ list) all = (count_most kind.count all.0, few_items list all.1)
few_items (InstrItem (Output effect slot src) ∷ list) all = few_items list all.1
few_items (InstrItem (LoadBuf id kind buffer offset) ∷ list) all = (count_most kind.count all.0, few_items list all.1)
few_items (InstrItem (StoreBuf effect buffer offset src) ∷ list) all = few_items list all.1
few_items (JumpItem jump ∷ list) all = few_items list all.1
few_items (IfHead id condition ∷ list) all = few_items list all.1
few_items (LoopHead id ∷ list) all = few_items list all.1

below : (s : Shader) → IsShaped s → AllByRecursion (λ value. value.0.0 < s.next_value) (declared s.body)
unfolding number
below s shaped = all_of_map number (λ n. n < s.next_value) (declared s.body) (subst (λ (list : List ℕ). AllByRecursion (λ n. n < s.next_value) list) (sym (numbers (items s.body))) shaped.below)

pub all_fit : (s : Shader) → IsShaped s → FitIn s.next_value (declared s.body)
all_fit s shaped =
    all_both (λ value. value.0.0 < s.next_value) (λ value. value.1.count ≤ 16) (declared s.body) (below s shaped)
    (all_each (λ value. value.1.count ≤ 4) (λ value. value.1.count ≤ 16) (λ value few. omega arith) (declared s.body) (few_items (items s.body) shaped.items))

-- the table that is told of all values of a shader is the shader's
shown_kind : (found : Option Declared) (before : Kind × List ℕ) → (shown_at found before).0 ≡ unwrap_or (option_map (λ value. value.1) found) before.0
unfolding shown_at
shown_kind None before = refl
shown_kind (Some value) before = refl

shown_zeros : (found : Option Declared) (before : Kind × List ℕ) → (shown_at found before).1 ≡ option_map_or zeros (option_map (λ value. value.1) found) before.1
unfolding shown_at
shown_zeros None before = refl
shown_zeros (Some value) before = refl

pub start_table : (s : Shader) (table : List View) → IsShaped s → length table ≡ s.next_value → shown_of table ≡ told_of (declared s.body) nothing_shown → IsTable s table
start_table s table shaped len shown = record {
  whole = len;
  kinds = λ id.
      ap (λ (f : Shown). (f id.0).0) shown
      ∙ ap (λ (pair : Kind × List ℕ). pair.0) (told_found (declared s.body) nothing_shown id.0 (apart s shaped))
      ∙ shown_kind (found_in (declared s.body) id.0) (nothing_shown id.0)
      ∙ sym (ap (λ found. unwrap_or found (record { width = W1; count = 0 })) (kind_found s id shaped));
}

pub start_values : (s : Shader) (table : List View) → IsShaped s → shown_of table ≡ told_of (declared s.body) nothing_shown → values_of table ≡ unwritten s.body
start_values s table shaped shown = fun_ext (λ n.
    let id : ValueId = record { 0 = n } in
    ap (λ (f : Shown). (f n).1) shown
    ∙ ap (λ (pair : Kind × List ℕ). pair.1) (told_found (declared s.body) nothing_shown n (apart s shaped))
    ∙ shown_zeros (found_in (declared s.body) n) (nothing_shown n)
    ∙ sym (ap (λ found. option_map_or zeros found []) (kind_found s id shaped)))

-- each value is one of the shader, of its kind
Defined : Shader → Declared → Type 0
Defined s value = (value.0.0 < s.next_value) × (kind_at s.body value.0 ≡ Some value.1)

all_defined : (s : Shader) → IsShaped s → AllByRecursion (Defined s) (declared s.body)
unfolding Defined
all_defined s shaped =
    all_both (λ value. value.0.0 < s.next_value) (λ value. kind_at s.body value.0 ≡ Some value.1) (declared s.body) (below s shaped)
    (all_each (λ value. found_in (declared s.body) value.0.0 ≡ Some value) (λ value. kind_at s.body value.0 ≡ Some value.1) (λ value found. kind_found s value.0 shaped ∙ ap (option_map (λ (v : Declared). v.1)) found) (declared s.body)
    (self_found (declared s.body) (apart s shaped)))

-- what a run asks of an item
SoundItem : Shader → Item → Type 0
SoundItem s (BlockHead id) = Unit {0}
SoundItem s (PhiItem phi) = PhiSound s phi
SoundItem s (InstrItem instr) = InstrSound s instr
SoundItem s (JumpItem jump) = Unit {0}
SoundItem s (IfHead id condition) = Unit {0}
SoundItem s (LoopHead id) = Unit {0}

sound_items : (s : Shader) (list : List Item) → AllByRecursion (Defined s) (flat_map declares list) → AllByRecursion IsShapedItem list → AllByRecursion (ItemFits s) list → AllByRecursion (SoundItem s) list
unfolding Defined SoundItem
sound_items s [] defined shaped fits = tt
sound_items s (BlockHead id ∷ list) defined shaped fits = (tt, sound_items s list defined shaped.1 fits.1)
sound_items s (PhiItem phi ∷ list) defined shaped fits = (record { shaped = shaped.0; sources = fits.0; defines = defined.0 }, sound_items s list defined.1 shaped.1 fits.1)
sound_items s (InstrItem (Alu id op kind srcs) ∷ list) defined shaped fits = (record { shaped = shaped.0; fits = fits.0; defines = defined.0 }, sound_items s list defined.1 shaped.1 fits.1)
sound_items s (InstrItem (Const id kind comps) ∷ list) defined shaped fits = (record { shaped = shaped.0; fits = fits.0; defines = defined.0 }, sound_items s list defined.1 shaped.1 fits.1)
sound_items s (InstrItem (Undef id kind) ∷ list) defined shaped fits = (record { shaped = shaped.0; fits = fits.0; defines = defined.0 }, sound_items s list defined.1 shaped.1 fits.1)
sound_items s (InstrItem (Input id kind slot) ∷ list) defined shaped fits = (record { shaped = shaped.0; fits = fits.0; defines = defined.0 }, sound_items s list defined.1 shaped.1 fits.1)
sound_items s (InstrItem (Output effect slot src) ∷ list) defined shaped fits = (record { shaped = shaped.0; fits = fits.0; defines = tt }, sound_items s list defined shaped.1 fits.1)
sound_items s (InstrItem (LoadBuf id kind buffer offset) ∷ list) defined shaped fits = (record { shaped = shaped.0; fits = fits.0; defines = defined.0 }, sound_items s list defined.1 shaped.1 fits.1)
sound_items s (InstrItem (StoreBuf effect buffer offset src) ∷ list) defined shaped fits = (record { shaped = shaped.0; fits = fits.0; defines = tt }, sound_items s list defined shaped.1 fits.1)
sound_items s (JumpItem jump ∷ list) defined shaped fits = (tt, sound_items s list defined shaped.1 fits.1)
sound_items s (IfHead id condition ∷ list) defined shaped fits = (tt, sound_items s list defined shaped.1 fits.1)
sound_items s (LoopHead id ∷ list) defined shaped fits = (tt, sound_items s list defined shaped.1 fits.1)

sound_nodes : (s : Shader) (nodes : Nodes) → AllByRecursion (SoundItem s) (items nodes) → NodesSound s nodes
unfolding SoundItem
sound_nodes s Nil all = tt
sound_nodes s (BlockThen b rest) all =
    let heads : List Item = BlockHead b.id ∷ map PhiItem b.phis in
    let inner : List Item = map InstrItem b.instrs in
    let jumps : List Item = map JumpItem (option_to_list b.jump) in
    let here = all_front (SoundItem s) (heads ++ inner ++ jumps) (items rest) all in
    let front = all_front (SoundItem s) (heads ++ inner) jumps here in (
      record {
        phis = all_of_map PhiItem (SoundItem s) b.phis (all_front (SoundItem s) heads inner front).1;
        instrs = all_of_map InstrItem (SoundItem s) b.instrs (all_back (SoundItem s) heads inner front);
      },
      sound_nodes s rest (all_back (SoundItem s) (heads ++ inner ++ jumps) (items rest) all),
    )
sound_nodes s (IfThen id condition first second rest) all =
    let lists = all_front (SoundItem s) (items first ++ items second) (items rest) all.1 in (
      sound_nodes s first (all_front (SoundItem s) (items first) (items second) lists),
      sound_nodes s second (all_back (SoundItem s) (items first) (items second) lists),
      sound_nodes s rest (all_back (SoundItem s) (items first ++ items second) (items rest) all.1),
    )
sound_nodes s (LoopThen id body rest) all = (
  sound_nodes s body (all_front (SoundItem s) (items body) (items rest) all.1),
  sound_nodes s rest (all_back (SoundItem s) (items body) (items rest) all.1),
)

pub typed_sound : (s : Shader) → IsShaped s → IsTyped s → NodesSound s s.body
typed_sound s shaped typed = sound_nodes s s.body (sound_items s (items s.body) (all_defined s shaped) shaped.items typed.items)

-- the state in which a run starts
pub start_state : (s : Shader) (values : Values) (buffers given outputs : List (List ℕ)) (stores : List Stored) → values ≡ unwritten s.body → buffers ≡ given → outputs ≡ map zeros s.outputs → stores ≡ []
    → state_with values buffers outputs stores ≡ start s given
start_state s values buffers given outputs stores same_values same_buffers same_outputs none =
    ap (λ v. state_with v buffers outputs stores) same_values
    ∙ ap (λ b. state_with (unwritten s.body) b outputs stores) same_buffers
    ∙ ap (λ o. state_with (unwritten s.body) given o stores) same_outputs
    ∙ ap (λ list. state_with (unwritten s.body) given (map zeros s.outputs) list) none

-- The occurrences of variables are noted where those of one variable have one size, and then each is known.
use Rattle.op_eval.specs.Sizes.{same_width-refl, same_width-same}
use Rattle.op_eval.specs.Calls.{same_width}
use Rattle.std.specs.Prelude.{◌≡◌, refl, ◌<◌, ℕ, zero, suc, Bool, true, not, ◌&&◌, Option, Some, None, List, [], ◌∷◌, ◌++◌, length, cond, map, nat_eq, nat_lt, slice_get, replicate}
use Rattle.std.proofs.Common.{◌∙◌, ◌⊎◌, ap, sym, subst, arith, set, ⊎_elim, inl, inr}
use Rattle.std.proofs.lemmas.Bool.{and_parts, and_from, or_cases, or_left, or_right, ltb-true, eqb-true, eq-eqb, cases_Bool, false≢true, cases_order}
use Rattle.std.proofs.lemmas.List.{length-set, length-replicate}
use Rattle.std.proofs.lemmas.List.Folds.{list_all-append, list_any-append}
use Rattle.std.proofs.lemmas.Option.{none-some, same_Some}
use Rattle.std.specs.List.{list_all, list_any}
use Rattle.std.specs.Option.{option_and_then}
use Rattle.list_laws.specs.OptionLaws.{between, if_some}
use Rattle.list_laws.specs.PlaceLaws.{get_set_other, get_set_same}
use Rattle.nir_ops.specs.declared.width.Width.{Width}
use Rattle.rule_term.specs.Typings.{Occurrence, alike, agree}
use Rattle.rule_term.specs.ReplaceLeast.{is_known, knows, noted, noted_at, noted_one}

abbrev pub Known : Type 0
Known = List (Option Width)

get_within : {A : Type 0} (list : List A) (i : ℕ) → i < length list → (x : A) × (slice_get list i ≡ Some x)
get_within [] i within = absurd (omega arith)
get_within (x ∷ list) zero within = (x, refl)
get_within (x ∷ list) (suc i) within = get_within list i (omega arith)

-- a size is known of a variable at most once
pub known_once : (o : Option (Option Width)) (v w : Width) → is_known o v ≡ true → is_known o w ≡ true → v ≡ w
known_once None v w first second = absurd (false≢true first)
known_once (Some None) v w first second = absurd (false≢true first)
known_once (Some (Some known)) v w first second = sym (same_width-same known v first) ∙ same_width-same known w second

-- how one note changes what is known
pub record IsNoted (var : ℕ) (width : Width) (before after : Known) : Type 0 where
  pub kept : (v : ℕ) (w : Width) → knows before v w ≡ true → knows after v w ≡ true
  pub noted : knows after var width ≡ true
  pub new : (v : ℕ) (w : Width) → knows after v w ≡ true → (knows before v w ≡ true) ⊎ ((v ≡ var) × (w ≡ width))
  pub long : length after ≡ length before

noted_new : (var : ℕ) (width : Width) (before : Known) → slice_get before var ≡ Some None → IsNoted var width before (set before var (Some width))
noted_new var width before free =
    let written = get_set_same before var None (Some width) free in
    record {
      kept = λ v w h.
          let other : v ≡ var → ⊥ = λ e. false≢true (sym (ap (λ o. is_known o w) (ap (slice_get before) e ∙ free)) ∙ h) in
          ap (λ o. is_known o w) (get_set_other before var v (Some width) other) ∙ h;
      noted = ap (λ o. is_known o width) written ∙ same_width-refl width;
      new = λ v w h. ⊎_elim
          (λ same. inr (same, sym (same_width-same width w (sym (ap (λ o. is_known o w) (ap (slice_get (set before var (Some width))) same ∙ written)) ∙ h))))
          (λ apart. inl (sym (ap (λ o. is_known o w) (get_set_other before var v (Some width) (λ e. ⊎_elim (λ less. absurd (omega arith)) (λ more. absurd (omega arith)) apart))) ∙ h))
          (cases_order v var);
      long = length-set before var (Some width);
    }

noted_same : (var : ℕ) (width old : Width) (before after : Known) → slice_get before var ≡ Some (Some old) → same_width old width ≡ true → before ≡ after → IsNoted var width before after
noted_same var width old before after there same e = subst (IsNoted var width before) e (record {
  kept = λ v w h. h;
  noted = ap (λ o. is_known o width) there ∙ same;
  new = λ v w h. inl h;
  long = refl;
})

one_noted_at : (o : Option (Option Width)) (var : ℕ) (width : Width) (before after : Known) → slice_get before var ≡ o → noted_at o var width before ≡ Some after → IsNoted var width before after
one_noted_at None var width before after is e = absurd (none-some after e)
one_noted_at (Some None) var width before after is e = subst (IsNoted var width before) (same_Some (set before var (Some width)) after e) (noted_new var width before is)
one_noted_at (Some (Some old)) var width before after is e = let parts = if_some (same_width old width) (Some before) after e in noted_same var width old before after is parts.0 (same_Some before after parts.1)

pub one_noted : (var : ℕ) (width : Width) (before after : Known) → noted_one var width before ≡ Some after → IsNoted var width before after
one_noted var width before after e = one_noted_at (slice_get before var) var width before after refl e

-- what is noted is known
pub noted_known : (list : List Occurrence) (before after : Known) → noted list before ≡ Some after → ((v : ℕ) (w : Width) → knows before v w ≡ true → knows after v w ≡ true) × (list_all (λ o. knows after o.var o.width) list ≡ true)
noted_known [] before after e = let same = same_Some before after e in (λ v w h. subst (λ (k : Known). knows k v w ≡ true) same h, refl)
noted_known (o ∷ rest) before after e =
    let step = between (noted_one o.var o.width before) (noted rest) after e in
    let here = one_noted o.var o.width before step.middle step.before in
    let later = noted_known rest step.middle after step.behind in
    (λ v w h. later.0 v w (here.kept v w h), and_from (knows after o.var o.width) (list_all (λ o. knows after o.var o.width) rest) (later.0 o.var o.width here.noted) later.1)

-- occurrences whose sizes are known agree
alike_known : (known : Known) (a b : Occurrence) → knows known a.var a.width ≡ true → knows known b.var b.width ≡ true → alike a b ≡ true
alike_known known a b first second =
    ⊎_elim
    (λ same.
    let e = eqb-true a.var b.var same in
    let one = known_once (slice_get known b.var) a.width b.width (sym (ap (λ v. knows known v a.width) e) ∙ first) second in
    or_right (not (nat_eq a.var b.var)) (same_width a.width b.width) (ap (λ w. same_width w b.width) one ∙ same_width-refl b.width))
    (λ apart. or_left (not (nat_eq a.var b.var)) (same_width a.width b.width) (ap not apart))
    (cases_Bool (nat_eq a.var b.var))

all_alike : (known : Known) (a : Occurrence) (list : List Occurrence) → knows known a.var a.width ≡ true → list_all (λ o. knows known o.var o.width) list ≡ true → list_all (alike a) list ≡ true
all_alike known a [] here all = refl
all_alike known a (b ∷ list) here all =
    let parts = and_parts (knows known b.var b.width) (list_all (λ o. knows known o.var o.width) list) all in
    and_from (alike a b) (list_all (alike a) list) (alike_known known a b here parts.0) (all_alike known a list here parts.1)

all_agree : (known : Known) (list others : List Occurrence) → list_all (λ o. knows known o.var o.width) list ≡ true → list_all (λ o. knows known o.var o.width) others ≡ true → list_all (λ a. list_all (alike a) others) list ≡ true
all_agree known [] others all known_others = refl
all_agree known (a ∷ list) others all known_others =
    let parts = and_parts (knows known a.var a.width) (list_all (λ o. knows known o.var o.width) list) all in
    and_from (list_all (alike a) others) (list_all (λ a. list_all (alike a) others) list) (all_alike known a others parts.0 known_others) (all_agree known list others parts.1 known_others)

pub known_agree : (known : Known) (list : List Occurrence) → list_all (λ o. knows known o.var o.width) list ≡ true → agree list ≡ true
known_agree known list all = all_agree known list list all all

-- a variable occurs with a size
abbrev pub occurs : ℕ → Width → List Occurrence → Bool
occurs var width list = list_any (λ o. nat_eq o.var var && same_width o.width width) list

pub picked : (p q : Occurrence → Bool) (list : List Occurrence) → list_all p list ≡ true → list_any q list ≡ true → (o : Occurrence) × (p o ≡ true) × (q o ≡ true)
picked p q [] all some = absurd (false≢true some)
picked p q (o ∷ list) all some =
    let parts = and_parts (p o) (list_all p list) all in
    ⊎_elim (λ here. (o, parts.0, here)) (λ later. picked p q list parts.1 later) (or_cases (q o) (list_any q list) some)

alike_sizes : (a b : Occurrence) → a.var ≡ b.var → alike a b ≡ true → a.width ≡ b.width
alike_sizes a b same like =
    ⊎_elim
    (λ apart. absurd (false≢true (sym (ap not (eq-eqb a.var b.var same)) ∙ apart)))
    (λ sizes. same_width-same a.width b.width sizes)
    (or_cases (not (nat_eq a.var b.var)) (same_width a.width b.width) like)

-- where occurrences agree a variable has one size
pub one_size : (list : List Occurrence) (var : ℕ) (v w : Width) → agree list ≡ true → occurs var v list ≡ true → occurs var w list ≡ true → v ≡ w
one_size list var v w agreed first second =
    let a = picked (λ a. list_all (alike a) list) (λ o. nat_eq o.var var && same_width o.width v) list agreed first in
    let b = picked (alike a.0) (λ o. nat_eq o.var var && same_width o.width w) list a.1 second in
    let of_a = and_parts (nat_eq a.0.var var) (same_width a.0.width v) a.2 in
    let of_b = and_parts (nat_eq b.0.var var) (same_width b.0.width w) b.2 in
    sym (same_width-same a.0.width v of_a.1)
    ∙ alike_sizes a.0 b.0 (eqb-true a.0.var var of_a.0 ∙ sym (eqb-true b.0.var var of_b.0)) b.1
    ∙ same_width-same b.0.width w of_b.1

occurs_here : (o : Occurrence) (list : List Occurrence) → occurs o.var o.width (o ∷ list) ≡ true
occurs_here o list =
    or_left (nat_eq o.var o.var && same_width o.width o.width) (occurs o.var o.width list)
    (and_from (nat_eq o.var o.var) (same_width o.width o.width) (eq-eqb o.var o.var refl) (same_width-refl o.width))

noted_where : (o : Option (Option Width)) (x : Option Width) (var : ℕ) (width : Width) (known : Known) → o ≡ Some x → ((old : Width) → x ≡ Some old → old ≡ width) → (next : Known) × (noted_at o var width known ≡ Some next)
noted_where o None var width known is same = (set known var (Some width), ap (λ o. noted_at o var width known) is)
noted_where o (Some old) var width known is same =
    (known, ap (λ o. noted_at o var width known) is ∙ ap (λ b. cond b (Some known) None) (ap (λ w. same_width w width) (same old refl) ∙ same_width-refl width))

-- occurrences that agree are noted, where there is a place for each variable
pub agreed_noted : (whole list : List Occurrence) (known : Known) → agree whole ≡ true → ((v : ℕ) (w : Width) → occurs v w list ≡ true → occurs v w whole ≡ true) → ((v : ℕ) (w : Width) → knows known v w ≡ true → occurs v w whole ≡ true)
    → list_all (λ var. nat_lt var (length known)) (map (λ o. o.var) list) ≡ true → (after : Known) × (noted list known ≡ Some after)
agreed_noted whole [] known agreed inside from room = (known, refl)
agreed_noted whole (o ∷ rest) known agreed inside from room =
    let parts = and_parts (nat_lt o.var (length known)) (list_all (λ var. nat_lt var (length known)) (map (λ o. o.var) rest)) room in
    let place = get_within known o.var (ltb-true o.var (length known) parts.0) in
    let own = inside o.var o.width (occurs_here o rest) in
    let step = noted_where (slice_get known o.var) place.0 o.var o.width known place.1
    (λ old e. one_size whole o.var old o.width agreed (from o.var old (ap (λ x. is_known x old) (place.1 ∙ ap Some e) ∙ same_width-refl old)) own) in
    let here = one_noted o.var o.width known step.0 step.1 in
    let later = agreed_noted whole rest step.0 agreed
    (λ v w h. inside v w (or_right (nat_eq o.var v && same_width o.width w) (occurs v w rest) h))
    (λ v w h. ⊎_elim (λ old. from v w old) (λ new. ap (λ x. occurs x w whole) new.0 ∙ ap (λ x. occurs o.var x whole) new.1 ∙ own) (here.new v w h))
    (subst (λ (n : ℕ). list_all (λ var. nat_lt var n) (map (λ o. o.var) rest) ≡ true) (sym here.long) parts.1) in
    (later.0, ap (option_and_then (noted rest)) step.1 ∙ later.1)

-- nothing is known at first
nothing_at : (n i : ℕ) (w : Width) → is_known (slice_get (replicate n None) i) w ≡ true → ⊥
nothing_at zero i w h = false≢true h
nothing_at (suc n) zero w h = false≢true h
nothing_at (suc n) (suc i) w h = nothing_at n i w h

-- an occurrence of a variable that occurs among those that are known is known
known_among : (whole : List Occurrence) (known : Known) (list : List Occurrence) (o : Occurrence) → agree whole ≡ true → occurs o.var o.width whole ≡ true → ((v : ℕ) (w : Width) → occurs v w list ≡ true → occurs v w whole ≡ true) → list_any (nat_eq o.var) (map (λ a. a.var) list) ≡ true → list_all (λ a. knows known a.var a.width) list ≡ true → knows known o.var o.width ≡ true
known_among whole known [] o agreed own inside there all = absurd (false≢true there)
known_among whole known (a ∷ list) o agreed own inside there all =
    let parts = and_parts (knows known a.var a.width) (list_all (λ a. knows known a.var a.width) list) all in
    ⊎_elim
    (λ here.
    let same = eqb-true o.var a.var here in
    let size = one_size whole o.var a.width o.width agreed (ap (λ v. occurs v a.width whole) same ∙ inside a.var a.width (occurs_here a list)) own in
    ap (λ v. knows known v o.width) same ∙ ap (knows known a.var) (sym size) ∙ parts.0)
    (λ later. known_among whole known list o agreed own (λ v w h. inside v w (or_right (nat_eq a.var v && same_width a.width w) (occurs v w list) h)) later parts.1)
    (or_cases (nat_eq o.var a.var) (list_any (nat_eq o.var) (map (λ a. a.var) list)) there)

known_rest : (whole : List Occurrence) (known : Known) (list others : List Occurrence) → agree whole ≡ true → ((v : ℕ) (w : Width) → occurs v w list ≡ true → occurs v w whole ≡ true) → ((v : ℕ) (w : Width) → occurs v w others ≡ true → occurs v w whole ≡ true)
    → list_all (λ o. list_any (nat_eq o.var) (map (λ a. a.var) list)) others ≡ true → list_all (λ a. knows known a.var a.width) list ≡ true → list_all (λ o. knows known o.var o.width) others ≡ true
known_rest whole known list [] agreed inside own covered all = refl
known_rest whole known list (o ∷ others) agreed inside own covered all =
    let parts = and_parts (list_any (nat_eq o.var) (map (λ a. a.var) list)) (list_all (λ o. list_any (nat_eq o.var) (map (λ a. a.var) list)) others) covered in
    and_from (knows known o.var o.width) (list_all (λ o. knows known o.var o.width) others)
    (known_among whole known list o agreed (own o.var o.width (occurs_here o others)) inside parts.0 all)
    (known_rest whole known list others agreed inside (λ v w h. own v w (or_right (nat_eq o.var v && same_width o.width w) (occurs v w others) h)) parts.1 all)

-- occurrences agree with those of a search side exactly where these are noted, and they are known
module _ (searched replaced : List Occurrence) where
  in_first : (v : ℕ) (w : Width) → occurs v w searched ≡ true → occurs v w (searched ++ replaced) ≡ true
  in_first v w h = list_any-append (λ o. nat_eq o.var v && same_width o.width w) searched replaced ∙ or_left (occurs v w searched) (occurs v w replaced) h

  in_second : (v : ℕ) (w : Width) → occurs v w replaced ≡ true → occurs v w (searched ++ replaced) ≡ true
  in_second v w h = list_any-append (λ o. nat_eq o.var v && same_width o.width w) searched replaced ∙ or_right (occurs v w searched) (occurs v w replaced) h

  pub searched_noted : (n : ℕ) → agree (searched ++ replaced) ≡ true → list_all (λ var. nat_lt var n) (map (λ o. o.var) searched) ≡ true → (after : Known) × (noted searched (replicate n None) ≡ Some after)
  searched_noted n agreed room =
      agreed_noted (searched ++ replaced) searched (replicate n None) agreed in_first (λ v w h. absurd (nothing_at n v w h))
      (subst (λ (k : ℕ). list_all (λ var. nat_lt var k) (map (λ o. o.var) searched) ≡ true) (sym (length-replicate n None)) room)

  pub replaced_known : (n : ℕ) (after : Known) → agree (searched ++ replaced) ≡ true → list_all (λ o. list_any (nat_eq o.var) (map (λ a. a.var) searched)) replaced ≡ true → noted searched (replicate n None) ≡ Some after → list_all (λ o. knows after o.var o.width) replaced ≡ true
  replaced_known n after agreed covered made =
      known_rest (searched ++ replaced) after searched replaced agreed in_first in_second covered (noted_known searched (replicate n None) after made).1

  pub all_known : (n : ℕ) (after : Known) → noted searched (replicate n None) ≡ Some after → list_all (λ o. knows after o.var o.width) replaced ≡ true → agree (searched ++ replaced) ≡ true
  all_known n after made known =
      known_agree after (searched ++ replaced)
      (list_all-append (λ o. knows after o.var o.width) searched replaced
      ∙ and_from (list_all (λ o. knows after o.var o.width) searched) (list_all (λ o. knows after o.var o.width) replaced) (noted_known searched (replicate n None) after made).1 known)

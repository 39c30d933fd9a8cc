-- What a part of a text makes of the numbers: it defines the next ones in order, uses only what the text defines, and its items are shaped.
use Rattle.std.proofs.Common.{◌≡◌, ℕ, ◌<◌, ◌≤◌, List, [], ◌∷◌, ◌++◌, map, length, flat_map, sym, ap, subst, arith, append-nil}
use Rattle.std.specs.List.{AllByRecursion}
use Rattle.std.proofs.lemmas.Grind.{flat_map-append}
use Rattle.nir_ir.specs.Items.{Item, defines, uses, names_blocks, blocks_of, effects_of, ifs_of, loops_of}
use Rattle.nir_ir.specs.Shaped.{IsShapedItem}
use Rattle.nir_text.specs.declared.counts.Counts as counts
use Rattle.nir_text.specs.Naming.{Naming}
use Rattle.nir_text.specs.Reading.{Point}
use Rattle.list_laws.specs.AllLaws.{all_append}
use Rattle.nir_text.proofs.ShapedLists.{Counts, Counts-none, Counts-then}
use Rattle.nir_text.proofs.ShapedPoints.{Stands, Passes}

-- ---- the numbers of lists of items

abbrev pub values_of_items : List Item → List ℕ
values_of_items list = flat_map (λ item. map (λ id. id.0) (defines item)) list

abbrev pub blocks_of_items : List Item → List ℕ
blocks_of_items list = flat_map (λ item. map (λ id. id.0) (blocks_of item)) list

abbrev pub effects_of_items : List Item → List ℕ
effects_of_items list = flat_map (λ item. map (λ id. id.0) (effects_of item)) list

abbrev pub ifs_of_items : List Item → List ℕ
ifs_of_items list = flat_map (λ item. map (λ id. id.0) (ifs_of item)) list

abbrev pub loops_of_items : List Item → List ℕ
loops_of_items list = flat_map (λ item. map (λ id. id.0) (loops_of item)) list

abbrev pub used_by_items : List Item → List ℕ
used_by_items list = flat_map (λ item. map (λ id. id.0) (uses item)) list

abbrev pub named_by_items : List Item → List ℕ
named_by_items list = flat_map (λ item. map (λ id. id.0) (names_blocks item)) list

Counts-flat : (f : Item → List ℕ) (a b c : ℕ) (xs ys : List Item) → Counts a b (flat_map f xs) → Counts b c (flat_map f ys) → Counts a c (flat_map f (xs ++ ys))
Counts-flat f a b c xs ys first second = subst (Counts a c) (sym (flat_map-append f xs ys)) (Counts-then a b c (flat_map f xs) (flat_map f ys) first second)

All-flat : (P : ℕ → Type 0) (f : Item → List ℕ) (xs ys : List Item) → AllByRecursion P (flat_map f xs) → AllByRecursion P (flat_map f ys) → AllByRecursion P (flat_map f (xs ++ ys))
All-flat P f xs ys first second = subst (AllByRecursion P) (sym (flat_map-append f xs ys)) (all_append P (flat_map f xs) (flat_map f ys) first second)

-- no more values are defined than may be
abbrev pub AreFew : Point → Point → Type 0
AreFew p q = p.counts.values ≤ 16384 → q.counts.values ≤ 16384

pub AreFew-kept : (p q : Point) → q.counts.values ≡ p.counts.values → AreFew p q
AreFew-kept p q same few = subst (λ (n : ℕ). n ≤ 16384) (sym same) few

module _ (names : Naming) (total : counts.Counts) where
  -- the part between two points is these items
  pub record Reads (p q : Point) (list : List Item) : Type 0 where
    pub values : Counts p.counts.values q.counts.values (values_of_items list)
    pub few : AreFew p q
    pub blocks : Counts p.counts.blocks q.counts.blocks (blocks_of_items list)
    pub effects : Counts p.counts.effects q.counts.effects (effects_of_items list)
    pub ifs : Counts p.counts.ifs q.counts.ifs (ifs_of_items list)
    pub loops : Counts p.counts.loops q.counts.loops (loops_of_items list)
    pub used : AllByRecursion (λ v. v < total.values) (used_by_items list)
    pub named : AllByRecursion (λ b. b < total.blocks) (named_by_items list)
    pub shaped : AllByRecursion IsShapedItem list
    pub shorter : length q.rest ≤ length p.rest
    pub stands : Stands names total q.rest

  pub Reads-none : (p q : Point) → Passes names total p q → Reads p q []
  Reads-none p q passes = record {
    values = Counts-none p.counts.values q.counts.values (ap (λ c. c.values) passes.counts);
    few = AreFew-kept p q (ap (λ c. c.values) passes.counts);
    blocks = Counts-none p.counts.blocks q.counts.blocks (ap (λ c. c.blocks) passes.counts);
    effects = Counts-none p.counts.effects q.counts.effects (ap (λ c. c.effects) passes.counts);
    ifs = Counts-none p.counts.ifs q.counts.ifs (ap (λ c. c.ifs) passes.counts);
    loops = Counts-none p.counts.loops q.counts.loops (ap (λ c. c.loops) passes.counts);
    used = tt;
    named = tt;
    shaped = tt;
    shorter = passes.shorter;
    stands = passes.stands;
  }

  pub Reads-then : (p q r : Point) (xs ys : List Item) → Reads p q xs → Reads q r ys → Reads p r (xs ++ ys)
  Reads-then p q r xs ys first second = record {
    values = Counts-flat (λ item. map (λ id. id.0) (defines item)) p.counts.values q.counts.values r.counts.values xs ys first.values second.values;
    few = λ few. second.few (first.few few);
    blocks = Counts-flat (λ item. map (λ id. id.0) (blocks_of item)) p.counts.blocks q.counts.blocks r.counts.blocks xs ys first.blocks second.blocks;
    effects = Counts-flat (λ item. map (λ id. id.0) (effects_of item)) p.counts.effects q.counts.effects r.counts.effects xs ys first.effects second.effects;
    ifs = Counts-flat (λ item. map (λ id. id.0) (ifs_of item)) p.counts.ifs q.counts.ifs r.counts.ifs xs ys first.ifs second.ifs;
    loops = Counts-flat (λ item. map (λ id. id.0) (loops_of item)) p.counts.loops q.counts.loops r.counts.loops xs ys first.loops second.loops;
    used = All-flat (λ v. v < total.values) (λ item. map (λ id. id.0) (uses item)) xs ys first.used second.used;
    named = All-flat (λ b. b < total.blocks) (λ item. map (λ id. id.0) (names_blocks item)) xs ys first.named second.named;
    shaped = all_append IsShapedItem xs ys first.shaped second.shaped;
    shorter = omega (arith, first.shorter, second.shorter);
    stands = second.stands;
  }

  -- tokens that define nothing, before and behind
  pub Reads-behind : (p q r : Point) (xs : List Item) → Passes names total p q → Reads q r xs → Reads p r xs
  Reads-behind p q r xs passes part = Reads-then p q r [] xs (Reads-none p q passes) part

  pub Reads-before : (p q r : Point) (xs : List Item) → Reads p q xs → Passes names total q r → Reads p r xs
  Reads-before p q r xs part passes = subst (Reads p r) (append-nil xs) (Reads-then p q r xs [] part (Reads-none q r passes))

  -- one item, which defines no number but those that the counts tell
  pub record ReadsItem (p q : Point) (item : Item) : Type 0 where
    pub values : Counts p.counts.values q.counts.values (map (λ id. id.0) (defines item))
    pub few : AreFew p q
    pub blocks : Counts p.counts.blocks q.counts.blocks (map (λ id. id.0) (blocks_of item))
    pub effects : Counts p.counts.effects q.counts.effects (map (λ id. id.0) (effects_of item))
    pub ifs : Counts p.counts.ifs q.counts.ifs (map (λ id. id.0) (ifs_of item))
    pub loops : Counts p.counts.loops q.counts.loops (map (λ id. id.0) (loops_of item))
    pub used : AllByRecursion (λ v. v < total.values) (map (λ id. id.0) (uses item))
    pub named : AllByRecursion (λ b. b < total.blocks) (map (λ id. id.0) (names_blocks item))
    pub shaped : IsShapedItem item
    pub shorter : length q.rest ≤ length p.rest
    pub stands : Stands names total q.rest

  pub Reads-one : (p q : Point) (item : Item) → ReadsItem p q item → Reads p q (item ∷ [])
  Reads-one p q item one = record {
    values = subst (Counts p.counts.values q.counts.values) (sym (append-nil (map (λ id. id.0) (defines item)))) one.values;
    few = one.few;
    blocks = subst (Counts p.counts.blocks q.counts.blocks) (sym (append-nil (map (λ id. id.0) (blocks_of item)))) one.blocks;
    effects = subst (Counts p.counts.effects q.counts.effects) (sym (append-nil (map (λ id. id.0) (effects_of item)))) one.effects;
    ifs = subst (Counts p.counts.ifs q.counts.ifs) (sym (append-nil (map (λ id. id.0) (ifs_of item)))) one.ifs;
    loops = subst (Counts p.counts.loops q.counts.loops) (sym (append-nil (map (λ id. id.0) (loops_of item)))) one.loops;
    used = all_append (λ v. v < total.values) (map (λ id. id.0) (uses item)) [] one.used tt;
    named = all_append (λ b. b < total.blocks) (map (λ id. id.0) (names_blocks item)) [] one.named tt;
    shaped = (one.shaped, tt);
    shorter = one.shorter;
    stands = one.stands;
  }

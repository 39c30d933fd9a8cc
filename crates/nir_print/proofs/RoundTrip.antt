-- A shaped shader can be printed: each value and block that an item names is named by its place, and so its text is in the grammar.
use Rattle.std.specs.Prelude.{◌≡◌, refl, ℕ, suc, zero, ◌+◌, ◌^◌, ◌<◌, Bool, true, false, cond, not, nat_eq, List, [], ◌∷◌, map, length, slice_get, Some}
use Rattle.std.specs.List.{AllByRecursion, flat_map, list_any, range_with_len}
use Rattle.std.specs.Option.{option_map}
use Rattle.std.proofs.Common.{sym, ◌∙◌, ap, subst, arith}
use Rattle.std.proofs.lemmas.Bool.{eq-eqb}
use Rattle.std.proofs.lemmas.Option.{slice_get-map}
use Rattle.nir_ir.specs.Nodes.{Nodes}
use Rattle.nir_ir.specs.Items.{Item, items, defines, uses, blocks_of, names_blocks, values_defined, blocks_defined}
use Rattle.nir_ir.specs.Definitions.{instr_of}
use Rattle.nir_ir.specs.Shader.{Shader}
use Rattle.nir_ir.specs.Shaped.{IsOneOf, IsShapedItem, IsShaped}
use Rattle.nir_lex.specs.Reading.{read_tokens}
use Rattle.nir_lex.specs.Spelling.{SpelledIsRead, BlanksArePassed}
use Rattle.nir_spelling.specs.Spelling.{Spells}
use Rattle.nir_spelling.specs.Laws as laws
use Rattle.nir_print.specs.Naming.{naming_of, place}
use Rattle.nir_print.specs.Renumber.{renumber}
use Rattle.nir_print.specs.Text.{text_of}
use Rattle.nir_print.specs.RoundTrip.{addresses_of, addresses, value_name, block_word, printed_names, HasMachineNumbers, TextDenotes, ReadingGivesRenumbered}
use Rattle.list_laws.specs.AllLaws.{given_by_each}
use Rattle.list_laws.specs.MapLaws.{flat_map-flat_map}
use Rattle.nir_print.proofs.WordLemmas.{each_word}
use Rattle.nir_print.proofs.Spelled.{AreNames, IsPrintable, text_spells}
use Rattle.nir_print.proofs.Renumbered.{resolves}

-- ---- places

-- a number that is one of a list has a place in it
place_within : (numbers : List ℕ) (n : ℕ) → IsOneOf numbers n → place numbers n < length numbers
place_within [] n one = absurd cc
place_within (first ∷ numbers) n one = by (nat_eq n first) refl one (λ rest. place_within numbers n rest) where
  by : (same : Bool) → nat_eq n first ≡ same → list_any (nat_eq n) (first ∷ numbers) ≡ true → (IsOneOf numbers n → place numbers n < length numbers) → cond (not (nat_eq n first)) (1 + place numbers n) 0 < suc (length numbers)
  by true is one later = rw is (omega arith)
  by false is one later = let within = later (rw is at one) in rw is (omega (arith, within))

-- each of a list is one of it
one_of_longer : (first : ℕ) (numbers list : List ℕ) → AllByRecursion (IsOneOf numbers) list → AllByRecursion (IsOneOf (first ∷ numbers)) list
one_of_longer first numbers [] all = tt
one_of_longer first numbers (n ∷ list) all = (here (nat_eq n first) refl, one_of_longer first numbers list all.1) where
  here : (same : Bool) → nat_eq n first ≡ same → IsOneOf (first ∷ numbers) n
  here true is = rw is refl
  here false is = rw is all.0

each_one_of : (numbers : List ℕ) → AllByRecursion (IsOneOf numbers) numbers
each_one_of [] = tt
each_one_of (n ∷ numbers) = (rw (eq-eqb n n refl) refl, one_of_longer n numbers numbers (each_one_of numbers))

slice_get-range : (a n k : ℕ) → k < n → slice_get (range_with_len a n) k ≡ Some (a + k)
slice_get-range a zero k lt = absurd (omega arith)
slice_get-range a (suc n) zero lt = let same : a ≡ a + 0 = omega arith in ap (λ (m : ℕ). Some m) same
slice_get-range a (suc n) (suc k) lt = let same : a + 1 + k ≡ a + suc k = omega arith in slice_get-range (a + 1) n k (omega arith) ∙ ap (λ (m : ℕ). Some m) same

named : (name : ℕ → List ℕ) (n k : ℕ) → k < n → slice_get (map name (range_with_len 0 n)) k ≡ Some (name k)
named name n k lt =
    let same : 0 + k ≡ k = omega arith in
    slice_get-map name (range_with_len 0 n) k ∙ ap (option_map name) (slice_get-range 0 n k lt) ∙ ap (λ (m : ℕ). Some (name m)) same

are_names : (body : Nodes) → length (values_defined body) < 2 ^ 64 → length (blocks_defined body) < 2 ^ 64 → AreNames (naming_of body) (printed_names body)
are_names body values blocks =
    record {
      value = λ value one. let within = place_within (values_defined body) value.0 one in (omega arith, named value_name (length (values_defined body)) (place (values_defined body) value.0) within);
      block = λ block one. let within = place_within (blocks_defined body) block.0 one in (omega arith, named block_word (length (blocks_defined body)) (place (blocks_defined body) block.0) within);
      counts = refl;
    }

-- ---- items

module _ (body : Nodes) where
  abbrev Values : List ℕ → Type 0
  Values list = AllByRecursion (IsOneOf (values_defined body)) list

  abbrev Blocks : List ℕ → Type 0
  Blocks list = AllByRecursion (IsOneOf (blocks_defined body)) list

  printable : (list : List Item)
      → AllByRecursion (λ item. Values (map (λ id. id.0) (defines item))) list → AllByRecursion (λ item. Values (map (λ id. id.0) (uses item))) list
      → AllByRecursion (λ item. Blocks (map (λ id. id.0) (blocks_of item))) list → AllByRecursion (λ item. Blocks (map (λ id. id.0) (names_blocks item))) list
      → AllByRecursion IsShapedItem list → AllByRecursion (λ item. AllByRecursion (λ n. n < 2 ^ 32) (flat_map addresses_of (instr_of item))) list
      → AllByRecursion (IsPrintable (naming_of body)) list
  printable [] values used blocks names shaped addresses = tt
  printable (item ∷ list) values used blocks names shaped addresses = (
    record { values = values.0; uses = used.0; blocks = blocks.0; names = names.0; shaped = shaped.0; addresses = addresses.0 },
    printable list values.1 used.1 blocks.1 names.1 shaped.1 addresses.1,
  )

items_printable : (shader : Shader) → IsShaped shader → HasMachineNumbers shader → AllByRecursion (IsPrintable (naming_of shader.body)) (items shader.body)
items_printable shader shaped machine =
    let list : List Item = items shader.body in
    let is_value : ℕ → Type 0 = IsOneOf (values_defined shader.body) in
    let is_block : ℕ → Type 0 = IsOneOf (blocks_defined shader.body) in
    let held : ℕ → Type 0 = λ n. n < 2 ^ 32 in
    printable shader.body list
    (given_by_each is_value (λ item. map (λ id. id.0) (defines item)) list (each_one_of (values_defined shader.body)))
    (given_by_each is_value (λ item. map (λ id. id.0) (uses item)) list shaped.uses)
    (given_by_each is_block (λ item. map (λ id. id.0) (blocks_of item)) list (each_one_of (blocks_defined shader.body)))
    (given_by_each is_block (λ item. map (λ id. id.0) (names_blocks item)) list shaped.names)
    shaped.items
    (given_by_each held (λ item. flat_map addresses_of (instr_of item)) list (subst (AllByRecursion held) (flat_map-flat_map instr_of addresses_of list) (each_word (addresses shader.body) machine.addresses)))

-- ---- the law

pub text_denotes : SpelledIsRead → BlanksArePassed → TextDenotes
unfolding read_tokens
text_denotes spelled blanks shader shaped machine =
    let names = are_names shader.body machine.values machine.blocks in
    let gives = text_spells (record { spelled = spelled; blanks = blanks }) shader (printed_names shader.body) names (items_printable shader shaped machine) machine.buffers shaped.inputs shaped.outputs in
    let tokens = gives.read [] in
    record {
      tokens = tokens.0;
      read = tokens.1;
      spelled = subst (Spells (printed_names shader.body) (renumber shader)) (sym tokens.2) gives.are;
      resolves = resolves shader shaped machine;
    }

-- the law of reading, from that of spelled texts
pub reading_gives_renumbered : TextDenotes → laws.SpelledIsRead → ReadingGivesRenumbered
reading_gives_renumbered denotes denoted shader shaped machine within =
    let is = denotes shader shaped machine in
    denoted (text_of shader) (renumber shader) (is.tokens, printed_names shader.body, is.read, record { spelled = is.spelled; resolves = is.resolves; within = within })

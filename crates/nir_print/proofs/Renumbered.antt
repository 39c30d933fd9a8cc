-- A renumbered shader: its numbers stand in order from 0, and the names of its values and blocks resolve to them.
use Rattle.std.specs.Prelude.{◌≡◌, ℕ, suc, zero, ◌+◌, ◌^◌, ◌<◌, ◌≤◌, false, nat_eq, List, ◌∷◌, map, length, drop, decimal}
use Rattle.std.specs.List.{AllByRecursion, IsDistinct, range_with_len}
use Rattle.std.specs.Str.{bytes_eq}
use Rattle.std.proofs.Common.{sym, ◌∙◌, ap, arith}
use Rattle.std.proofs.lemmas.Bool.{false_from_ne_true}
use Rattle.std.proofs.lemmas.Fmt.{decimal_injective}
use Rattle.std.proofs.lemmas.List.{length-map}
use Rattle.std.proofs.lemmas.Slice.Eq.{bytes_eq-Decides}
use Rattle.std.proofs.lemmas.List.FromFn.{length-range_with_len}
use Rattle.nir_ir.specs.Items.{defines, blocks_of, effects_of, ifs_of, loops_of, values_defined, blocks_defined, effects_defined, ifs_defined, loops_defined}
use Rattle.nir_ir.specs.Definitions.{kinds_of, kinds_defined}
use Rattle.nir_ir.specs.Shader.{Shader}
use Rattle.nir_ir.specs.Shaped.{IsShaped}
use Rattle.nir_spelling.specs.Resolving.{AreInOrder, Resolves}
use Rattle.nir_print.specs.Naming.{place}
use Rattle.nir_print.specs.Renumber.{Numbers, numbers_of, renumber}
use Rattle.nir_print.specs.RenumberedItems.{given-new_nodes, values_renamed, kinds_kept, effects_renamed, blocks_renamed, ifs_renamed, loops_renamed, places_in_order}
use Rattle.list_laws.specs.MapLaws.{map-same}
use Rattle.nir_print.specs.RoundTrip.{printed_names, value_name, block_word, HasMachineNumbers}

-- renamed numbers are in order
in_order : (numbers new : List ℕ) → IsDistinct nat_eq numbers → new ≡ map (place numbers) numbers → AreInOrder new
in_order numbers new distinct is =
    is ∙ places_in_order numbers distinct ∙ ap (range_with_len 0) (sym (length-map numbers (place numbers)) ∙ ap length (sym is))

-- ---- names

-- numbers behind a byte, from some on, are distinct
apart : (byte a b n : ℕ) → a < b → b + n ≤ 2 ^ 64 → AllByRecursion (λ name. bytes_eq (byte ∷ decimal a) name ≡ false) (map (λ k. byte ∷ decimal k) (range_with_len b n))
apart byte a b zero lt held = tt
apart byte a b (suc n) lt held = (
  false_from_ne_true (bytes_eq (byte ∷ decimal a) (byte ∷ decimal b)) (λ is. absurd (omega (arith, decimal_injective a b (omega arith) (omega arith) (ap (drop 1) ((bytes_eq-Decides (byte ∷ decimal a) (byte ∷ decimal b)).0 is))))),
  apart byte a (b + 1) n (omega arith) (omega arith),
)

distinct_names : (byte a n : ℕ) → a + n ≤ 2 ^ 64 → IsDistinct bytes_eq (map (λ k. byte ∷ decimal k) (range_with_len a n))
unfolding IsDistinct
distinct_names byte a zero held = tt
distinct_names byte a (suc n) held = (apart byte a (a + 1) n (omega arith) (omega arith), distinct_names byte (a + 1) n (omega arith))

names_long : (name : ℕ → List ℕ) (n : ℕ) → length (map name (range_with_len 0 n)) ≡ n
names_long name n = length-map (range_with_len 0 n) name ∙ length-range_with_len 0 n

-- ---- the names of the text resolve

pub resolves : (shader : Shader) → IsShaped shader → HasMachineNumbers shader → Resolves (printed_names shader.body) (renumber shader)
resolves shader shaped machine =
    let numbers : Numbers = numbers_of shader.body in
    let values = given-new_nodes (λ item. map (λ id. id.0) (defines item)) (λ item. map (λ id. id.0) (defines item)) (place numbers.naming.values) numbers (values_renamed numbers) shader.body in
    let blocks = given-new_nodes (λ item. map (λ id. id.0) (blocks_of item)) (λ item. map (λ id. id.0) (blocks_of item)) (place numbers.naming.blocks) numbers (blocks_renamed numbers) shader.body in
    let effects = given-new_nodes (λ item. map (λ id. id.0) (effects_of item)) (λ item. map (λ id. id.0) (effects_of item)) (place numbers.effects) numbers (effects_renamed numbers) shader.body in
    let ifs = given-new_nodes (λ item. map (λ id. id.0) (ifs_of item)) (λ item. map (λ id. id.0) (ifs_of item)) (place numbers.ifs) numbers (ifs_renamed numbers) shader.body in
    let loops = given-new_nodes (λ item. map (λ id. id.0) (loops_of item)) (λ item. map (λ id. id.0) (loops_of item)) (place numbers.loops) numbers (loops_renamed numbers) shader.body in
    let kinds = given-new_nodes kinds_of kinds_of (λ kind. kind) numbers (kinds_kept numbers) shader.body ∙ map-same (kinds_defined shader.body) in
    let value_count : length (values_defined shader.body) ≡ length (values_defined (renumber shader).body) = sym (ap length values ∙ length-map (values_defined shader.body) (place numbers.naming.values)) in
    let block_count : length (blocks_defined shader.body) ≡ length (blocks_defined (renumber shader).body) = sym (ap length blocks ∙ length-map (blocks_defined shader.body) (place numbers.naming.blocks)) in
    record {
      values = in_order (values_defined shader.body) _ shaped.values values;
      blocks = in_order (blocks_defined shader.body) _ shaped.blocks blocks;
      effects = in_order (effects_defined shader.body) _ shaped.effects effects;
      ifs = in_order (ifs_defined shader.body) _ shaped.ifs ifs;
      loops = in_order (loops_defined shader.body) _ shaped.loops loops;
      next_value = value_count;
      value_names = names_long value_name (length (values_defined shader.body)) ∙ value_count;
      block_words = names_long block_word (length (blocks_defined shader.body)) ∙ block_count;
      distinct_names = distinct_names 37 0 (length (values_defined shader.body)) (omega (arith, machine.values));
      distinct_words = distinct_names 98 0 (length (blocks_defined shader.body)) (omega (arith, machine.blocks));
      counts = ap (map (λ kind. kind.count)) (sym kinds);
    }

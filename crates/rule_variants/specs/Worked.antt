-- The variants of (iadd (imul a b) c), worked out by hand: the first bit is that of the root, and the second that of the product.
use Rattle.std.specs.Prelude.{◌≡◌, refl, ℕ, false, None, [], ◌∷◌}
use Rattle.nir_ops.specs.declared.op.Op.TheVariants.{Iadd, Imul}
use Rattle.nir_ops.specs.Opcodes.{op_info, row_of}
use Rattle.rule_term.specs.declared.when.When.TheVariants.{Always}
use Rattle.rule_term.specs.Rule.{Rule}
use Rattle.rule_term.specs.Terms.{Terms, Nil, VarThen, AppThen}
use Rattle.rule_variants.specs.Sides.{variants_of}

abbrev variable : ℕ → Terms → Terms
variable var rest = VarThen var false None None rest

abbrev product : ℕ → ℕ → Terms → Terms
product first second rest = AppThen Imul None false (variable first (variable second Nil)) rest

abbrev total : Terms → Terms
total sources = AppThen Iadd None false sources Nil

abbrev multiplied : Rule
multiplied = record { number = 0; search = total (product 0 1 (variable 2 Nil)); replace = variable 2 Nil; when = Always; vars = 3 }

pub multiplied_variants : variants_of multiplied
    ≡ total (product 0 1 (variable 2 Nil)) ∷ total (variable 2 (product 0 1 Nil)) ∷ total (product 1 0 (variable 2 Nil)) ∷ total (variable 2 (product 1 0 Nil)) ∷ []
unfolding op_info row_of
multiplied_variants = refl

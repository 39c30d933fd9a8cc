use Rattle.size_laws.specs.TypingsLaws.{typings_are_products}
use Rattle.size_laws.proofs.typings_are_products.Goals as goal

pub returns : goal.returns
returns c = typings_are_products

-- `products::mul_ru` meets its contract: a product is rounded to itself exactly if it is a double.
use Rattle.patterns.specs.Format.{binary64}
use Rattle.patterns.proofs.ToldLaws.{told_by}
use Rattle.products.proofs.mul_ru.Goals as goal

pub returns : goal.returns
returns c = told_by binary64 c.product_up.ensures c.is_exact_product.ensures

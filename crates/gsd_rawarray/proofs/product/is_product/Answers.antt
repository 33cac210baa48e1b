-- No rest of either division is left exactly of the product.
use Rattle.gsd_rawarray.proofs.Division.{divided}
use Rattle.gsd_rawarray.proofs.product.is_product.Goals as goal

pub returns : goal.returns
returns c = divided _ _ _ _ c.if-width-eq0.false c.if-m-eq0.false

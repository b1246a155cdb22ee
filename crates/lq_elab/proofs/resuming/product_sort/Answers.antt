use Rattle.lq_kernel.proofs.SortLaws.{product_base, product_first, product_levels}
use Rattle.lq_elab.proofs.resuming.product_sort.Goals as goal

pub returns-in_default-Base : goal.returns-in_default-Base
returns-in_default-Base c = let k = product_base c.args.domain in cc

pub returns-in-Base-Level : goal.returns-in-Base-Level
returns-in-Base-Level c = let k = product_first c.in-Base-Level.level in cc

pub returns-in-Level-Level : goal.returns-in-Level-Level
returns-in-Level-Level c = let k = product_levels c.in-Level-Level.first c.in-Level-Level.second in cc

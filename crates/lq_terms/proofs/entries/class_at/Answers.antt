use Rattle.std.proofs.Common.{sym}
use Rattle.lq_terms.proofs.ClassLaws.{class_kept}
use Rattle.lq_terms.proofs.entries.class_at.Goals as goal

pub returns : goal.returns
returns c = sym (class_kept c.args.entries.now.entries c.args.term c.index.result.now c.index.ensures)

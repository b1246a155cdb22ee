use Rattle.std.proofs.Common.{◌≡◌, ◌∙◌, sym}
use Rattle.std.proofs.lemmas.Bool.{eqb-true, eq-eqb}
use Rattle.lq_terms.specs.Sound.{class_at}
use Rattle.lq_terms.proofs.ClassLaws.{class_kept, same_is}
use Rattle.lq_terms.proofs.bank.Bank.same_class.Goals as goal

pub returns : goal.returns
returns c =
    let left : class_at c.self.inside.entries.entries c.args.left ≡ c.index.result.now.class = class_kept c.self.inside.entries.entries c.args.left c.index.result.now c.index.ensures in
    let right : class_at c.self.inside.entries.entries c.args.right ≡ c.index-2.result.now.class = class_kept c.self.inside.entries.entries c.args.right c.index-2.result.now c.index-2.ensures in
    same_is _ c.self.inside.shapes.keys c.self.inside.entries.entries c.self.invariant.0 c.self.invariant.1 c.args.self.now c.self.view_is c.args.left c.args.right c.requires.left c.requires.right _
    (λ t. left ∙ eqb-true c.index.result.now.class c.index-2.result.now.class t ∙ sym right, λ e. eq-eqb c.index.result.now.class c.index-2.result.now.class (sym left ∙ e ∙ right))

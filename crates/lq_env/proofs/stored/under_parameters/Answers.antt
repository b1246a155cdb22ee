use Rattle.std.proofs.Common.{sym, ap, arith, ◌∙◌, ◌≡◌, length, [], Err}
use Rattle.std.proofs.Common.{subst as along}
use Rattle.lq_trees.specs.Change.{lift}
use Rattle.lq_terms.specs.Terms.{tree_of}
use Rattle.lq_terms.specs.Contexts.{context_of}
use Rattle.lq_calculus.specs.Declarations.{products}
use Rattle.lq_env.specs.Families.{Stores}
use Rattle.lq_env.specs.Telescopes.{AreApart}
use Rattle.lq_env.specs.Building.{many}
use Rattle.lq_env.proofs.Closing.{lift-within}
use Rattle.lq_env.proofs.Weights.{within-more}
use Rattle.lq_env.proofs.StoredLaws.{are_apart, refused_by}
use Rattle.lq_env.proofs.stored.under_parameters.Goals as goal

pub products-requires-clause-apart : goal.products-requires-clause-apart
products-requires-clause-apart c =
    along (λ hs. AreApart (context_of c.args.bank.now hs)) (sym c.hypotheses.ensures) (are_apart [] (context_of c.args.bank.now c.args.family.now.parameters) c.requires.family.written.parameters)

pub products-requires-clause-within : goal.products-requires-clause-within
products-requires-clause-within c = within-more 0 many (tree_of c.args.bank.now c.args.end) (omega arith) c.requires.within

pub within_limits-requires : goal.within_limits-requires
within_limits-requires c =
    let e : tree_of c.args.bank.now c.args.end ≡ lift (length c.hypotheses.result.now) 0 (tree_of c.args.bank.now c.args.end) = sym (lift-within (length c.hypotheses.result.now) 0 (tree_of c.args.bank.now c.args.end) c.requires.within) in
    let b = c.in-Ok.ensures.answer (tree_of c.args.bank.now c.args.end) e in b.0.has

pub returns-in-Ok-clause-answer : goal.returns-in-Ok-clause-answer
returns-in-Ok-clause-answer c =
    let e : tree_of c.args.bank.now c.args.end ≡ lift (length c.hypotheses.result.now) 0 (tree_of c.args.bank.now c.args.end) = sym (lift-within (length c.hypotheses.result.now) 0 (tree_of c.args.bank.now c.args.end) c.requires.within) in
    let b = c.in-Ok.ensures.answer (tree_of c.args.bank.now c.args.end) e in
    along (λ z. Stores c.products.new.bank c.within_limits.result z) (b.0.is ∙ ap (λ hs. products (context_of c.args.bank.now hs) (tree_of c.args.bank.now c.args.end)) c.hypotheses.ensures) c.within_limits.ensures

pub returns-in-Err-clause-answer : goal.returns-in-Err-clause-answer
returns-in-Err-clause-answer c =
    let e : tree_of c.args.bank.now c.args.end ≡ lift (length c.hypotheses.result.now) 0 (tree_of c.args.bank.now c.args.end) = sym (lift-within (length c.hypotheses.result.now) 0 (tree_of c.args.bank.now c.args.end) c.requires.within) in
    let t = products (context_of c.args.bank.now c.hypotheses.result.now) (tree_of c.args.bank.now c.args.end) in
    along (λ hs. Stores c.products.new.bank (Err c.in-Err.fault) (products (context_of c.args.bank.now hs) (tree_of c.args.bank.now c.args.end))) c.hypotheses.ensures
    (refused_by c.products.new.bank c.products.new.bank c.in-Err.fault t t (omega arith) (c.in-Err.ensures.answer (tree_of c.args.bank.now c.args.end) e))

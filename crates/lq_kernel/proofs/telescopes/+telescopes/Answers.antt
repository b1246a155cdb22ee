use Rattle.std.proofs.Common.{◌≡◌, ◌∙◌, ◌∷◌, [], ◌++◌, refl, sym, ap, subst, arith, None, false}
use Rattle.lq_trees.specs.Ticks.{done, ComesTo}
use Rattle.lq_trees.specs.Size.{size}
use Rattle.lq_trees.specs.Fresh.{fresh, opened}
use Rattle.lq_trees.proofs.Sizes.{one-le-size}
use Rattle.lq_terms.specs.Terms.{text_of, tree_of}
use Rattle.lq_terms.specs.Contexts.{context_of, hypothesis_of}
use Rattle.lq_env.specs.Environments.{env_of}
use Rattle.lq_calculus.specs.Typing.{is_product}
use Rattle.lq_calculus.specs.Checking.{sort_of, domain_sorts}
use Rattle.lq_kernel.specs.Steps.{Sorts}
use Rattle.lq_kernel.proofs.Grown.{IsContext-kept, ready, begins, popped}
use Rattle.lq_kernel.proofs.Cycle.{inside_size}
use Rattle.lq_kernel.proofs.DomainLaws.{rest_scoped, row_domain_stops, row_rest_stops, row_ends, row_out, row_next, row_nothing}
use Rattle.lq_kernel.proofs.telescopes.+telescopes.Goals as goal

pub telescope_sort-returns-in_default-clause-domains : goal.telescope_sort-returns-in_default-clause-domains
telescope_sort-returns-in_default-clause-domains g t c E G T e k i = row_nothing c.sort_in.result E G T c.args.sorts.now.items c.args.work.now.ticks.now.left (subst (λ z. is_product z ≡ false) i c.in_default.ensures)

pub telescope_sort-returns-then-not-take-clause-answer : goal.telescope_sort-returns-then-not-take-clause-answer
telescope_sort-returns-then-not-take-clause-answer g t c E G T e k i = row_out E G T c.args.work.now.bank.now c.args.work.now.ticks.now.left c.take.new.self.left (omega (arith, c.if-not-take.ensures)) (omega (arith, c.if-not-take.ensures))

pub telescope_sort-returns-in_err-domain-clause-answer : goal.telescope_sort-returns-in_err-domain-clause-answer
telescope_sort-returns-in_err-domain-clause-answer g t c E G T e k i =
    subst (λ z. Sorts c.sort_in-2.new.work.bank.now c.from_residual.result (λ n. sort_of E n G z) c.args.work.now.ticks.now.left c.sort_in-2.new.work.ticks.now.left) (sym c.in-Some.ensures.is ∙ i)
    (row_domain_stops E G (text_of c.args.work.now.bank.now c.in-Some.binder) (tree_of c.args.work.now.bank.now c.in-Some.kind) (tree_of c.args.work.now.bank.now c.in-Some.rest) c.sort_in-2.new.work.bank.now c.args.work.now.ticks.now.left c.take.new.self.left c.sort_in-2.new.work.ticks.now.left (omega (arith, c.if-not-take.ensures)) c.from_residual.result c.in_err-domain.field-0.0 c.from_residual.ensures.1 (c.in_err-domain.ensures.answer E G (tree_of c.args.work.now.bank.now c.in-Some.kind) e k refl))

pub telescope_sort-variable-requires-clause-context : goal.telescope_sort-variable-requires-clause-context
telescope_sort-variable-requires-clause-context g t c = IsContext-kept c.args.work.now.bank.now c.sort_in-2.new.work.bank.now c.in_ok-domain.ensures.grows c.args.context.now c.sort_in-2.new.context c.in_ok-domain.ensures.kept c.requires.context

pub telescope_sort-telescope_inside-requires : goal.telescope_sort-telescope_inside-requires
telescope_sort-telescope_inside-requires g t c κs within =
    let r = ready c.args.work.now.bank.now c.sort_in-2.new.work.bank.now c.variable.new.bank c.in_ok-domain.ensures.grows c.in_ok-variable.ensures.grows c.args.env.now c.args.context.now c.sort_in-2.new.context c.in_ok-variable.variable c.in-Some.binder None c.in-Some.kind c.in-Some.rest (env_of c.args.work.now.bank.now c.args.env.now) (context_of c.args.work.now.bank.now c.args.context.now) c.in_ok-domain.ensures.kept c.requires.env refl c.requires.context refl c.in-Some.ensures.binder tt c.in-Some.ensures.domain (rest_scoped c.args.work.now.bank.now c.args.term c.in-Some.binder c.in-Some.kind c.in-Some.rest c.requires.term c.in-Some.ensures) c.in_ok-variable.ensures.variable in
    let same : size (tree_of c.variable.new.bank c.in-Some.rest) ≡ size (tree_of c.args.work.now.bank.now c.in-Some.rest) = ap size r.rest_is in
    (omega (arith, ap size c.in-Some.ensures.is, one-le-size (tree_of c.args.work.now.bank.now c.in-Some.kind)), (within, (r.variable, (r.rest, (r.env, r.context)))))

pub telescope_sort-returns-in_err-last-clause-answer : goal.telescope_sort-returns-in_err-last-clause-answer
telescope_sort-returns-in_err-last-clause-answer g t c E G T e k i =
    let r = ready c.args.work.now.bank.now c.sort_in-2.new.work.bank.now c.variable.new.bank c.in_ok-domain.ensures.grows c.in_ok-variable.ensures.grows c.args.env.now c.args.context.now c.sort_in-2.new.context c.in_ok-variable.variable c.in-Some.binder None c.in-Some.kind c.in-Some.rest E G c.in_ok-domain.ensures.kept c.requires.env e c.requires.context k c.in-Some.ensures.binder tt c.in-Some.ensures.domain (rest_scoped c.args.work.now.bank.now c.args.term c.in-Some.binder c.in-Some.kind c.in-Some.rest c.requires.term c.in-Some.ensures) c.in_ok-variable.ensures.variable in
    subst (λ z. Sorts c.telescope_inside.new.work.bank.now c.from_residual-in_err-last.result (λ n. sort_of E n G z) c.args.work.now.ticks.now.left c.telescope_inside.new.work.ticks.now.left) (sym c.in-Some.ensures.is ∙ i)
    (row_rest_stops E G (text_of c.args.work.now.bank.now c.in-Some.binder) (tree_of c.args.work.now.bank.now c.in-Some.kind) (tree_of c.args.work.now.bank.now c.in-Some.rest) c.telescope_inside.new.work.bank.now c.args.work.now.ticks.now.left c.take.new.self.left c.telescope_inside.new.work.ticks.now.left (omega (arith, c.if-not-take.ensures)) c.in_ok-domain.domain c.sort_in-2.new.work.ticks.now.left c.from_residual-in_err-last.result c.in_err-last.field-0.0 c.from_residual-in_err-last.ensures.1 (c.in_ok-domain.ensures.answer E G (tree_of c.args.work.now.bank.now c.in-Some.kind) e k refl)
    (c.in_err-last.ensures.answer E G (record { name = fresh G (text_of c.args.work.now.bank.now c.in-Some.binder); body = None; kind = tree_of c.args.work.now.bank.now c.in-Some.kind }) (tree_of c.args.work.now.bank.now c.in-Some.rest) r.env_is r.context_is r.variable_is r.rest_is))

pub telescope_sort-returns-clause-answer : goal.telescope_sort-returns-clause-answer
telescope_sort-returns-clause-answer g t c E G T e k i =
    let r = ready c.args.work.now.bank.now c.sort_in-2.new.work.bank.now c.variable.new.bank c.in_ok-domain.ensures.grows c.in_ok-variable.ensures.grows c.args.env.now c.args.context.now c.sort_in-2.new.context c.in_ok-variable.variable c.in-Some.binder None c.in-Some.kind c.in-Some.rest E G c.in_ok-domain.ensures.kept c.requires.env e c.requires.context k c.in-Some.ensures.binder tt c.in-Some.ensures.domain (rest_scoped c.args.work.now.bank.now c.args.term c.in-Some.binder c.in-Some.kind c.in-Some.rest c.requires.term c.in-Some.ensures) c.in_ok-variable.ensures.variable in
    subst (λ z. ComesTo (λ n. sort_of E n G z) c.args.work.now.ticks.now.left (done c.product_sort.result c.telescope_inside.new.work.ticks.now.left)) (sym c.in-Some.ensures.is ∙ i)
    (row_ends E G (text_of c.args.work.now.bank.now c.in-Some.binder) (tree_of c.args.work.now.bank.now c.in-Some.kind) (tree_of c.args.work.now.bank.now c.in-Some.rest) c.telescope_inside.new.work.bank.now c.args.work.now.ticks.now.left c.take.new.self.left c.telescope_inside.new.work.ticks.now.left (omega (arith, c.if-not-take.ensures)) c.in_ok-domain.domain c.in_ok-last.last c.product_sort.result c.sort_in-2.new.work.ticks.now.left (c.in_ok-domain.ensures.answer E G (tree_of c.args.work.now.bank.now c.in-Some.kind) e k refl)
    (c.in_ok-last.ensures.answer E G (record { name = fresh G (text_of c.args.work.now.bank.now c.in-Some.binder); body = None; kind = tree_of c.args.work.now.bank.now c.in-Some.kind }) (tree_of c.args.work.now.bank.now c.in-Some.rest) r.env_is r.context_is r.variable_is r.rest_is) c.product_sort.ensures)

pub telescope_sort-returns-clause-domains : goal.telescope_sort-returns-clause-domains
telescope_sort-returns-clause-domains g t c E G T e k i n l =
    let r = ready c.args.work.now.bank.now c.sort_in-2.new.work.bank.now c.variable.new.bank c.in_ok-domain.ensures.grows c.in_ok-variable.ensures.grows c.args.env.now c.args.context.now c.sort_in-2.new.context c.in_ok-variable.variable c.in-Some.binder None c.in-Some.kind c.in-Some.rest E G c.in_ok-domain.ensures.kept c.requires.env e c.requires.context k c.in-Some.ensures.binder tt c.in-Some.ensures.domain (rest_scoped c.args.work.now.bank.now c.args.term c.in-Some.binder c.in-Some.kind c.in-Some.rest c.requires.term c.in-Some.ensures) c.in_ok-variable.ensures.variable in
    subst (λ z. c.telescope_inside.new.sorts.items ≡ c.args.sorts.now.items ++ domain_sorts E n G z) (sym c.in-Some.ensures.is ∙ i)
    (row_next E G (text_of c.args.work.now.bank.now c.in-Some.binder) (tree_of c.args.work.now.bank.now c.in-Some.kind) (tree_of c.args.work.now.bank.now c.in-Some.rest) c.args.work.now.ticks.now.left c.take.new.self.left c.sort_in-2.new.work.ticks.now.left c.in_ok-domain.domain c.args.sorts.now.items c.telescope_inside.new.sorts.items (omega (arith, c.if-not-take.ensures)) (c.in_ok-domain.ensures.answer E G (tree_of c.args.work.now.bank.now c.in-Some.kind) e k refl)
    (λ m j. c.in_ok-last.ensures.domains E G (record { name = fresh G (text_of c.args.work.now.bank.now c.in-Some.binder); body = None; kind = tree_of c.args.work.now.bank.now c.in-Some.kind }) (tree_of c.args.work.now.bank.now c.in-Some.rest) r.env_is r.context_is r.variable_is r.rest_is m j ∙ ap (λ ss. ss ++ domain_sorts E m (G ++ record { name = fresh G (text_of c.args.work.now.bank.now c.in-Some.binder); body = None; kind = tree_of c.args.work.now.bank.now c.in-Some.kind } ∷ []) (opened (fresh G (text_of c.args.work.now.bank.now c.in-Some.binder)) (tree_of c.args.work.now.bank.now c.in-Some.rest))) c.in_ok-push.ensures.items) n l)

pub telescope_inside-telescope_sort-sort-requires : goal.telescope_inside-telescope_sort-sort-requires
telescope_inside-telescope_sort-sort-requires g t c κs within =
    let r = begins c.args.work.now.bank.now c.open.new.bank c.in_ok-term.ensures.grows c.args.env.now c.args.context.now c.push.new.self c.args.variable c.args.rest c.in_ok-term.term (env_of c.args.work.now.bank.now c.args.env.now) (context_of c.args.work.now.bank.now c.args.context.now) (hypothesis_of c.args.work.now.bank.now c.args.variable) (tree_of c.args.work.now.bank.now c.args.rest) c.in_ok-push.ensures.ok c.requires.env refl c.requires.context refl c.requires.variable refl c.requires.rest refl c.in_ok-term.ensures.opened in
    let same : size (tree_of c.open.new.bank c.in_ok-term.term) ≡ size (tree_of c.args.work.now.bank.now c.args.rest) =
    inside_size c.open.new.bank c.in_ok-term.term (text_of c.args.work.now.bank.now c.args.variable.name) (tree_of c.args.work.now.bank.now c.args.rest) (size (tree_of c.args.work.now.bank.now c.args.rest)) c.in_ok-term.ensures.opened refl in (omega arith, (within, (r.term, (r.env, r.context))))

pub telescope_inside-returns-clause-answer : goal.telescope_inside-returns-clause-answer
telescope_inside-returns-clause-answer g t c E G H B e k v i =
    let r = begins c.args.work.now.bank.now c.open.new.bank c.in_ok-term.ensures.grows c.args.env.now c.args.context.now c.push.new.self c.args.variable c.args.rest c.in_ok-term.term E G H B c.in_ok-push.ensures.ok c.requires.env e c.requires.context k c.requires.variable v c.requires.rest i c.in_ok-term.ensures.opened in c.telescope_sort-sort.ensures.answer E (G ++ H ∷ []) (opened H.name B) r.env_is r.context_is r.term_is

pub telescope_inside-returns-clause-domains : goal.telescope_inside-returns-clause-domains
telescope_inside-returns-clause-domains g t c E G H B e k v i =
    let r = begins c.args.work.now.bank.now c.open.new.bank c.in_ok-term.ensures.grows c.args.env.now c.args.context.now c.push.new.self c.args.variable c.args.rest c.in_ok-term.term E G H B c.in_ok-push.ensures.ok c.requires.env e c.requires.context k c.requires.variable v c.requires.rest i c.in_ok-term.ensures.opened in c.telescope_sort-sort.ensures.domains E (G ++ H ∷ []) (opened H.name B) r.env_is r.context_is r.term_is

pub telescope_inside-returns-clause-kept : goal.telescope_inside-returns-clause-kept
telescope_inside-returns-clause-kept g t c = popped c.pop.result c.args.context.now c.telescope_sort-sort.new.context c.pop.new.self c.args.variable (c.telescope_sort-sort.ensures.kept ∙ c.in_ok-push.ensures.ok) c.pop.ensures

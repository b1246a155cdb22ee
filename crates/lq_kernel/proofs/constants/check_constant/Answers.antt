use Rattle.std.proofs.Common.{◌∙◌, ◌∷◌, [], ◌++◌, refl, sym, ap, Ok, Err}
use Rattle.lq_terms.specs.Terms.{text_of, tree_of}
use Rattle.lq_terms.specs.Contexts.{context_of}
use Rattle.lq_calculus.specs.Declarations.{constant}
use Rattle.lq_calculus.specs.Checking.{declare_constant}
use Rattle.lq_env.specs.Environments.{env_of}
use Rattle.lq_kernel.specs.Answers.{Accepts}
use Rattle.lq_kernel.proofs.Goes.{err_out}
use Rattle.lq_terms.proofs.Growth.{Grows-trans}
use Rattle.lq_kernel.proofs.Grown.{IsEnv-grown, env_at, tree_at, nodes_back}
use Rattle.lq_kernel.proofs.ConstantLaws.{constant_taken, constant_strange, kind_stops, constant_ends, closed_both}
use Rattle.lq_kernel.proofs.constants.check_constant.Goals as goal

pub returns-then-is_taken-clause-answer : goal.returns-then-is_taken-clause-answer
returns-then-is_taken-clause-answer g c opaque =
    constant_taken (env_of c.args.work.now.bank.now c.args.env.now) (text_of c.args.work.now.bank.now c.args.name) (tree_of c.args.work.now.bank.now c.args.kind) (tree_of c.args.work.now.bank.now c.args.body) opaque c.args.work.now.bank.now c.args.name c.args.work.now.ticks.now.left c.requires.name refl (sym c.is_taken.ensures ∙ c.if-is_taken.true)

pub returns-in_err-known_alone-clause-answer : goal.returns-in_err-known_alone-clause-answer
returns-in_err-known_alone-clause-answer g c opaque =
    let E = env_of c.args.work.now.bank.now c.args.env.now in
    err_out (λ z. Accepts c.args.work.now.bank.now z (E ++ (text_of c.args.work.now.bank.now c.args.name, constant (tree_of c.args.work.now.bank.now c.args.kind) (tree_of c.args.work.now.bank.now c.args.body) opaque) ∷ []) (λ n. declare_constant E n (text_of c.args.work.now.bank.now c.args.name) (tree_of c.args.work.now.bank.now c.args.kind) (tree_of c.args.work.now.bank.now c.args.body) opaque) c.args.work.now.ticks.now.left c.args.work.now.ticks.now.left) c.from_residual.result c.in_err-known_alone.field-0.0 c.from_residual.ensures.1
    (constant_strange E (text_of c.args.work.now.bank.now c.args.name) (tree_of c.args.work.now.bank.now c.args.kind) (tree_of c.args.work.now.bank.now c.args.body) opaque c.args.work.now.bank.now c.in_err-known_alone.field-0.0 c.args.work.now.ticks.now.left (sym c.is_taken.ensures ∙ c.if-is_taken.false) c.in_err-known_alone.ensures)

pub returns-in_err-sort_in-clause-answer : goal.returns-in_err-sort_in-clause-answer
returns-in_err-sort_in-clause-answer g c opaque =
    let E = env_of c.args.work.now.bank.now c.args.env.now in
    err_out (λ z. Accepts c.sort_in.new.work.bank.now z (E ++ (text_of c.args.work.now.bank.now c.args.name, constant (tree_of c.args.work.now.bank.now c.args.kind) (tree_of c.args.work.now.bank.now c.args.body) opaque) ∷ []) (λ n. declare_constant E n (text_of c.args.work.now.bank.now c.args.name) (tree_of c.args.work.now.bank.now c.args.kind) (tree_of c.args.work.now.bank.now c.args.body) opaque) c.args.work.now.ticks.now.left c.sort_in.new.work.ticks.now.left) c.from_residual-in_err-sort_in.result c.in_err-sort_in.field-0.0 c.from_residual-in_err-sort_in.ensures.1
    (kind_stops E (text_of c.args.work.now.bank.now c.args.name) (tree_of c.args.work.now.bank.now c.args.kind) (tree_of c.args.work.now.bank.now c.args.body) opaque (sym c.is_taken.ensures ∙ c.if-is_taken.false) c.in_ok-known_alone.ensures c.sort_in.new.work.bank.now c.args.work.now.ticks.now.left c.sort_in.new.work.ticks.now.left c.in_err-sort_in.field-0.0
    (c.in_err-sort_in.ensures.answer E [] (tree_of c.args.work.now.bank.now c.args.kind) refl (ap (context_of c.args.work.now.bank.now) c.new-context.ensures) refl))

pub check_in-requires-clause-env : goal.check_in-requires-clause-env
check_in-requires-clause-env g c = IsEnv-grown c.args.work.now.bank.now c.sort_in.new.work.bank.now c.in_ok-sort_in.ensures.grows c.args.env.now c.requires.env

pub returns-in_err-check_in-clause-answer : goal.returns-in_err-check_in-clause-answer
returns-in_err-check_in-clause-answer g c opaque =
    let E = env_of c.args.work.now.bank.now c.args.env.now in
    err_out (λ z. Accepts c.check_in.new.work.bank.now z (E ++ (text_of c.args.work.now.bank.now c.args.name, constant (tree_of c.args.work.now.bank.now c.args.kind) (tree_of c.args.work.now.bank.now c.args.body) opaque) ∷ []) (λ n. declare_constant E n (text_of c.args.work.now.bank.now c.args.name) (tree_of c.args.work.now.bank.now c.args.kind) (tree_of c.args.work.now.bank.now c.args.body) opaque) c.args.work.now.ticks.now.left c.check_in.new.work.ticks.now.left) c.from_residual-in_err-check_in.result c.in_err-check_in.field-0.0 c.from_residual-in_err-check_in.ensures.1
    (constant_ends E (text_of c.args.work.now.bank.now c.args.name) (tree_of c.args.work.now.bank.now c.args.kind) (tree_of c.args.work.now.bank.now c.args.body) opaque (sym c.is_taken.ensures ∙ c.if-is_taken.false) c.in_ok-known_alone.ensures c.check_in.new.work.bank.now c.args.work.now.ticks.now.left c.check_in.new.work.ticks.now.left
    c.in_ok-sort_in.field-0 c.sort_in.new.work.ticks.now.left (Err c.in_err-check_in.field-0.0)
    (c.in_ok-sort_in.ensures.answer E [] (tree_of c.args.work.now.bank.now c.args.kind) refl (ap (context_of c.args.work.now.bank.now) c.new-context.ensures) refl)
    (c.in_err-check_in.ensures.answer E [] (tree_of c.args.work.now.bank.now c.args.body) (tree_of c.args.work.now.bank.now c.args.kind) (env_at c.args.work.now.bank.now c.sort_in.new.work.bank.now c.in_ok-sort_in.ensures.grows c.args.env.now E c.requires.env refl) (ap (context_of c.sort_in.new.work.bank.now) (c.in_ok-sort_in.ensures.kept ∙ c.new-context.ensures))
    (tree_at c.args.work.now.bank.now c.sort_in.new.work.bank.now c.in_ok-sort_in.ensures.grows c.args.body _ c.requires.body.has refl) (tree_at c.args.work.now.bank.now c.sort_in.new.work.bank.now c.in_ok-sort_in.ensures.grows c.args.kind _ c.requires.kind.has refl)))

pub returns-clause-answer : goal.returns-clause-answer
returns-clause-answer g c opaque =
    let E = env_of c.args.work.now.bank.now c.args.env.now in
    constant_ends E (text_of c.args.work.now.bank.now c.args.name) (tree_of c.args.work.now.bank.now c.args.kind) (tree_of c.args.work.now.bank.now c.args.body) opaque (sym c.is_taken.ensures ∙ c.if-is_taken.false) c.in_ok-known_alone.ensures c.check_in.new.work.bank.now c.args.work.now.ticks.now.left c.check_in.new.work.ticks.now.left
    c.in_ok-sort_in.field-0 c.sort_in.new.work.ticks.now.left (Ok tt)
    (c.in_ok-sort_in.ensures.answer E [] (tree_of c.args.work.now.bank.now c.args.kind) refl (ap (context_of c.args.work.now.bank.now) c.new-context.ensures) refl)
    (c.in_ok-check_in.ensures.answer E [] (tree_of c.args.work.now.bank.now c.args.body) (tree_of c.args.work.now.bank.now c.args.kind) (env_at c.args.work.now.bank.now c.sort_in.new.work.bank.now c.in_ok-sort_in.ensures.grows c.args.env.now E c.requires.env refl) (ap (context_of c.sort_in.new.work.bank.now) (c.in_ok-sort_in.ensures.kept ∙ c.new-context.ensures))
    (tree_at c.args.work.now.bank.now c.sort_in.new.work.bank.now c.in_ok-sort_in.ensures.grows c.args.body _ c.requires.body.has refl) (tree_at c.args.work.now.bank.now c.sort_in.new.work.bank.now c.in_ok-sort_in.ensures.grows c.args.kind _ c.requires.kind.has refl))

pub returns-clause-closed : goal.returns-clause-closed
returns-clause-closed g c = closed_both c.args.work.now.bank.now c.args.kind c.args.body c.requires.kind c.requires.body c.in_ok-known_alone.ensures

pub returns-clause-dropped : goal.returns-clause-dropped
returns-clause-dropped g c = nodes_back c.args.work.now.bank.now c.check_in.new.work.bank.now c.undo.new.self c.mark-mark.result (Grows-trans c.args.work.now.bank.now c.sort_in.new.work.bank.now c.check_in.new.work.bank.now c.in_ok-sort_in.ensures.grows c.in_ok-check_in.ensures.grows) c.mark-mark.ensures c.undo.ensures.undone

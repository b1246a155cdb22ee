use Rattle.std.proofs.Common.{◌≡◌, ◌∙◌, refl, ap, arith, [], ◌∷◌, ◌++◌, None, Some}
use Rattle.lq_trees.proofs.Sizes.{one-le-size}
use Rattle.lq_trees.specs.Size.{size}
use Rattle.lq_trees.specs.Fresh.{fresh, opened}
use Rattle.lq_terms.specs.Terms.{text_of, tree_of, Grows}
use Rattle.lq_terms.specs.Contexts.{context_of, hypothesis_of}
use Rattle.lq_terms.proofs.Growth.{Grows-trans}
use Rattle.lq_env.specs.Environments.{env_of}
use Rattle.lq_kernel.proofs.Grown.{IsScoped-grown, IsEnv-grown, IsContext-kept, env_at, context_kept, tree_at, ready, begins, popped}
use Rattle.lq_kernel.proofs.FormLaws.{sort_sorts, product_products}
use Rattle.lq_kernel.proofs.Cycle.{sorts_stop, sorts_form_stop, sorts_end, products_stop, products_form_stop, products_end, checks_stop, checks_end, written_stops, written_ends, ticked, out_of_ticks, is_unknown, evar_typed, prod_domain_stops, prod_rest_stops, prod_ends, lam_domain_stops, lam_body_stops, lam_ends, let_domain_stops, let_value_stops, let_rest_stops, let_ends, app_function_stops, app_argument_stops, app_ends, inside_size}
use Rattle.lq_kernel.proofs.typing.+typing.Goals as goal

pub sort_in-returns-in_err-kind-clause-answer : goal.sort_in-returns-in_err-kind-clause-answer
sort_in-returns-in_err-kind-clause-answer g t c o E G T v e k i =
    sorts_stop o E G T c.type_of.new.work.bank.now c.args.work.now.ticks.now.left c.type_of.new.work.ticks.now.left c.from_residual.result c.in_err-kind.field-0.0 c.from_residual.ensures.1 (c.in_err-kind.ensures.answer o E G T v e k i)

pub sort_in-head_form-requires-clause-env : goal.sort_in-head_form-requires-clause-env
sort_in-head_form-requires-clause-env g t c =
    IsEnv-grown c.args.work.now.bank.now c.type_of.new.work.bank.now c.in_ok-kind.ensures.grows c.args.env.now c.requires.env

pub sort_in-head_form-requires-clause-context : goal.sort_in-head_form-requires-clause-context
sort_in-head_form-requires-clause-context g t c =
    IsContext-kept c.args.work.now.bank.now c.type_of.new.work.bank.now c.in_ok-kind.ensures.grows c.args.context.now c.type_of.new.context c.in_ok-kind.ensures.kept c.requires.context

pub sort_in-returns-in_err-form-clause-answer : goal.sort_in-returns-in_err-form-clause-answer
sort_in-returns-in_err-form-clause-answer g t c o E G T v e k i =
    sorts_form_stop o E G T c.head_form.new.work.bank.now c.args.work.now.ticks.now.left c.head_form.new.work.ticks.now.left (tree_of c.type_of.new.work.bank.now c.in_ok-kind.kind) c.type_of.new.work.ticks.now.left c.from_residual-in_err-form.result c.in_err-form.field-0.0 c.from_residual-in_err-form.ensures.1 (c.in_ok-kind.ensures.answer o E G T v e k i).1
    (c.in_err-form.ensures.answer E G (tree_of c.type_of.new.work.bank.now c.in_ok-kind.kind) (env_at c.args.work.now.bank.now c.type_of.new.work.bank.now c.in_ok-kind.ensures.grows c.args.env.now E c.requires.env e) (context_kept c.args.work.now.bank.now c.type_of.new.work.bank.now c.in_ok-kind.ensures.grows c.args.context.now c.type_of.new.context G c.in_ok-kind.ensures.kept c.requires.context k) refl)

pub sort_in-returns-clause-answer : goal.sort_in-returns-clause-answer
sort_in-returns-clause-answer g t c o E G T v e k i =
    sorts_end o E G T c.head_form.new.work.bank.now c.args.work.now.ticks.now.left c.head_form.new.work.ticks.now.left (tree_of c.type_of.new.work.bank.now c.in_ok-kind.kind) (tree_of c.head_form.new.work.bank.now c.in_ok-form.form) c.type_of.new.work.ticks.now.left c.as_sort.result (c.in_ok-kind.ensures.answer o E G T v e k i).1
    (c.in_ok-form.ensures.answer E G (tree_of c.type_of.new.work.bank.now c.in_ok-kind.kind) (env_at c.args.work.now.bank.now c.type_of.new.work.bank.now c.in_ok-kind.ensures.grows c.args.env.now E c.requires.env e) (context_kept c.args.work.now.bank.now c.type_of.new.work.bank.now c.in_ok-kind.ensures.grows c.args.context.now c.type_of.new.context G c.in_ok-kind.ensures.kept c.requires.context k) refl).1 (sort_sorts c.head_form.new.work.bank.now c.as_sort.result c.in_ok-form.form c.head_form.new.work.ticks.now.left (c.in_ok-form.ensures.answer E G (tree_of c.type_of.new.work.bank.now c.in_ok-kind.kind) (env_at c.args.work.now.bank.now c.type_of.new.work.bank.now c.in_ok-kind.ensures.grows c.args.env.now E c.requires.env e) (context_kept c.args.work.now.bank.now c.type_of.new.work.bank.now c.in_ok-kind.ensures.grows c.args.context.now c.type_of.new.context G c.in_ok-kind.ensures.kept c.requires.context k) refl).0.term.has c.as_sort.ensures)

pub product_in-returns-in_err-kind-clause-answer : goal.product_in-returns-in_err-kind-clause-answer
product_in-returns-in_err-kind-clause-answer g t c o E G T v e k i =
    products_stop o E G T c.type_of.new.work.bank.now c.args.work.now.ticks.now.left c.type_of.new.work.ticks.now.left c.from_residual.result c.in_err-kind.field-0.0 c.from_residual.ensures.1 (c.in_err-kind.ensures.answer o E G T v e k i)

pub product_in-head_form-requires-clause-env : goal.product_in-head_form-requires-clause-env
product_in-head_form-requires-clause-env g t c =
    IsEnv-grown c.args.work.now.bank.now c.type_of.new.work.bank.now c.in_ok-kind.ensures.grows c.args.env.now c.requires.env

pub product_in-head_form-requires-clause-context : goal.product_in-head_form-requires-clause-context
product_in-head_form-requires-clause-context g t c =
    IsContext-kept c.args.work.now.bank.now c.type_of.new.work.bank.now c.in_ok-kind.ensures.grows c.args.context.now c.type_of.new.context c.in_ok-kind.ensures.kept c.requires.context

pub product_in-returns-in_err-form-clause-answer : goal.product_in-returns-in_err-form-clause-answer
product_in-returns-in_err-form-clause-answer g t c o E G T v e k i =
    products_form_stop o E G T c.head_form.new.work.bank.now c.args.work.now.ticks.now.left c.head_form.new.work.ticks.now.left (tree_of c.type_of.new.work.bank.now c.in_ok-kind.kind) c.type_of.new.work.ticks.now.left c.from_residual-in_err-form.result c.in_err-form.field-0.0 c.from_residual-in_err-form.ensures.1 (c.in_ok-kind.ensures.answer o E G T v e k i).1
    (c.in_err-form.ensures.answer E G (tree_of c.type_of.new.work.bank.now c.in_ok-kind.kind) (env_at c.args.work.now.bank.now c.type_of.new.work.bank.now c.in_ok-kind.ensures.grows c.args.env.now E c.requires.env e) (context_kept c.args.work.now.bank.now c.type_of.new.work.bank.now c.in_ok-kind.ensures.grows c.args.context.now c.type_of.new.context G c.in_ok-kind.ensures.kept c.requires.context k) refl)

pub product_in-returns-clause-answer : goal.product_in-returns-clause-answer
product_in-returns-clause-answer g t c o E G T v e k i =
    products_end o E G T c.head_form.new.work.bank.now c.args.work.now.ticks.now.left c.head_form.new.work.ticks.now.left (tree_of c.type_of.new.work.bank.now c.in_ok-kind.kind) (tree_of c.head_form.new.work.bank.now c.in_ok-form.form) c.type_of.new.work.ticks.now.left c.as_product.result (c.in_ok-kind.ensures.answer o E G T v e k i).1
    (c.in_ok-form.ensures.answer E G (tree_of c.type_of.new.work.bank.now c.in_ok-kind.kind) (env_at c.args.work.now.bank.now c.type_of.new.work.bank.now c.in_ok-kind.ensures.grows c.args.env.now E c.requires.env e) (context_kept c.args.work.now.bank.now c.type_of.new.work.bank.now c.in_ok-kind.ensures.grows c.args.context.now c.type_of.new.context G c.in_ok-kind.ensures.kept c.requires.context k) refl).1 (product_products c.head_form.new.work.bank.now c.as_product.result c.in_ok-form.form c.head_form.new.work.ticks.now.left (c.in_ok-form.ensures.answer E G (tree_of c.type_of.new.work.bank.now c.in_ok-kind.kind) (env_at c.args.work.now.bank.now c.type_of.new.work.bank.now c.in_ok-kind.ensures.grows c.args.env.now E c.requires.env e) (context_kept c.args.work.now.bank.now c.type_of.new.work.bank.now c.in_ok-kind.ensures.grows c.args.context.now c.type_of.new.context G c.in_ok-kind.ensures.kept c.requires.context k) refl).0.term.has (c.in_ok-form.ensures.answer E G (tree_of c.type_of.new.work.bank.now c.in_ok-kind.kind) (env_at c.args.work.now.bank.now c.type_of.new.work.bank.now c.in_ok-kind.ensures.grows c.args.env.now E c.requires.env e) (context_kept c.args.work.now.bank.now c.type_of.new.work.bank.now c.in_ok-kind.ensures.grows c.args.context.now c.type_of.new.context G c.in_ok-kind.ensures.kept c.requires.context k) refl).0.within c.as_product.ensures)

pub check_in-returns-in_err-found-clause-answer : goal.check_in-returns-in_err-found-clause-answer
check_in-returns-in_err-found-clause-answer g t c o E G T U v e k i j =
    checks_stop o E G T c.type_of.new.work.bank.now c.args.work.now.ticks.now.left c.type_of.new.work.ticks.now.left U c.from_residual.result c.in_err-found.field-0.0 c.from_residual.ensures.1 (c.in_err-found.ensures.answer o E G T v e k i)

pub check_in-matching-requires-clause-env : goal.check_in-matching-requires-clause-env
check_in-matching-requires-clause-env g t c =
    IsEnv-grown c.args.work.now.bank.now c.type_of.new.work.bank.now c.in_ok-found.ensures.grows c.args.env.now c.requires.env

pub check_in-matching-requires-clause-context : goal.check_in-matching-requires-clause-context
check_in-matching-requires-clause-context g t c =
    IsContext-kept c.args.work.now.bank.now c.type_of.new.work.bank.now c.in_ok-found.ensures.grows c.args.context.now c.type_of.new.context c.in_ok-found.ensures.kept c.requires.context

pub check_in-returns-clause-answer : goal.check_in-returns-clause-answer
check_in-returns-clause-answer g t c o E G T U v e k i j =
    checks_end o E G T c.matching.new.work.bank.now c.args.work.now.ticks.now.left c.matching.new.work.ticks.now.left U (tree_of c.type_of.new.work.bank.now c.in_ok-found.found) c.type_of.new.work.ticks.now.left c.matching.result (c.in_ok-found.ensures.answer o E G T v e k i).1
    (c.matching.ensures.answer E G (tree_of c.type_of.new.work.bank.now c.in_ok-found.found) U (env_at c.args.work.now.bank.now c.type_of.new.work.bank.now c.in_ok-found.ensures.grows c.args.env.now E c.requires.env e) (context_kept c.args.work.now.bank.now c.type_of.new.work.bank.now c.in_ok-found.ensures.grows c.args.context.now c.type_of.new.context G c.in_ok-found.ensures.kept c.requires.context k) refl (tree_at c.args.work.now.bank.now c.type_of.new.work.bank.now c.in_ok-found.ensures.grows c.args.wanted U c.requires.wanted.has j))

pub written_in-returns-in_err-found-clause-answer : goal.written_in-returns-in_err-found-clause-answer
written_in-returns-in_err-found-clause-answer g t c o E G T U v e k i j =
    written_stops o E G T c.type_of.new.work.bank.now c.args.work.now.ticks.now.left c.type_of.new.work.ticks.now.left U c.from_residual.result c.in_err-found.field-0.0 c.from_residual.ensures.1 (c.in_err-found.ensures.answer o E G T v e k i)

pub written_in-matching_written-requires-clause-env : goal.written_in-matching_written-requires-clause-env
written_in-matching_written-requires-clause-env g t c =
    IsEnv-grown c.args.work.now.bank.now c.type_of.new.work.bank.now c.in_ok-found.ensures.grows c.args.env.now c.requires.env

pub written_in-matching_written-requires-clause-context : goal.written_in-matching_written-requires-clause-context
written_in-matching_written-requires-clause-context g t c =
    IsContext-kept c.args.work.now.bank.now c.type_of.new.work.bank.now c.in_ok-found.ensures.grows c.args.context.now c.type_of.new.context c.in_ok-found.ensures.kept c.requires.context

pub written_in-returns-clause-answer : goal.written_in-returns-clause-answer
written_in-returns-clause-answer g t c o E G T U v e k i j =
    written_ends o E G T c.matching_written.new.work.bank.now c.args.work.now.ticks.now.left c.matching_written.new.work.ticks.now.left U (tree_of c.type_of.new.work.bank.now c.in_ok-found.found) c.type_of.new.work.ticks.now.left c.matching_written.result (c.in_ok-found.ensures.answer o E G T v e k i).1
    (c.matching_written.ensures.answer o E G (tree_of c.type_of.new.work.bank.now c.in_ok-found.found) U (g.met.V.Variables.same c.args.variables.now c.args.work.now.bank.now c.type_of.new.work.bank.now c.in_ok-found.ensures.grows c.requires.variables ∙ v) (env_at c.args.work.now.bank.now c.type_of.new.work.bank.now c.in_ok-found.ensures.grows c.args.env.now E c.requires.env e) (context_kept c.args.work.now.bank.now c.type_of.new.work.bank.now c.in_ok-found.ensures.grows c.args.context.now c.type_of.new.context G c.in_ok-found.ensures.kept c.requires.context k) refl (tree_at c.args.work.now.bank.now c.type_of.new.work.bank.now c.in_ok-found.ensures.grows c.args.wanted U c.requires.wanted.has j))

pub written_in-matching_written-requires-clause-variables : goal.written_in-matching_written-requires-clause-variables
written_in-matching_written-requires-clause-variables g t c =
    g.met.V.Variables.stay c.args.variables.now c.args.work.now.bank.now c.type_of.new.work.bank.now c.in_ok-found.ensures.grows c.requires.variables

pub type_of-returns-then-not-take-clause-answer : goal.type_of-returns-then-not-take-clause-answer
type_of-returns-then-not-take-clause-answer g t c o E G T v e k i =
    out_of_ticks o E G T c.args.work.now.ticks.now.left c.take.new.self.left (omega (arith, c.if-not-take.ensures)) (omega (arith, c.if-not-take.ensures))

pub type_of-returns-clause-answer : goal.type_of-returns-clause-answer
type_of-returns-clause-answer g t c o E G T v e k i =
    ticked o E G T c.node_type.new.work.bank.now c.node_type.result c.args.work.now.ticks.now.left c.take.new.self.left c.node_type.new.work.ticks.now.left (omega (arith, c.if-not-take.ensures)) (c.node_type.ensures.answer o E G T v e k i)

pub node_type-kind-requires-clause-unknown : goal.node_type-kind-requires-clause-unknown
node_type-kind-requires-clause-unknown g t c = is_unknown c.args.work.now.bank.now _ c.args.term c.in-Evar.field-0 c.in-Evar.field-1 c.node.ensures.tree c.in-Evar.is

pub node_type-returns-in-Evar-clause-answer : goal.node_type-returns-in-Evar-clause-answer
node_type-returns-in-Evar-clause-answer g t c o E G T v e k i =
    evar_typed (g.V.Variables.given c.args.variables.now c.args.work.now.bank.now) o E G c.args.work.now.bank.now c.kind.new.bank _ c.args.term c.in-Evar.field-0 c.in-Evar.field-1 T c.kind.result c.args.work.now.ticks.now.left v c.node.ensures.tree c.in-Evar.is i c.kind.ensures.answer

pub application_type-returns-in_err-domain-clause-answer : goal.application_type-returns-in_err-domain-clause-answer
application_type-returns-in_err-domain-clause-answer g t c o E G v e k =
    app_function_stops o E G (tree_of c.args.work.now.bank.now c.args.function) (tree_of c.args.work.now.bank.now c.args.argument) c.product_in.new.work.bank.now c.args.work.now.ticks.now.left c.product_in.new.work.ticks.now.left c.from_residual.result c.in_err-domain.field-0.0 c.from_residual.ensures.1 (c.in_err-domain.ensures.answer o E G (tree_of c.args.work.now.bank.now c.args.function) v e k refl)

pub application_type-check_in-requires : goal.application_type-check_in-requires
application_type-check_in-requires g t c κs within =
    let same : size (tree_of c.product_in.new.work.bank.now c.args.argument) ≡ size (tree_of c.args.work.now.bank.now c.args.argument) = ap size (c.in_ok-domain.ensures.grows.tree c.args.argument c.requires.argument.has) in (
      omega (arith, one-le-size (tree_of c.args.work.now.bank.now c.args.function)),
      (within.0, (within.1, (IsScoped-grown c.args.work.now.bank.now c.product_in.new.work.bank.now c.in_ok-domain.ensures.grows 0 c.args.argument c.requires.argument, ((c.in_ok-domain.ensures.answer (g.V.Variables.given c.args.variables.now c.args.work.now.bank.now) (env_of c.args.work.now.bank.now c.args.env.now) (context_of c.args.work.now.bank.now c.args.context.now) (tree_of c.args.work.now.bank.now c.args.function) refl refl refl refl).0.domain, (IsEnv-grown c.args.work.now.bank.now c.product_in.new.work.bank.now c.in_ok-domain.ensures.grows c.args.env.now c.requires.env, (g.met.V.Variables.stay c.args.variables.now c.args.work.now.bank.now c.product_in.new.work.bank.now c.in_ok-domain.ensures.grows c.requires.variables, IsContext-kept c.args.work.now.bank.now c.product_in.new.work.bank.now c.in_ok-domain.ensures.grows c.args.context.now c.product_in.new.context c.in_ok-domain.ensures.kept c.requires.context)))))),
    )

pub application_type-returns-in_err-check_in-clause-answer : goal.application_type-returns-in_err-check_in-clause-answer
application_type-returns-in_err-check_in-clause-answer g t c o E G v e k =
    app_argument_stops o E G (tree_of c.args.work.now.bank.now c.args.function) (tree_of c.args.work.now.bank.now c.args.argument) c.check_in.new.work.bank.now c.args.work.now.ticks.now.left c.check_in.new.work.ticks.now.left (tree_of c.product_in.new.work.bank.now c.in_ok-domain.domain, tree_of c.product_in.new.work.bank.now c.in_ok-domain.rest) c.product_in.new.work.ticks.now.left c.from_residual-in_err-check_in.result c.in_err-check_in.field-0.0 c.from_residual-in_err-check_in.ensures.1 (c.in_ok-domain.ensures.answer o E G (tree_of c.args.work.now.bank.now c.args.function) v e k refl).1
    (c.in_err-check_in.ensures.answer o E G (tree_of c.args.work.now.bank.now c.args.argument) (tree_of c.product_in.new.work.bank.now c.in_ok-domain.domain) (g.met.V.Variables.same c.args.variables.now c.args.work.now.bank.now c.product_in.new.work.bank.now c.in_ok-domain.ensures.grows c.requires.variables ∙ v) (env_at c.args.work.now.bank.now c.product_in.new.work.bank.now c.in_ok-domain.ensures.grows c.args.env.now E c.requires.env e) (context_kept c.args.work.now.bank.now c.product_in.new.work.bank.now c.in_ok-domain.ensures.grows c.args.context.now c.product_in.new.context G c.in_ok-domain.ensures.kept c.requires.context k) (tree_at c.args.work.now.bank.now c.product_in.new.work.bank.now c.in_ok-domain.ensures.grows c.args.argument (tree_of c.args.work.now.bank.now c.args.argument) c.requires.argument.has refl) refl)

pub application_type-returns-clause-answer : goal.application_type-returns-clause-answer
application_type-returns-clause-answer g t c o E G v e k =
    app_ends o E G (tree_of c.args.work.now.bank.now c.args.function) (tree_of c.args.work.now.bank.now c.args.argument) c.application_kind.new.bank c.args.work.now.ticks.now.left c.check_in.new.work.ticks.now.left (tree_of c.product_in.new.work.bank.now c.in_ok-domain.domain, tree_of c.product_in.new.work.bank.now c.in_ok-domain.rest) c.product_in.new.work.ticks.now.left c.application_kind.result c.requires.argument.within (c.in_ok-domain.ensures.answer o E G (tree_of c.args.work.now.bank.now c.args.function) v e k refl).0.rest.within (c.in_ok-domain.ensures.answer o E G (tree_of c.args.work.now.bank.now c.args.function) v e k refl).1
    (c.in_ok-check_in.ensures.answer o E G (tree_of c.args.work.now.bank.now c.args.argument) (tree_of c.product_in.new.work.bank.now c.in_ok-domain.domain) (g.met.V.Variables.same c.args.variables.now c.args.work.now.bank.now c.product_in.new.work.bank.now c.in_ok-domain.ensures.grows c.requires.variables ∙ v) (env_at c.args.work.now.bank.now c.product_in.new.work.bank.now c.in_ok-domain.ensures.grows c.args.env.now E c.requires.env e) (context_kept c.args.work.now.bank.now c.product_in.new.work.bank.now c.in_ok-domain.ensures.grows c.args.context.now c.product_in.new.context G c.in_ok-domain.ensures.kept c.requires.context k) (tree_at c.args.work.now.bank.now c.product_in.new.work.bank.now c.in_ok-domain.ensures.grows c.args.argument (tree_of c.args.work.now.bank.now c.args.argument) c.requires.argument.has refl) refl)
    (c.application_kind.ensures.answer (tree_of c.args.work.now.bank.now c.args.argument) (tree_of c.product_in.new.work.bank.now c.in_ok-domain.rest) (c.in_ok-check_in.ensures.grows.tree c.args.argument (omega (arith, c.requires.argument.has, c.in_ok-domain.ensures.grows.nodes)) ∙ c.in_ok-domain.ensures.grows.tree c.args.argument c.requires.argument.has) (c.in_ok-check_in.ensures.grows.tree c.in_ok-domain.rest (c.in_ok-domain.ensures.answer o E G (tree_of c.args.work.now.bank.now c.args.function) v e k refl).0.rest.has))

pub product_type-returns-in_err-domain-clause-answer : goal.product_type-returns-in_err-domain-clause-answer
product_type-returns-in_err-domain-clause-answer g t c o E G v e k =
    prod_domain_stops o E G (text_of c.args.work.now.bank.now c.args.binder) (tree_of c.args.work.now.bank.now c.args.kind) (tree_of c.args.work.now.bank.now c.args.rest) c.sort_in.new.work.bank.now c.args.work.now.ticks.now.left c.sort_in.new.work.ticks.now.left c.from_residual.result c.in_err-domain.field-0.0 c.from_residual.ensures.1 (c.in_err-domain.ensures.answer o E G (tree_of c.args.work.now.bank.now c.args.kind) v e k refl)

pub function_type-returns-in_err-sort_in-clause-answer : goal.function_type-returns-in_err-sort_in-clause-answer
function_type-returns-in_err-sort_in-clause-answer g t c o E G v e k =
    lam_domain_stops o E G (text_of c.args.work.now.bank.now c.args.binder) (tree_of c.args.work.now.bank.now c.args.kind) (tree_of c.args.work.now.bank.now c.args.rest) c.sort_in.new.work.bank.now c.args.work.now.ticks.now.left c.sort_in.new.work.ticks.now.left c.from_residual.result c.in_err-sort_in.field-0.0 c.from_residual.ensures.1 (c.in_err-sort_in.ensures.answer o E G (tree_of c.args.work.now.bank.now c.args.kind) v e k refl)

pub definition_type-returns-in_err-sort_in-clause-answer : goal.definition_type-returns-in_err-sort_in-clause-answer
definition_type-returns-in_err-sort_in-clause-answer g t c o E G v e k =
    let_domain_stops o E G (text_of c.args.work.now.bank.now c.args.binder) (tree_of c.args.work.now.bank.now c.args.value) (tree_of c.args.work.now.bank.now c.args.kind) (tree_of c.args.work.now.bank.now c.args.rest) c.sort_in.new.work.bank.now c.args.work.now.ticks.now.left c.sort_in.new.work.ticks.now.left c.from_residual.result c.in_err-sort_in.field-0.0 c.from_residual.ensures.1 (c.in_err-sort_in.ensures.answer o E G (tree_of c.args.work.now.bank.now c.args.kind) v e k refl)

pub definition_type-written_in-requires : goal.definition_type-written_in-requires
definition_type-written_in-requires g t c κs within =
    let same : size (tree_of c.sort_in.new.work.bank.now c.args.value) ≡ size (tree_of c.args.work.now.bank.now c.args.value) = ap size (c.in_ok-sort_in.ensures.grows.tree c.args.value c.requires.value.has) in (
      omega (arith, one-le-size (tree_of c.args.work.now.bank.now c.args.kind), one-le-size (tree_of c.args.work.now.bank.now c.args.rest)),
      (within.0, (within.1, (IsScoped-grown c.args.work.now.bank.now c.sort_in.new.work.bank.now c.in_ok-sort_in.ensures.grows 0 c.args.value c.requires.value, (IsScoped-grown c.args.work.now.bank.now c.sort_in.new.work.bank.now c.in_ok-sort_in.ensures.grows 0 c.args.kind c.requires.kind, (IsEnv-grown c.args.work.now.bank.now c.sort_in.new.work.bank.now c.in_ok-sort_in.ensures.grows c.args.env.now c.requires.env, (g.met.V.Variables.stay c.args.variables.now c.args.work.now.bank.now c.sort_in.new.work.bank.now c.in_ok-sort_in.ensures.grows c.requires.variables, IsContext-kept c.args.work.now.bank.now c.sort_in.new.work.bank.now c.in_ok-sort_in.ensures.grows c.args.context.now c.sort_in.new.context c.in_ok-sort_in.ensures.kept c.requires.context)))))),
    )

pub definition_type-returns-in_err-written_in-clause-answer : goal.definition_type-returns-in_err-written_in-clause-answer
definition_type-returns-in_err-written_in-clause-answer g t c o E G v e k =
    let_value_stops o E G (text_of c.args.work.now.bank.now c.args.binder) (tree_of c.args.work.now.bank.now c.args.value) (tree_of c.args.work.now.bank.now c.args.kind) (tree_of c.args.work.now.bank.now c.args.rest) c.written_in.new.work.bank.now c.args.work.now.ticks.now.left c.written_in.new.work.ticks.now.left c.in_ok-sort_in.field-0 c.sort_in.new.work.ticks.now.left c.from_residual-in_err-written_in.result c.in_err-written_in.field-0.0 c.from_residual-in_err-written_in.ensures.1 (c.in_ok-sort_in.ensures.answer o E G (tree_of c.args.work.now.bank.now c.args.kind) v e k refl)
    (c.in_err-written_in.ensures.answer o E G (tree_of c.args.work.now.bank.now c.args.value) (tree_of c.args.work.now.bank.now c.args.kind) (g.met.V.Variables.same c.args.variables.now c.args.work.now.bank.now c.sort_in.new.work.bank.now c.in_ok-sort_in.ensures.grows c.requires.variables ∙ v) (env_at c.args.work.now.bank.now c.sort_in.new.work.bank.now c.in_ok-sort_in.ensures.grows c.args.env.now E c.requires.env e) (context_kept c.args.work.now.bank.now c.sort_in.new.work.bank.now c.in_ok-sort_in.ensures.grows c.args.context.now c.sort_in.new.context G c.in_ok-sort_in.ensures.kept c.requires.context k) (tree_at c.args.work.now.bank.now c.sort_in.new.work.bank.now c.in_ok-sort_in.ensures.grows c.args.value (tree_of c.args.work.now.bank.now c.args.value) c.requires.value.has refl) (tree_at c.args.work.now.bank.now c.sort_in.new.work.bank.now c.in_ok-sort_in.ensures.grows c.args.kind (tree_of c.args.work.now.bank.now c.args.kind) c.requires.kind.has refl))

pub type_inside-type_of-kind-requires : goal.type_inside-type_of-kind-requires
type_inside-type_of-kind-requires g t c κs within =
    let r = begins c.args.work.now.bank.now c.open.new.bank c.in_ok-term.ensures.grows c.args.env.now c.args.context.now c.push.new.self c.args.variable c.args.rest c.in_ok-term.term (env_of c.args.work.now.bank.now c.args.env.now) (context_of c.args.work.now.bank.now c.args.context.now) (hypothesis_of c.args.work.now.bank.now c.args.variable) (tree_of c.args.work.now.bank.now c.args.rest) c.in_ok-push.ensures.ok c.requires.env refl c.requires.context refl c.requires.variable refl c.requires.rest refl c.in_ok-term.ensures.opened in
    let same : size (tree_of c.open.new.bank c.in_ok-term.term) ≡ size (tree_of c.args.work.now.bank.now c.args.rest) =
    inside_size c.open.new.bank c.in_ok-term.term (text_of c.args.work.now.bank.now c.args.variable.name) (tree_of c.args.work.now.bank.now c.args.rest) (size (tree_of c.args.work.now.bank.now c.args.rest)) c.in_ok-term.ensures.opened refl in (omega arith, (within.0, (within.1, (r.term, (r.env, (g.met.V.Variables.stay c.args.variables.now c.args.work.now.bank.now c.open.new.bank c.in_ok-term.ensures.grows c.requires.variables, r.context))))))

pub type_inside-returns-clause-answer : goal.type_inside-returns-clause-answer
type_inside-returns-clause-answer g t c o E G H B m e k v i =
    let r = begins c.args.work.now.bank.now c.open.new.bank c.in_ok-term.ensures.grows c.args.env.now c.args.context.now c.push.new.self c.args.variable c.args.rest c.in_ok-term.term E G H B c.in_ok-push.ensures.ok c.requires.env e c.requires.context k c.requires.variable v c.requires.rest i c.in_ok-term.ensures.opened in
    c.type_of-kind.ensures.answer o E (G ++ H ∷ []) (opened H.name B) (g.met.V.Variables.same c.args.variables.now c.args.work.now.bank.now c.open.new.bank c.in_ok-term.ensures.grows c.requires.variables ∙ m) r.env_is r.context_is r.term_is

pub type_inside-returns-clause-kept : goal.type_inside-returns-clause-kept
type_inside-returns-clause-kept g t c = popped c.pop.result c.args.context.now c.type_of-kind.new.context c.pop.new.self c.args.variable (c.type_of-kind.ensures.kept ∙ c.in_ok-push.ensures.ok) c.pop.ensures

pub sort_inside-sort_in-sort-requires : goal.sort_inside-sort_in-sort-requires
sort_inside-sort_in-sort-requires g t c κs within =
    let r = begins c.args.work.now.bank.now c.open.new.bank c.in_ok-term.ensures.grows c.args.env.now c.args.context.now c.push.new.self c.args.variable c.args.rest c.in_ok-term.term (env_of c.args.work.now.bank.now c.args.env.now) (context_of c.args.work.now.bank.now c.args.context.now) (hypothesis_of c.args.work.now.bank.now c.args.variable) (tree_of c.args.work.now.bank.now c.args.rest) c.in_ok-push.ensures.ok c.requires.env refl c.requires.context refl c.requires.variable refl c.requires.rest refl c.in_ok-term.ensures.opened in
    let same : size (tree_of c.open.new.bank c.in_ok-term.term) ≡ size (tree_of c.args.work.now.bank.now c.args.rest) =
    inside_size c.open.new.bank c.in_ok-term.term (text_of c.args.work.now.bank.now c.args.variable.name) (tree_of c.args.work.now.bank.now c.args.rest) (size (tree_of c.args.work.now.bank.now c.args.rest)) c.in_ok-term.ensures.opened refl in (omega arith, (within.0, (within.1, (r.term, (r.env, (g.met.V.Variables.stay c.args.variables.now c.args.work.now.bank.now c.open.new.bank c.in_ok-term.ensures.grows c.requires.variables, r.context))))))

pub sort_inside-returns-clause-answer : goal.sort_inside-returns-clause-answer
sort_inside-returns-clause-answer g t c o E G H B m e k v i =
    let r = begins c.args.work.now.bank.now c.open.new.bank c.in_ok-term.ensures.grows c.args.env.now c.args.context.now c.push.new.self c.args.variable c.args.rest c.in_ok-term.term E G H B c.in_ok-push.ensures.ok c.requires.env e c.requires.context k c.requires.variable v c.requires.rest i c.in_ok-term.ensures.opened in
    c.sort_in-sort.ensures.answer o E (G ++ H ∷ []) (opened H.name B) (g.met.V.Variables.same c.args.variables.now c.args.work.now.bank.now c.open.new.bank c.in_ok-term.ensures.grows c.requires.variables ∙ m) r.env_is r.context_is r.term_is

pub sort_inside-returns-clause-kept : goal.sort_inside-returns-clause-kept
sort_inside-returns-clause-kept g t c = popped c.pop.result c.args.context.now c.sort_in-sort.new.context c.pop.new.self c.args.variable (c.sort_in-sort.ensures.kept ∙ c.in_ok-push.ensures.ok) c.pop.ensures

pub product_type-variable-requires-clause-context : goal.product_type-variable-requires-clause-context
product_type-variable-requires-clause-context g t c = IsContext-kept c.args.work.now.bank.now c.sort_in.new.work.bank.now c.in_ok-domain.ensures.grows c.args.context.now c.sort_in.new.context c.in_ok-domain.ensures.kept c.requires.context

pub product_type-sort_inside-requires : goal.product_type-sort_inside-requires
product_type-sort_inside-requires g t c κs within =
    let r = ready c.args.work.now.bank.now c.sort_in.new.work.bank.now c.variable.new.bank c.in_ok-domain.ensures.grows c.in_ok-variable.ensures.grows c.args.env.now c.args.context.now c.sort_in.new.context c.in_ok-variable.variable c.args.binder None c.args.kind c.args.rest (env_of c.args.work.now.bank.now c.args.env.now) (context_of c.args.work.now.bank.now c.args.context.now) c.in_ok-domain.ensures.kept c.requires.env refl c.requires.context refl c.requires.binder tt c.requires.kind.has c.requires.rest c.in_ok-variable.ensures.variable in
    let same : size (tree_of c.variable.new.bank c.args.rest) ≡ size (tree_of c.args.work.now.bank.now c.args.rest) = ap size r.rest_is in (omega (arith, one-le-size (tree_of c.args.work.now.bank.now c.args.kind)), (within.0, (within.1, (r.variable, (r.rest, (r.env, (g.met.V.Variables.stay c.args.variables.now c.args.work.now.bank.now c.variable.new.bank r.grows c.requires.variables, r.context)))))))

pub product_type-returns-in_err-last-clause-answer : goal.product_type-returns-in_err-last-clause-answer
product_type-returns-in_err-last-clause-answer g t c o E G v e k =
    let r = ready c.args.work.now.bank.now c.sort_in.new.work.bank.now c.variable.new.bank c.in_ok-domain.ensures.grows c.in_ok-variable.ensures.grows c.args.env.now c.args.context.now c.sort_in.new.context c.in_ok-variable.variable c.args.binder None c.args.kind c.args.rest E G c.in_ok-domain.ensures.kept c.requires.env e c.requires.context k c.requires.binder tt c.requires.kind.has c.requires.rest c.in_ok-variable.ensures.variable in
    prod_rest_stops o E G (text_of c.args.work.now.bank.now c.args.binder) (tree_of c.args.work.now.bank.now c.args.kind) (tree_of c.args.work.now.bank.now c.args.rest) c.sort_inside.new.work.bank.now c.args.work.now.ticks.now.left c.sort_inside.new.work.ticks.now.left c.in_ok-domain.domain c.sort_in.new.work.ticks.now.left c.from_residual-in_err-last.result c.in_err-last.field-0.0 c.from_residual-in_err-last.ensures.1 (c.in_ok-domain.ensures.answer o E G (tree_of c.args.work.now.bank.now c.args.kind) v e k refl)
    (c.in_err-last.ensures.answer o E G (record { name = fresh G (text_of c.args.work.now.bank.now c.args.binder); body = None; kind = tree_of c.args.work.now.bank.now c.args.kind }) (tree_of c.args.work.now.bank.now c.args.rest) (g.met.V.Variables.same c.args.variables.now c.args.work.now.bank.now c.variable.new.bank r.grows c.requires.variables ∙ v) r.env_is r.context_is r.variable_is r.rest_is)

pub product_type-returns-clause-answer : goal.product_type-returns-clause-answer
product_type-returns-clause-answer g t c o E G v e k =
    let r = ready c.args.work.now.bank.now c.sort_in.new.work.bank.now c.variable.new.bank c.in_ok-domain.ensures.grows c.in_ok-variable.ensures.grows c.args.env.now c.args.context.now c.sort_in.new.context c.in_ok-variable.variable c.args.binder None c.args.kind c.args.rest E G c.in_ok-domain.ensures.kept c.requires.env e c.requires.context k c.requires.binder tt c.requires.kind.has c.requires.rest c.in_ok-variable.ensures.variable in
    prod_ends o E G (text_of c.args.work.now.bank.now c.args.binder) (tree_of c.args.work.now.bank.now c.args.kind) (tree_of c.args.work.now.bank.now c.args.rest) c.make.new.self c.args.work.now.ticks.now.left c.sort_inside.new.work.ticks.now.left c.in_ok-domain.domain c.in_ok-last.last c.product_sort.result c.sort_in.new.work.ticks.now.left c.in_ok-make.field-0 (c.in_ok-domain.ensures.answer o E G (tree_of c.args.work.now.bank.now c.args.kind) v e k refl)
    (c.in_ok-last.ensures.answer o E G (record { name = fresh G (text_of c.args.work.now.bank.now c.args.binder); body = None; kind = tree_of c.args.work.now.bank.now c.args.kind }) (tree_of c.args.work.now.bank.now c.args.rest) (g.met.V.Variables.same c.args.variables.now c.args.work.now.bank.now c.variable.new.bank r.grows c.requires.variables ∙ v) r.env_is r.context_is r.variable_is r.rest_is) c.product_sort.ensures c.in_ok-make.ensures.made

pub function_type-variable-requires-clause-context : goal.function_type-variable-requires-clause-context
function_type-variable-requires-clause-context g t c = IsContext-kept c.args.work.now.bank.now c.sort_in.new.work.bank.now c.in_ok-sort_in.ensures.grows c.args.context.now c.sort_in.new.context c.in_ok-sort_in.ensures.kept c.requires.context

pub function_type-type_inside-requires : goal.function_type-type_inside-requires
function_type-type_inside-requires g t c κs within =
    let r = ready c.args.work.now.bank.now c.sort_in.new.work.bank.now c.variable.new.bank c.in_ok-sort_in.ensures.grows c.in_ok-variable.ensures.grows c.args.env.now c.args.context.now c.sort_in.new.context c.in_ok-variable.variable c.args.binder None c.args.kind c.args.rest (env_of c.args.work.now.bank.now c.args.env.now) (context_of c.args.work.now.bank.now c.args.context.now) c.in_ok-sort_in.ensures.kept c.requires.env refl c.requires.context refl c.requires.binder tt c.requires.kind.has c.requires.rest c.in_ok-variable.ensures.variable in
    let same : size (tree_of c.variable.new.bank c.args.rest) ≡ size (tree_of c.args.work.now.bank.now c.args.rest) = ap size r.rest_is in (omega (arith, one-le-size (tree_of c.args.work.now.bank.now c.args.kind)), (within.0, (within.1, (r.variable, (r.rest, (r.env, (g.met.V.Variables.stay c.args.variables.now c.args.work.now.bank.now c.variable.new.bank r.grows c.requires.variables, r.context)))))))

pub function_type-function_kind-requires-clause-name : goal.function_type-function_kind-requires-clause-name
function_type-function_kind-requires-clause-name g t c =
    let r = ready c.args.work.now.bank.now c.sort_in.new.work.bank.now c.variable.new.bank c.in_ok-sort_in.ensures.grows c.in_ok-variable.ensures.grows c.args.env.now c.args.context.now c.sort_in.new.context c.in_ok-variable.variable c.args.binder None c.args.kind c.args.rest (env_of c.args.work.now.bank.now c.args.env.now) (context_of c.args.work.now.bank.now c.args.context.now) c.in_ok-sort_in.ensures.kept c.requires.env refl c.requires.context refl c.requires.binder tt c.requires.kind.has c.requires.rest c.in_ok-variable.ensures.variable in omega (arith, r.variable.name, c.in_ok-body.ensures.grows.names)

pub function_type-returns-in_err-body-clause-answer : goal.function_type-returns-in_err-body-clause-answer
function_type-returns-in_err-body-clause-answer g t c o E G v e k =
    let r = ready c.args.work.now.bank.now c.sort_in.new.work.bank.now c.variable.new.bank c.in_ok-sort_in.ensures.grows c.in_ok-variable.ensures.grows c.args.env.now c.args.context.now c.sort_in.new.context c.in_ok-variable.variable c.args.binder None c.args.kind c.args.rest E G c.in_ok-sort_in.ensures.kept c.requires.env e c.requires.context k c.requires.binder tt c.requires.kind.has c.requires.rest c.in_ok-variable.ensures.variable in
    lam_body_stops o E G (text_of c.args.work.now.bank.now c.args.binder) (tree_of c.args.work.now.bank.now c.args.kind) (tree_of c.args.work.now.bank.now c.args.rest) c.type_inside.new.work.bank.now c.args.work.now.ticks.now.left c.type_inside.new.work.ticks.now.left c.in_ok-sort_in.field-0 c.sort_in.new.work.ticks.now.left c.from_residual-in_err-body.result c.in_err-body.field-0.0 c.from_residual-in_err-body.ensures.1 (c.in_ok-sort_in.ensures.answer o E G (tree_of c.args.work.now.bank.now c.args.kind) v e k refl)
    (c.in_err-body.ensures.answer o E G (record { name = fresh G (text_of c.args.work.now.bank.now c.args.binder); body = None; kind = tree_of c.args.work.now.bank.now c.args.kind }) (tree_of c.args.work.now.bank.now c.args.rest) (g.met.V.Variables.same c.args.variables.now c.args.work.now.bank.now c.variable.new.bank r.grows c.requires.variables ∙ v) r.env_is r.context_is r.variable_is r.rest_is)

pub function_type-returns-clause-answer : goal.function_type-returns-clause-answer
function_type-returns-clause-answer g t c o E G v e k =
    let r = ready c.args.work.now.bank.now c.sort_in.new.work.bank.now c.variable.new.bank c.in_ok-sort_in.ensures.grows c.in_ok-variable.ensures.grows c.args.env.now c.args.context.now c.sort_in.new.context c.in_ok-variable.variable c.args.binder None c.args.kind c.args.rest E G c.in_ok-sort_in.ensures.kept c.requires.env e c.requires.context k c.requires.binder tt c.requires.kind.has c.requires.rest c.in_ok-variable.ensures.variable in
    let body = (c.in_ok-body.ensures.answer o E G (record { name = fresh G (text_of c.args.work.now.bank.now c.args.binder); body = None; kind = tree_of c.args.work.now.bank.now c.args.kind }) (tree_of c.args.work.now.bank.now c.args.rest) (g.met.V.Variables.same c.args.variables.now c.args.work.now.bank.now c.variable.new.bank r.grows c.requires.variables ∙ v) r.env_is r.context_is r.variable_is r.rest_is) in
    let whole : Grows c.args.work.now.bank.now c.type_inside.new.work.bank.now = (Grows-trans c.args.work.now.bank.now c.variable.new.bank c.type_inside.new.work.bank.now (Grows-trans c.args.work.now.bank.now c.sort_in.new.work.bank.now c.variable.new.bank c.in_ok-sort_in.ensures.grows c.in_ok-variable.ensures.grows) c.in_ok-body.ensures.grows) in
    lam_ends o E G (text_of c.args.work.now.bank.now c.args.binder) (tree_of c.args.work.now.bank.now c.args.kind) (tree_of c.args.work.now.bank.now c.args.rest) c.function_kind.new.bank c.args.work.now.ticks.now.left c.type_inside.new.work.ticks.now.left c.in_ok-sort_in.field-0 (tree_of c.type_inside.new.work.bank.now c.in_ok-body.body) c.sort_in.new.work.ticks.now.left c.function_kind.result c.requires.kind.within body.0.within (c.in_ok-sort_in.ensures.answer o E G (tree_of c.args.work.now.bank.now c.args.kind) v e k refl) body.1
    (c.function_kind.ensures.answer (text_of c.args.work.now.bank.now c.args.binder) (fresh G (text_of c.args.work.now.bank.now c.args.binder)) (tree_of c.args.work.now.bank.now c.args.kind) (tree_of c.type_inside.new.work.bank.now c.in_ok-body.body) (whole.text c.args.binder c.requires.binder) (c.in_ok-body.ensures.grows.text c.in_ok-variable.variable.name r.variable.name ∙ ap (λ z. z.name) r.variable_is) (whole.tree c.args.kind c.requires.kind.has) refl)

pub definition_type-variable-requires-clause-context : goal.definition_type-variable-requires-clause-context
definition_type-variable-requires-clause-context g t c = IsContext-kept c.args.work.now.bank.now c.written_in.new.work.bank.now (Grows-trans c.args.work.now.bank.now c.sort_in.new.work.bank.now c.written_in.new.work.bank.now c.in_ok-sort_in.ensures.grows c.in_ok-written_in.ensures.grows) c.args.context.now c.written_in.new.context (c.in_ok-written_in.ensures.kept ∙ c.in_ok-sort_in.ensures.kept) c.requires.context

pub definition_type-type_inside-requires : goal.definition_type-type_inside-requires
definition_type-type_inside-requires g t c κs within =
    let r = ready c.args.work.now.bank.now c.written_in.new.work.bank.now c.variable.new.bank (Grows-trans c.args.work.now.bank.now c.sort_in.new.work.bank.now c.written_in.new.work.bank.now c.in_ok-sort_in.ensures.grows c.in_ok-written_in.ensures.grows) c.in_ok-variable.ensures.grows c.args.env.now c.args.context.now c.written_in.new.context c.in_ok-variable.variable c.args.binder (Some c.args.value) c.args.kind c.args.rest (env_of c.args.work.now.bank.now c.args.env.now) (context_of c.args.work.now.bank.now c.args.context.now) (c.in_ok-written_in.ensures.kept ∙ c.in_ok-sort_in.ensures.kept) c.requires.env refl c.requires.context refl c.requires.binder c.requires.value c.requires.kind.has c.requires.rest c.in_ok-variable.ensures.variable in
    let same : size (tree_of c.variable.new.bank c.args.rest) ≡ size (tree_of c.args.work.now.bank.now c.args.rest) = ap size r.rest_is in (omega (arith, one-le-size (tree_of c.args.work.now.bank.now c.args.kind), one-le-size (tree_of c.args.work.now.bank.now c.args.value)), (within.0, (within.1, (r.variable, (r.rest, (r.env, (g.met.V.Variables.stay c.args.variables.now c.args.work.now.bank.now c.variable.new.bank r.grows c.requires.variables, r.context)))))))

pub definition_type-definition_kind-requires-clause-name : goal.definition_type-definition_kind-requires-clause-name
definition_type-definition_kind-requires-clause-name g t c =
    let r = ready c.args.work.now.bank.now c.written_in.new.work.bank.now c.variable.new.bank (Grows-trans c.args.work.now.bank.now c.sort_in.new.work.bank.now c.written_in.new.work.bank.now c.in_ok-sort_in.ensures.grows c.in_ok-written_in.ensures.grows) c.in_ok-variable.ensures.grows c.args.env.now c.args.context.now c.written_in.new.context c.in_ok-variable.variable c.args.binder (Some c.args.value) c.args.kind c.args.rest (env_of c.args.work.now.bank.now c.args.env.now) (context_of c.args.work.now.bank.now c.args.context.now) (c.in_ok-written_in.ensures.kept ∙ c.in_ok-sort_in.ensures.kept) c.requires.env refl c.requires.context refl c.requires.binder c.requires.value c.requires.kind.has c.requires.rest c.in_ok-variable.ensures.variable in omega (arith, r.variable.name, c.in_ok-body.ensures.grows.names)

pub definition_type-returns-in_err-body-clause-answer : goal.definition_type-returns-in_err-body-clause-answer
definition_type-returns-in_err-body-clause-answer g t c o E G v e k =
    let r = ready c.args.work.now.bank.now c.written_in.new.work.bank.now c.variable.new.bank (Grows-trans c.args.work.now.bank.now c.sort_in.new.work.bank.now c.written_in.new.work.bank.now c.in_ok-sort_in.ensures.grows c.in_ok-written_in.ensures.grows) c.in_ok-variable.ensures.grows c.args.env.now c.args.context.now c.written_in.new.context c.in_ok-variable.variable c.args.binder (Some c.args.value) c.args.kind c.args.rest E G (c.in_ok-written_in.ensures.kept ∙ c.in_ok-sort_in.ensures.kept) c.requires.env e c.requires.context k c.requires.binder c.requires.value c.requires.kind.has c.requires.rest c.in_ok-variable.ensures.variable in
    let_rest_stops o E G (text_of c.args.work.now.bank.now c.args.binder) (tree_of c.args.work.now.bank.now c.args.value) (tree_of c.args.work.now.bank.now c.args.kind) (tree_of c.args.work.now.bank.now c.args.rest) c.type_inside.new.work.bank.now c.args.work.now.ticks.now.left c.type_inside.new.work.ticks.now.left c.in_ok-sort_in.field-0 c.sort_in.new.work.ticks.now.left c.written_in.new.work.ticks.now.left c.from_residual-in_err-body.result c.in_err-body.field-0.0 c.from_residual-in_err-body.ensures.1 (c.in_ok-sort_in.ensures.answer o E G (tree_of c.args.work.now.bank.now c.args.kind) v e k refl)
    (c.in_ok-written_in.ensures.answer o E G (tree_of c.args.work.now.bank.now c.args.value) (tree_of c.args.work.now.bank.now c.args.kind) (g.met.V.Variables.same c.args.variables.now c.args.work.now.bank.now c.sort_in.new.work.bank.now c.in_ok-sort_in.ensures.grows c.requires.variables ∙ v) (env_at c.args.work.now.bank.now c.sort_in.new.work.bank.now c.in_ok-sort_in.ensures.grows c.args.env.now E c.requires.env e) (context_kept c.args.work.now.bank.now c.sort_in.new.work.bank.now c.in_ok-sort_in.ensures.grows c.args.context.now c.sort_in.new.context G c.in_ok-sort_in.ensures.kept c.requires.context k) (c.in_ok-sort_in.ensures.grows.tree c.args.value c.requires.value.has) (c.in_ok-sort_in.ensures.grows.tree c.args.kind c.requires.kind.has))
    (c.in_err-body.ensures.answer o E G (record { name = fresh G (text_of c.args.work.now.bank.now c.args.binder); body = Some (tree_of c.args.work.now.bank.now c.args.value); kind = tree_of c.args.work.now.bank.now c.args.kind }) (tree_of c.args.work.now.bank.now c.args.rest) (g.met.V.Variables.same c.args.variables.now c.args.work.now.bank.now c.variable.new.bank r.grows c.requires.variables ∙ v) r.env_is r.context_is r.variable_is r.rest_is)

pub definition_type-returns-clause-answer : goal.definition_type-returns-clause-answer
definition_type-returns-clause-answer g t c o E G v e k =
    let r = ready c.args.work.now.bank.now c.written_in.new.work.bank.now c.variable.new.bank (Grows-trans c.args.work.now.bank.now c.sort_in.new.work.bank.now c.written_in.new.work.bank.now c.in_ok-sort_in.ensures.grows c.in_ok-written_in.ensures.grows) c.in_ok-variable.ensures.grows c.args.env.now c.args.context.now c.written_in.new.context c.in_ok-variable.variable c.args.binder (Some c.args.value) c.args.kind c.args.rest E G (c.in_ok-written_in.ensures.kept ∙ c.in_ok-sort_in.ensures.kept) c.requires.env e c.requires.context k c.requires.binder c.requires.value c.requires.kind.has c.requires.rest c.in_ok-variable.ensures.variable in
    let body = (c.in_ok-body.ensures.answer o E G (record { name = fresh G (text_of c.args.work.now.bank.now c.args.binder); body = Some (tree_of c.args.work.now.bank.now c.args.value); kind = tree_of c.args.work.now.bank.now c.args.kind }) (tree_of c.args.work.now.bank.now c.args.rest) (g.met.V.Variables.same c.args.variables.now c.args.work.now.bank.now c.variable.new.bank r.grows c.requires.variables ∙ v) r.env_is r.context_is r.variable_is r.rest_is) in
    let whole : Grows c.args.work.now.bank.now c.type_inside.new.work.bank.now = (Grows-trans c.args.work.now.bank.now c.variable.new.bank c.type_inside.new.work.bank.now (Grows-trans c.args.work.now.bank.now c.written_in.new.work.bank.now c.variable.new.bank (Grows-trans c.args.work.now.bank.now c.sort_in.new.work.bank.now c.written_in.new.work.bank.now c.in_ok-sort_in.ensures.grows c.in_ok-written_in.ensures.grows) c.in_ok-variable.ensures.grows) c.in_ok-body.ensures.grows) in
    let_ends o E G (text_of c.args.work.now.bank.now c.args.binder) (tree_of c.args.work.now.bank.now c.args.value) (tree_of c.args.work.now.bank.now c.args.kind) (tree_of c.args.work.now.bank.now c.args.rest) c.definition_kind.new.bank c.args.work.now.ticks.now.left c.type_inside.new.work.ticks.now.left c.in_ok-sort_in.field-0 (tree_of c.type_inside.new.work.bank.now c.in_ok-body.body) c.sort_in.new.work.ticks.now.left c.written_in.new.work.ticks.now.left c.definition_kind.result c.requires.value.within body.0.within (c.in_ok-sort_in.ensures.answer o E G (tree_of c.args.work.now.bank.now c.args.kind) v e k refl)
    (c.in_ok-written_in.ensures.answer o E G (tree_of c.args.work.now.bank.now c.args.value) (tree_of c.args.work.now.bank.now c.args.kind) (g.met.V.Variables.same c.args.variables.now c.args.work.now.bank.now c.sort_in.new.work.bank.now c.in_ok-sort_in.ensures.grows c.requires.variables ∙ v) (env_at c.args.work.now.bank.now c.sort_in.new.work.bank.now c.in_ok-sort_in.ensures.grows c.args.env.now E c.requires.env e) (context_kept c.args.work.now.bank.now c.sort_in.new.work.bank.now c.in_ok-sort_in.ensures.grows c.args.context.now c.sort_in.new.context G c.in_ok-sort_in.ensures.kept c.requires.context k) (c.in_ok-sort_in.ensures.grows.tree c.args.value c.requires.value.has) (c.in_ok-sort_in.ensures.grows.tree c.args.kind c.requires.kind.has)) body.1
    (c.definition_kind.ensures.answer (tree_of c.args.work.now.bank.now c.args.value) (tree_of c.type_inside.new.work.bank.now c.in_ok-body.body) (fresh G (text_of c.args.work.now.bank.now c.args.binder)) (whole.tree c.args.value c.requires.value.has) (c.in_ok-body.ensures.grows.text c.in_ok-variable.variable.name r.variable.name ∙ ap (λ z. z.name) r.variable_is) refl)

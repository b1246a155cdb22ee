use Rattle.std.proofs.Common.{rules, refl, ◌∙◌, ap, sym, subst, List}
use Rattle.std.specs.List.{AllByRecursion}
use Rattle.lq_terms.specs.declared.nodes.TermId.{TermId}
use Rattle.lq_trees.specs.Tree.Tree.{Rel, Var, Sort, Const, Ind, Ctor, Elim, Evar}
use Rattle.lq_terms.specs.Terms.{HasTerm, IsPart, text_of, tree_of, trees_by}
use Rattle.lq_texts.specs.Printing.{constructor_name, eliminator_text}
use Rattle.lq_env.specs.Environments.{env_of}
use Rattle.lq_print.specs.Spelling.{emit, put_name, put_bound, sort}
use Rattle.lq_print.proofs.Lists.{all_weaker}
use Rattle.lq_print.proofs.VisitLaws.{on_ok, turned_leaf, turned_product, turned_function, turned_local, turned_application, turned_instance, name_as, opened_ok}
use Rattle.lq_print.proofs.visiting.visit.Goals as goal

pub returns-in-Rel : goal.returns-in-Rel
returns-in-Rel c =
    on_ok c.put_bound.result c.put_bound.ensures
    (λ s. turned_leaf c.args.bank.now (env_of c.args.bank.now c.args.env.now) c.args.work.now.items c.args.spelling.now c.put_bound.new.spelling (Rel c.in-Rel.index) (tree_of c.args.bank.now c.args.term) (put_bound c.in-Rel.index) (rw c.in-Rel.is at c.node.ensures.tree) (λ z. refl) (s c.args.bank.now c.requires.spelling))

pub returns-in-Var : goal.returns-in-Var
returns-in-Var c =
    on_ok c.put_name.result c.put_name.ensures
    (λ s. turned_leaf c.args.bank.now (env_of c.args.bank.now c.args.env.now) c.args.work.now.items c.args.spelling.now c.put_name.new.spelling (Var (text_of c.args.bank.now c.in-Var.name)) (tree_of c.args.bank.now c.args.term) (put_name (text_of c.args.bank.now c.in-Var.name)) (rw c.in-Var.is at c.node.ensures.tree) (λ z. refl) (name_as c.args.bank.now c.args.spelling.now c.put_name.new.spelling _ _ c.text.ensures.text (s c.args.bank.now c.requires.spelling)))

pub returns-in-Const : goal.returns-in-Const
returns-in-Const c =
    on_ok c.put_name-in-Const.result c.put_name-in-Const.ensures
    (λ s. turned_leaf c.args.bank.now (env_of c.args.bank.now c.args.env.now) c.args.work.now.items c.args.spelling.now c.put_name-in-Const.new.spelling (Const (text_of c.args.bank.now c.in-Const.name)) (tree_of c.args.bank.now c.args.term) (put_name (text_of c.args.bank.now c.in-Const.name)) (rw c.in-Const.is at c.node.ensures.tree) (λ z. refl) (name_as c.args.bank.now c.args.spelling.now c.put_name-in-Const.new.spelling _ _ c.text-in-Const.ensures.text (s c.args.bank.now c.requires.spelling)))

pub returns-in-Ind : goal.returns-in-Ind
returns-in-Ind c =
    on_ok c.put_name-in-Ind.result c.put_name-in-Ind.ensures
    (λ s. turned_leaf c.args.bank.now (env_of c.args.bank.now c.args.env.now) c.args.work.now.items c.args.spelling.now c.put_name-in-Ind.new.spelling (Ind (text_of c.args.bank.now c.in-Ind.name)) (tree_of c.args.bank.now c.args.term) (put_name (text_of c.args.bank.now c.in-Ind.name)) (rw c.in-Ind.is at c.node.ensures.tree) (λ z. refl) (name_as c.args.bank.now c.args.spelling.now c.put_name-in-Ind.new.spelling _ _ c.text-in-Ind.ensures.text (s c.args.bank.now c.requires.spelling)))

pub returns-in-Sort : goal.returns-in-Sort
returns-in-Sort c =
    on_ok c.emit.result c.emit.ensures
    (λ s. turned_leaf c.args.bank.now (env_of c.args.bank.now c.args.env.now) c.args.work.now.items c.args.spelling.now c.emit.new.spelling (Sort c.in-Sort.sort) (tree_of c.args.bank.now c.args.term) (emit (sort c.in-Sort.sort)) (rw c.in-Sort.is at c.node.ensures.tree) (λ z. refl) (s c.args.bank.now c.requires.spelling tt))

pub returns-in-Ctor : goal.returns-in-Ctor
returns-in-Ctor c =
    on_ok c.put_name-in-Ctor.result c.put_name-in-Ctor.ensures
    (λ s. turned_leaf c.args.bank.now (env_of c.args.bank.now c.args.env.now) c.args.work.now.items c.args.spelling.now c.put_name-in-Ctor.new.spelling (Ctor (text_of c.args.bank.now c.in-Ctor.family) c.in-Ctor.index) (tree_of c.args.bank.now c.args.term) (put_name (constructor_name (env_of c.args.bank.now c.args.env.now) (text_of c.args.bank.now c.in-Ctor.family) c.in-Ctor.index)) (rw c.in-Ctor.is at c.node.ensures.tree) (λ z. refl) (name_as c.args.bank.now c.args.spelling.now c.put_name-in-Ctor.new.spelling _ _ c.constructor_name.ensures (s c.args.bank.now c.requires.spelling)))

pub returns-in-Elim : goal.returns-in-Elim
returns-in-Elim c =
    on_ok c.put_eliminator.result c.put_eliminator.ensures
    (λ s. turned_leaf c.args.bank.now (env_of c.args.bank.now c.args.env.now) c.args.work.now.items c.args.spelling.now c.put_eliminator.new.spelling (Elim (text_of c.args.bank.now c.in-Elim.family) c.in-Elim.sort) (tree_of c.args.bank.now c.args.term) (put_name (eliminator_text (text_of c.args.bank.now c.in-Elim.family) c.in-Elim.sort)) (rw c.in-Elim.is at c.node.ensures.tree) (λ z. refl) s)

pub returns-in-Prod : goal.returns-in-Prod
returns-in-Prod c =
    let parts = rw c.in-Prod.is at c.node.ensures.parts in
    on_ok c.open.result (opened_ok c.open.result c.args.spelling.now c.open.new.spelling c.args.work.now.items c.open.new.work.items _ _ c.open.ensures.enters c.open.ensures.work)
    (λ s. turned_product c.args.bank.now (env_of c.args.bank.now c.args.env.now) c.args.work.now.items c.open.new.work.items c.args.spelling.now c.open.new.spelling (tree_of c.args.bank.now c.args.term)
    c.requires.spelling (s.0 c.args.bank.now c.requires.spelling) c.in-Prod.name parts.0 c.len-low.result (search rules) c.in-Prod.kind c.in-Prod.rest
    (rw c.in-Prod.is at c.node.ensures.tree) parts.1.has parts.2.has s.1)

pub returns-in-Lam : goal.returns-in-Lam
returns-in-Lam c =
    let parts = rw c.in-Lam.is at c.node.ensures.parts in
    on_ok c.open-in-Lam.result (opened_ok c.open-in-Lam.result c.args.spelling.now c.open-in-Lam.new.spelling c.args.work.now.items c.open-in-Lam.new.work.items _ _ c.open-in-Lam.ensures.enters c.open-in-Lam.ensures.work)
    (λ s. turned_function c.args.bank.now (env_of c.args.bank.now c.args.env.now) c.args.work.now.items c.open-in-Lam.new.work.items c.args.spelling.now c.open-in-Lam.new.spelling (tree_of c.args.bank.now c.args.term)
    c.requires.spelling (s.0 c.args.bank.now c.requires.spelling) c.in-Lam.name parts.0 c.len-low.result (search rules) c.in-Lam.kind c.in-Lam.rest
    (rw c.in-Lam.is at c.node.ensures.tree) parts.1.has parts.2.has s.1)

pub returns-in-Let : goal.returns-in-Let
returns-in-Let c =
    let parts = rw c.in-Let.is at c.node.ensures.parts in
    on_ok c.open-in-Let.result (opened_ok c.open-in-Let.result c.args.spelling.now c.open-in-Let.new.spelling c.args.work.now.items c.open-in-Let.new.work.items _ _ c.open-in-Let.ensures.enters c.open-in-Let.ensures.work)
    (λ s. turned_local c.args.bank.now (env_of c.args.bank.now c.args.env.now) c.args.work.now.items c.open-in-Let.new.work.items c.args.spelling.now c.open-in-Let.new.spelling (tree_of c.args.bank.now c.args.term)
    c.requires.spelling (s.0 c.args.bank.now c.requires.spelling) c.in-Let.name parts.0 c.len-low.result (search rules) c.in-Let.value c.in-Let.kind c.in-Let.rest
    (rw c.in-Let.is at c.node.ensures.tree) parts.1.has parts.2.has parts.3.has s.1)

pub returns-in-App : goal.returns-in-App
returns-in-App c =
    let parts = rw c.in-App.is at c.node.ensures.parts in
    on_ok c.put_parts.result c.put_parts.ensures
    (λ s. turned_application c.args.bank.now (env_of c.args.bank.now c.args.env.now) c.args.work.now.items c.put_parts.new.work.items c.args.spelling.now (tree_of c.args.bank.now c.args.term)
    c.requires.spelling c.in-App.function c.in-App.argument (rw c.in-App.is at c.node.ensures.tree) parts.0.has parts.1.has s)

pub returns-in-Evar : goal.returns-in-Evar
returns-in-Evar c =
    let parts = rw c.in-Evar.is at c.node.ensures.parts in
    on_ok c.put_instance.result c.put_instance.ensures
    (λ s. turned_instance c.args.bank.now (env_of c.args.bank.now c.args.env.now) c.args.work.now.items c.put_instance.new.work.items c.args.spelling.now (tree_of c.args.bank.now c.args.term)
    c.requires.spelling c.in-Evar.number c.len.result c.terms.result.now
    (ap (λ (us : List TermId). Evar c.in-Evar.number (trees_by (tree_of c.args.bank.now) us)) c.terms.ensures ∙ rw c.in-Evar.is at c.node.ensures.tree)
    (subst (AllByRecursion (HasTerm c.args.bank.now)) (sym c.terms.ensures)
    (all_weaker (IsPart c.args.bank.now c.args.term) (HasTerm c.args.bank.now) (λ t h. h.has) c.in-Evar.parts parts))
    (search rules) s)

-- Terms that are made of their parts, over banks that grow from one call to the next.
use Rattle.std.proofs.Common.{◌∙◌, sym, ap, ap₂, arith}
use Rattle.std.proofs.Common.{subst as along}
use Rattle.lq_trees.specs.declared.Sort.{Sort as Universe}
use Rattle.lq_trees.specs.Tree.{Tree}
use Rattle.lq_trees.specs.Tree.Tree.{Prod, Lam, Let, App, Sort}
use Rattle.lq_trees.specs.Change.{close}
use Rattle.lq_trees.specs.Index.{Within}
use Rattle.lq_terms.specs.declared.nodes.TermId.{TermId}
use Rattle.lq_terms.specs.declared.nodes.Node.{Node}
use Rattle.lq_terms.specs.Terms.{Terms, HasTerm, HasParts, IsTerm, Grows, node_tree, text_of, tree_of}
use Rattle.lq_terms.proofs.Growth.{Grows-trans, IsTerm-grown}
use Rattle.lq_elab.specs.declared.frames.Bound.{Bound}
use Rattle.lq_elab.specs.Frames.{HasBound}
use Rattle.lq_elab.specs.Ending.{IsMade}

-- terms of a bank in one that has grown
pub within_later : (old new : Terms) → Grows old new → (t : TermId) → HasTerm old t → Within 0 (tree_of old t) → Within 0 (tree_of new t)
within_later old new g t h w = along (Within 0) (sym (g.tree t h)) w

-- a term that was closed in a bank that had grown
pub close_there : (old new : Terms) → Grows old new → (m : Bound) → HasBound old m → (t : TermId) → HasTerm old t → (bank : Terms) (u : TermId) → IsTerm bank u (close (text_of new m.hypothesis) (tree_of new t)) →
    IsTerm bank u (close (text_of old m.hypothesis) (tree_of old t))
close_there old new g m has t h bank u k = record { has = k.has; is = k.is ∙ ap₂ close (g.text m.hypothesis has.hypothesis) (g.tree t h) }

-- a product, whose rest was shut: the node and the sort are made
module _ (a b : Terms) (ab : Grows a b) (m : Bound) (has : HasBound a m) (t : TermId) (T : Tree) (shut : IsTerm b t T) where
  pub product_parts : HasParts b (Node.Prod m.binder m.kind t)
  product_parts = (omega (arith, has.binder, ab.names), omega (arith, has.kind, ab.nodes), shut.has)

  pub product_is_made : (d e : Terms) → Grows d e → (p k : TermId) (u : Universe) → IsTerm d p (node_tree b (Node.Prod m.binder m.kind t)) → IsTerm e k (node_tree d (Node.Sort u)) →
      IsMade e (record { term = p; kind = k }) (Prod (text_of a m.binder) (tree_of a m.kind) T) (Sort u)
  product_is_made d e de p k u made kind = record {
    term = IsTerm-grown d e p (Prod (text_of a m.binder) (tree_of a m.kind) T) de (record {
      has = made.has;
      is = made.is ∙ ap (λ x. Prod x (tree_of b m.kind) (tree_of b t)) (ab.text m.binder has.binder) ∙ ap₂ (λ A B. Prod (text_of a m.binder) A B) (ab.tree m.kind has.kind) shut.is;
    });
    kind = kind;
  }

-- a function: its rest was shut, then the type of that; the nodes are made in turn
module _ (a b c : Terms) (ab : Grows a b) (bc : Grows b c) (m : Bound) (has : HasBound a m) (t : TermId) (T : Tree) (body : IsTerm b t T) where
  ac : Grows a c
  ac = Grows-trans a b c ab bc

  pub lambda_parts : HasParts c (Node.Lam m.binder m.kind t)
  lambda_parts = (omega (arith, has.binder, ac.names), omega (arith, has.kind, ac.nodes), (IsTerm-grown b c t T bc body).has)

  lambda_is : (bank : Terms) (p : TermId) → IsTerm bank p (node_tree c (Node.Lam m.binder m.kind t)) → IsTerm bank p (Lam (text_of a m.binder) (tree_of a m.kind) T)
  lambda_is bank p made = record {
    has = made.has;
    is =
        made.is ∙ ap (λ x. Lam x (tree_of c m.kind) (tree_of c t)) (ac.text m.binder has.binder)
        ∙ ap₂ (λ A B. Lam (text_of a m.binder) A B) (ac.tree m.kind has.kind) (IsTerm-grown b c t T bc body).is;
  }

module _ (a c d : Terms) (ac : Grows a c) (cd : Grows c d) (m : Bound) (has : HasBound a m) (r : TermId) (R : Tree) (codomain : IsTerm c r R) where
  through : Grows a d
  through = Grows-trans a c d ac cd

  pub codomain_parts : HasParts d (Node.Prod m.binder m.kind r)
  codomain_parts = (omega (arith, has.binder, through.names), omega (arith, has.kind, through.nodes), (IsTerm-grown c d r R cd codomain).has)

  codomain_is : (bank : Terms) (k : TermId) → IsTerm bank k (node_tree d (Node.Prod m.binder m.kind r)) → IsTerm bank k (Prod (text_of a m.binder) (tree_of a m.kind) R)
  codomain_is bank k kind = record {
    has = kind.has;
    is =
        kind.is ∙ ap (λ x. Prod x (tree_of d m.kind) (tree_of d r)) (through.text m.binder has.binder)
        ∙ ap₂ (λ A B. Prod (text_of a m.binder) A B) (through.tree m.kind has.kind) (IsTerm-grown c d r R cd codomain).is;
  }

pub function_is_made : (a b c d e : Terms) (ab : Grows a b) (bc : Grows b c) (cd : Grows c d) (de : Grows d e) (m : Bound) (has : HasBound a m) (t r : TermId) (T R : Tree) (body : IsTerm b t T) (codomain : IsTerm c r R) →
    (p k : TermId) → IsTerm d p (node_tree c (Node.Lam m.binder m.kind t)) → IsTerm e k (node_tree d (Node.Prod m.binder m.kind r)) →
    IsMade e (record { term = p; kind = k }) (Lam (text_of a m.binder) (tree_of a m.kind) T) (Prod (text_of a m.binder) (tree_of a m.kind) R)
function_is_made a b c d e ab bc cd de m has t r T R body codomain p k made kind = record {
  term = IsTerm-grown d e p (Lam (text_of a m.binder) (tree_of a m.kind) T) de (lambda_is a b c ab bc m has t T body d p made);
  kind = codomain_is a c d (Grows-trans a b c ab bc) cd m has r R codomain e k kind;
}

-- a local definition: the value took the place of the hypothesis in the type, then the rest was shut
module _ (a b c : Terms) (ab : Grows a b) (bc : Grows b c) (m : Bound) (has : HasBound a m) (v t : TermId) (value : HasTerm a v) (T : Tree) (body : IsTerm c t T) where
  along_all : Grows a c
  along_all = Grows-trans a b c ab bc

  pub definition_parts : HasParts c (Node.Let m.binder v m.kind t)
  definition_parts = (omega (arith, has.binder, along_all.names), omega (arith, value, along_all.nodes), omega (arith, has.kind, along_all.nodes), body.has)

  definition_is : (bank : Terms) (p : TermId) → IsTerm bank p (node_tree c (Node.Let m.binder v m.kind t)) → IsTerm bank p (Let (text_of a m.binder) (tree_of a v) (tree_of a m.kind) T)
  definition_is bank p made = record {
    has = made.has;
    is =
        made.is ∙ ap₂ (λ x z. Let x z (tree_of c m.kind) (tree_of c t)) (along_all.text m.binder has.binder) (along_all.tree v value)
        ∙ ap₂ (λ A B. Let (text_of a m.binder) (tree_of a v) A B) (along_all.tree m.kind has.kind) body.is;
  }

pub definition_is_made : (a b c d : Terms) (ab : Grows a b) (bc : Grows b c) (cd : Grows c d) (m : Bound) (has : HasBound a m) (v k t : TermId) (value : HasTerm a v) (K T : Tree) (kind : IsTerm b k K) (body : IsTerm c t T) →
    (p : TermId) → IsTerm d p (node_tree c (Node.Let m.binder v m.kind t)) → IsMade d (record { term = p; kind = k }) (Let (text_of a m.binder) (tree_of a v) (tree_of a m.kind) T) K
definition_is_made a b c d ab bc cd m has v k t value K T kind body p made = record {
  term = definition_is a b c ab bc m has v t value T body d p made;
  kind = IsTerm-grown c d k K cd (IsTerm-grown b c k K bc kind);
}

-- an application: the argument was put into the rest of the type, then the node is made
module _ (a b : Terms) (ab : Grows a b) (f x : TermId) (function : HasTerm a f) (argument : HasTerm a x) where
  pub application_parts : HasParts b (Node.App f x)
  application_parts = (omega (arith, function, ab.nodes), omega (arith, argument, ab.nodes))

  pub application_is_made : (d : Terms) → Grows b d → (k : TermId) (K : Tree) → IsTerm b k K → (p : TermId) → IsTerm d p (node_tree b (Node.App f x)) → IsMade d (record { term = p; kind = k }) (App (tree_of a f) (tree_of a x)) K
  application_is_made d bd k K kind p made = record {
    term = record { has = made.has; is = made.is ∙ ap₂ App (ab.tree f function) (ab.tree x argument) };
    kind = IsTerm-grown b d k K bd kind;
  }

-- A value in the place of a bound variable, by a name that a context has not.
use Rattle.std.proofs.Common.{◌≡◌, ◌<◌, ◌^◌, ◌∙◌, sym, ap, ap₂, List, [], ◌∷◌, length, Result, Ok, Err}
use Rattle.std.specs.Prelude.{IfOk}
use Rattle.std.proofs.Common.{subst as along}
use Rattle.std.proofs.lemmas.List.{length-map}
use Rattle.lq_trees.specs.Tree.{Name, Tree, Context}
use Rattle.lq_trees.specs.Tree.Tree.{Var}
use Rattle.lq_trees.specs.Change.{put, subst}
use Rattle.lq_trees.specs.Fresh.{fresh, opened}
use Rattle.lq_trees.specs.Hypotheses.{HoldsOnly}
use Rattle.lq_trees.specs.Index.{Within}
use Rattle.lq_trees.proofs.FillLaws.{subst_fill}
use Rattle.lq_terms.specs.declared.nodes.Hypothesis.{Hypothesis}
use Rattle.lq_terms.specs.declared.nodes.NameId.{NameId}
use Rattle.lq_terms.specs.declared.nodes.NoMemory.{NoMemory}
use Rattle.lq_terms.specs.declared.nodes.TermId.{TermId}
use Rattle.lq_terms.specs.Terms.{Terms, HasTerm, IsName, IsTerm, Grows, text_of, tree_of}
use Rattle.lq_terms.specs.Contexts.{HasContext, context_of, hypothesis_of}
use Rattle.lq_terms.proofs.Growth.{Grows-trans}
use Rattle.lq_solving.specs.Stores.{names_in}
use Rattle.lq_solving.proofs.FreshLaws.{fresh_new}
use Rattle.lq_solving.proofs.Later.{put_open}
use Rattle.lq_evars.proofs.Growing.{context_grown}

pub put_opened : (g : Context) → length g < 10 ^ 64 → (x : Name) (R v : Tree) → Within 1 R → HoldsOnly (names_in g) R → put ((fresh g x, v) ∷ []) 0 (opened (fresh g x) R) ≡ subst v R
unfolding opened
put_opened g few x R v w h = ap (put ((fresh g x, v) ∷ []) 0) (subst_fill (Var (fresh g x)) R) ∙ put_open (names_in g) (fresh g x) v (fresh_new g x few) 0 R w h ∙ sym (subst_fill v R)

-- by places of banks that grow: a base is named, then the new name, then the term is opened, then the value is put in
module _ (a b c d e : Terms) (ab : Grows a b) (bc : Grows b c) (cd : Grows c d) (hs : List Hypothesis) (base name : NameId) (R v o : TermId) where
  pub put_made : (t : TermId) → HasContext a hs → length hs < 10 ^ 64 → HasTerm a R → Within 1 (tree_of a R) → HoldsOnly (names_in (context_of a hs)) (tree_of a R) → HasTerm a v →
      IsName c name (fresh (context_of b hs) (text_of b base)) → IsTerm d o (opened (text_of c name) (tree_of c R)) →
      IsTerm e t (put ((text_of d name, tree_of d v) ∷ []) 0 (tree_of d o)) → IsTerm e t (subst (tree_of a v) (tree_of a R))
  put_made t hc few hR w h hv named opens made = record { has = made.has; is = made.is ∙ ap₂ (λ ps u. put ps 0 u) (ap₂ (λ x u. (x, u) ∷ []) name_is value_is) opened_is ∙ put_opened (context_of a hs) (along (λ n. n < 10 ^ 64) (sym (length-map hs (hypothesis_of a))) few) (text_of b base) (tree_of a R) (tree_of a v) w h }
    where
      ac : Grows a c
      ac = Grows-trans a b c ab bc

      ad : Grows a d
      ad = Grows-trans a c d ac cd

      fresh_is : text_of c name ≡ fresh (context_of a hs) (text_of b base)
      fresh_is = named.is ∙ ap (λ g. fresh g (text_of b base)) (context_grown a b ab hs hc).0

      name_is : text_of d name ≡ fresh (context_of a hs) (text_of b base)
      name_is = cd.text name named.has ∙ fresh_is

      value_is : tree_of d v ≡ tree_of a v
      value_is = ad.tree v hv

      opened_is : tree_of d o ≡ opened (fresh (context_of a hs) (text_of b base)) (tree_of a R)
      opened_is = opens.is ∙ ap₂ opened fresh_is (ac.tree R hR)

  pub put_all_made : HasContext a hs → length hs < 10 ^ 64 → HasTerm a R → Within 1 (tree_of a R) → HoldsOnly (names_in (context_of a hs)) (tree_of a R) → HasTerm a v →
      IsName c name (fresh (context_of b hs) (text_of b base)) → IsTerm d o (opened (text_of c name) (tree_of c R)) →
      (r : Result TermId NoMemory) → IfOk r (λ u. IsTerm e u (put ((text_of d name, tree_of d v) ∷ []) 0 (tree_of d o))) → IfOk r (λ u. IsTerm e u (subst (tree_of a v) (tree_of a R)))
  put_all_made hc few hR w h hv named opens (Ok u) made = put_made u hc few hR w h hv named opens made
  put_all_made hc few hR w h hv named opens (Err f) made = tt

-- Terms that are closed, or put into others, by the calls of the bank.
use Rattle.std.proofs.Common.{◌≡◌, ◌≤◌, ◌<◌, ◌+◌, ◌^◌, ◌∙◌, sym, ap, ap₂, arith, false, List, [], ◌∷◌, length, Result, Ok, Err, IfOk}
use Rattle.std.proofs.Common.{subst as along}
use Rattle.std.proofs.lemmas.List.{length-map}
use Rattle.lq_trees.specs.Tree.{Name, Tree}
use Rattle.lq_trees.specs.Tree.Tree.{Rel}
use Rattle.lq_trees.specs.Change.{subst, close, put}
use Rattle.lq_trees.specs.Fresh.{is_listed, fresh, opened}
use Rattle.lq_trees.specs.Hypotheses.{HoldsOnly}
use Rattle.lq_trees.specs.Index.{Within, IndexFits, highest, last_index}
use Rattle.lq_trees.specs.Size.{depth}
use Rattle.lq_trees.proofs.Reach.{within-subst, within_fits}
use Rattle.lq_terms.specs.declared.nodes.Hypothesis.{Hypothesis}
use Rattle.lq_terms.specs.declared.nodes.NameId.{NameId}
use Rattle.lq_terms.specs.declared.nodes.TermId.{TermId}
use Rattle.lq_terms.specs.declared.nodes.NoMemory.{NoMemory}
use Rattle.lq_terms.specs.Terms.{Terms, HasName, HasTerm, IsName, IsTerm, Grows, text_of, tree_of}
use Rattle.lq_terms.specs.Contexts.{HasContext, hypothesis_of, context_of}
use Rattle.lq_terms.proofs.Growth.{Grows-trans}
use Rattle.lq_terms.proofs.Tellings.{context_of-grown}
use Rattle.lq_solving.specs.Stores.{names_in}
use Rattle.lq_solving.proofs.FreshLaws.{fresh_new}
use Rattle.lq_elab.proofs.PuttingLaws.{put_closes, put_reopens, put_opened, close_index, subst_index, reopen_index}

-- a hypothesis of one name in a bank that has grown
module _ (old new : Terms) (g : Grows old new) (t : TermId) (x : NameId) (v : TermId) (has : HasTerm old t) (within : Within 0 (tree_of old t)) (own : HasName old x) (made : IsTerm new v (Rel 0)) where
  put_is : put ((text_of new x, tree_of new v) ∷ []) 0 (tree_of new t) ≡ close (text_of old x) (tree_of old t)
  put_is =
      ap (λ z. put ((z, tree_of new v) ∷ []) 0 (tree_of new t)) (g.text x own)
      ∙ ap (λ z. put ((text_of old x, z) ∷ []) 0 (tree_of new t)) made.is
      ∙ ap (put ((text_of old x, Rel 0) ∷ []) 0) (g.tree t has)
      ∙ put_closes (text_of old x) 0 (tree_of old t) within

  pub shut_index : depth (tree_of old t) ≤ 4294967294 → highest (put ((text_of new x, tree_of new v) ∷ []) 0 (tree_of new t)) ≤ last_index
  shut_index h = along (λ z. highest z ≤ last_index) (sym put_is) (close_index (text_of old x) (tree_of old t) within (omega (arith, h)))

  pub shut_is : (bank : Terms) (q : Result TermId NoMemory) → IfOk q (λ u. IsTerm bank u (put ((text_of new x, tree_of new v) ∷ []) 0 (tree_of new t))) → IfOk q (λ u. IsTerm bank u (close (text_of old x) (tree_of old t)))
  shut_is bank (Ok u) h = along (IsTerm bank u) put_is h
  shut_is bank (Err e) h = tt

-- a value in the place of a hypothesis that is closed
module _ (y : Name) (v t : Tree) where
  pub replaced_index : Within 0 v → Within 0 t → depth t + depth v ≤ 4294967294 → highest (put ((y, v) ∷ []) 0 t) ≤ last_index
  replaced_index w k h = along (λ z. highest z ≤ last_index) (put_reopens y v 0 t k) (reopen_index y v t w k (omega (arith, h)))

  pub replaced_is : Within 0 t → (bank : Terms) (q : Result TermId NoMemory) → IfOk q (λ u. IsTerm bank u (put ((y, v) ∷ []) 0 t)) → IfOk q (λ u. IsTerm bank u (subst v (close y t)))
  replaced_is k bank (Ok u) h = along (IsTerm bank u) (sym (put_reopens y v 0 t k)) h
  replaced_is k bank (Err e) h = tt

-- a value in the place of a bound variable, by a new hypothesis: its name is made from a base, the rest is opened to it, the value is put in
module _ (a b c d : Terms) (ab : Grows a b) (bc : Grows b c) (cd : Grows c d) (hs : List Hypothesis) (base y : NameId) (B v o : TermId) (context : HasContext a hs) (few : length hs < 2 ^ 64) (rest : HasTerm a B) (within : Within 1 (tree_of a B))
    (holds : HoldsOnly (names_in (context_of a hs)) (tree_of a B)) (value : HasTerm a v) (closed : Within 0 (tree_of a v)) (named : IsName c y (fresh (context_of b hs) (text_of b base))) (made : IsTerm d o (opened (text_of c y) (tree_of c B))) where
  ac : Grows a c
  ac = Grows-trans a b c ab bc

  ad : Grows a d
  ad = Grows-trans a c d ac cd

  name_is : text_of d y ≡ fresh (context_of a hs) (text_of b base)
  name_is = cd.text y named.has ∙ named.is ∙ ap (λ z. fresh z (text_of b base)) (context_of-grown a b ab hs context)

  open_is : tree_of d o ≡ opened (text_of d y) (tree_of a B)
  open_is = made.is ∙ ap₂ (λ z t. opened z t) (sym (cd.text y named.has)) (ac.tree B rest)

  new : is_listed (names_in (context_of a hs)) (text_of d y) ≡ false
  new =
      along (λ z. is_listed (names_in (context_of a hs)) z ≡ false) (sym name_is)
      (fresh_new (context_of a hs) (text_of b base) (along (λ z. z < 10 ^ 64) (sym (length-map hs (hypothesis_of a))) (omega (arith, few))))

  wide_is : put ((text_of d y, tree_of d v) ∷ []) 0 (tree_of d o) ≡ subst (tree_of a v) (tree_of a B)
  unfolding opened
  wide_is =
      ap₂ (λ z t. put ((text_of d y, z) ∷ []) 0 t) (ad.tree v value) open_is
      ∙ put_opened (text_of d y) (tree_of a v) (names_in (context_of a hs)) new 0 (tree_of a B) within holds

  pub wide_index : depth (tree_of a B) + depth (tree_of a v) ≤ 4294967294 → highest (put ((text_of d y, tree_of d v) ∷ []) 0 (tree_of d o)) ≤ last_index
  wide_index h = along (λ z. highest z ≤ last_index) (sym wide_is) (subst_index (tree_of a v) (tree_of a B) closed within (omega (arith, h)))

  pub wide_filled : (bank : Terms) (q : Result TermId NoMemory) → IfOk q (λ u. IsTerm bank u (put ((text_of d y, tree_of d v) ∷ []) 0 (tree_of d o))) → IfOk q (λ u. IsTerm bank u (subst (tree_of a v) (tree_of a B)))
  wide_filled bank (Ok u) h = along (IsTerm bank u) wide_is h
  wide_filled bank (Err e) h = tt

-- within the limits a bank has room for the numbers
pub filled_index : (v B : Tree) → Within 1 B → Within 0 v → IndexFits (subst v B)
filled_index v B w k = within_fits 0 (subst v B) (within-subst 0 v B w k) (omega arith)

-- what a rest holds, in a bank that has grown
pub holds_later : (old new : Terms) (g : Grows old new) (hs : List Hypothesis) → HasContext old hs → (B : TermId) → HasTerm old B → HoldsOnly (names_in (context_of old hs)) (tree_of old B) → HoldsOnly (names_in (context_of new hs)) (tree_of new B)
holds_later old new g hs c B b h =
    along (λ z. HoldsOnly (names_in z) (tree_of new B)) (sym (context_of-grown old new g hs c)) (along (HoldsOnly (names_in (context_of old hs))) (sym (g.tree B b)) h)

-- A weak head form reads as itself, and stands where its term does.
use Rattle.std.proofs.Common.{◌≡◌, ℕ, suc, arith}
use Rattle.lq_trees.specs.Tree.{Tree, Context}
use Rattle.lq_trees.specs.Rules.{Rules}
use Rattle.lq_trees.specs.Ticks.{◌>>=◌, done, ComesTo}
use Rattle.lq_calculus.specs.Contraction.{whnf}
use Rattle.lq_calculus.proofs.ConvSound.{done_gives}
use Rattle.lq_solving.specs.Stores.{Store, names_in, read, read_context}
use Rattle.lq_solving.specs.Kept.{StandsIn, IsContext, IsStore}
use Rattle.lq_solving.specs.Claims.{ArePlainRules}
use Rattle.lq_solving.specs.Unification.{UnifyFault, unify_fitting}
use Rattle.lq_solving.proofs.DoneLaws.{done_reads}
use Rattle.lq_solving.proofs.Good.{IsGood, good_done}
use Rattle.lq_solving.proofs.Later.{good_read, good_stands}
use Rattle.lq_solving.proofs.UnifyProved.{fitting_sound, bodies_stand}

module _ (r : Rules) (plain : ArePlainRules r) (s : Store) (i : IsStore s) (g : Context) (c : IsContext s g) (t t1 : Tree) (h : StandsIn s g t) (b left : ℕ)
    (k : ComesTo (λ n. whnf r (read_context s g) n (read s t) >>= unify_fitting) b (done t1 left)) where
  form_good : IsGood s.variables s.values (names_in g) 0 t1
  form_good =
      (fitting_sound r plain s i g (bodies_stand s g c) (suc b) (read s t) t1 (good_read s i (names_in g) t h)
      (done_gives {F = UnifyFault} b (whnf r (read_context s g) (suc b) (read s t) >>= unify_fitting) t1 left (k (suc b) (omega arith)))).0

  pub form_reads : read s t1 ≡ t1
  unfolding read
  form_reads = done_reads s.variables s.values t1 (good_done s.variables s.values (names_in g) 0 t1 form_good)

  pub form_stands : StandsIn s g t1
  form_stands = good_stands s i s.values (names_in g) t1 form_good

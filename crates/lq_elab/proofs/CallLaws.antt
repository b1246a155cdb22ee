-- What elaboration comes to under a budget stands in the store that it leaves.
use Rattle.std.proofs.Common.{◌<◌, ◌+◌, ◌^◌, ℕ, suc, arith, List, length, Option}
use Rattle.lq_trees.specs.Tree.{Name, Tree, Context}
use Rattle.lq_trees.specs.Ticks.{done, ComesTo}
use Rattle.lq_calculus.specs.Declarations.{Env}
use Rattle.lq_calculus.proofs.ConvSound.{done_gives}
use Rattle.lq_ast.specs.Syntax.{Surface}
use Rattle.lq_solving.specs.Stores.{Store, names_in}
use Rattle.lq_solving.specs.Kept.{IsStore, IsContext, Stands, OptionStands}
use Rattle.lq_solving.specs.Claims.{ArePlainDeclarations}
use Rattle.lq_solving.specs.ElabFaults.{type_of}
use Rattle.lq_solving.specs.Elaboration.{Site, Found, form_of, unified, elaborate, elaborate_call}
use Rattle.lq_solving.proofs.ElabSettled.{at}
use Rattle.lq_solving.proofs.ElabKept.{Grown, type_stands, form_stands, agreed_grown}
use Rattle.lq_solving.proofs.ElabStands.{IsSite, Finds, deep, elaborate_finds, call_finds}

-- a site with another bound is one as well
pub site_at : (n : ℕ) (e : Site) (s : Store) (g : Context) → IsSite e s g → IsSite (at n e) s g
site_at n e s g h = record { plain = h.plain; outer = h.outer; inside = h.inside; values = h.values }

module _ (b left : ℕ) where
  pub call_comes : (e : Site) (s : Store) (t : Surface) (w : Option Tree) (f : Found) → IsSite e s e.outer → IsStore s → OptionStands s (names_in e.outer) w →
      length e.outer + deep t + suc b < 10 ^ 64 → ComesTo (λ n. elaborate_call (at n e) s t w) b (done f left) → Finds s e.outer f
  call_comes e s t w f site i k few h =
      call_finds (at (suc b) e) s t w f (site_at (suc b) e s e.outer site) i k few (done_gives b (elaborate_call (at (suc b) e) s t w) f left (h (suc b) (omega arith)))

  pub elaborate_comes : (e : Site) (bs : List (Name × Name)) (g : Context) (s : Store) (t : Surface) (w : Option Tree) (f : Found) → IsSite e s g → IsStore s → IsContext s g → OptionStands s (names_in g) w →
      length g + deep t + suc b < 10 ^ 64 → ComesTo (λ n. elaborate (at n e) bs g s t w) b (done f left) → Finds s g f
  elaborate_comes e bs g s t w f site i c k few h =
      elaborate_finds t (at (suc b) e) bs g s w f (site_at (suc b) e s g site) i c k few (done_gives b (elaborate (at (suc b) e) bs g s t w) f left (h (suc b) (omega arith)))

  pub form_comes : (e : Site) → ArePlainDeclarations e.env → (g : Context) (s : Store) → IsStore s → IsContext s g → (A T : Tree) → Stands s (names_in g) A →
      ComesTo (λ n. form_of (at n e) g s A) b (done T left) → Stands s (names_in g) T
  form_comes e plain g s i c A T k h = form_stands (at (suc b) e) plain g s i c A T k (done_gives b (form_of (at (suc b) e) g s A) T left (h (suc b) (omega arith)))

  pub unified_comes : (e : Site) → ArePlainDeclarations e.env → (g : Context) (s s1 : Store) (A B : Tree) → length g + suc b < 10 ^ 64 → IsStore s → IsContext s g → Stands s (names_in g) A → Stands s (names_in g) B →
      ComesTo (λ n. unified (at n e) g s A B) b (done s1 left) → Grown s s1
  unified_comes e plain g s s1 A B few i c k l h =
      agreed_grown (at (suc b) e) plain g s s1 A B few i c k l (done_gives b (unified (at (suc b) e) g s A B) s1 left (h (suc b) (omega arith)))

  pub type_comes : (env : Env) → ArePlainDeclarations env → (s : Store) → IsStore s → (g : Context) → IsContext s g → (t A : Tree) → Stands s (names_in g) t →
      ComesTo (λ n. type_of env n s g t) b (done A left) → Stands s (names_in g) A
  type_comes env plain s i g c t A k h = type_stands env plain (suc b) s i g c t A k (done_gives b (type_of env (suc b) s g t) A left (h (suc b) (omega arith)))

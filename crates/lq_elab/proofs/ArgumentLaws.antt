-- A function with several arguments pays a tick for each application, the outermost first, and then the function and the arguments in order.
use Rattle.std.proofs.Common.{◌≡◌, ◌+◌, ◌<◌, ◌∙◌, ℕ, zero, suc, refl, sym, ap, arith, List, [], ◌∷◌, length, Option, None, Some}
use Rattle.std.proofs.Math.Path.{fun_ext}
use Rattle.lq_trees.specs.Tree.{Name, Tree, Context}
use Rattle.lq_trees.specs.Tree.Tree.{App}
use Rattle.lq_trees.specs.Change.{subst}
use Rattle.lq_trees.specs.Ticks.{Paid, gives, tick, ◌>>=◌, Outcome, steps_out, within, ComesTo}
use Rattle.lq_trees.proofs.TickLaws.{bind_bind}
use Rattle.lq_ast.specs.Syntax.{Surface, Applied, applied}
use Rattle.lq_solving.specs.Stores.{Store}
use Rattle.lq_solving.specs.ElabFaults.{Elab}
use Rattle.lq_solving.specs.Elaboration.{Site, Found, found, form_of, product_form, against, elaborate}
use Rattle.lq_elab.specs.Arguments.{ticks, with_argument, with_arguments}

-- ---- so many ticks

pub ticks_tick : {F A : Type 0} (n : ℕ) (r : Paid F A) → ticks n (tick r) ≡ ticks (suc n) r
unfolding ticks
ticks_tick zero r = refl
ticks_tick (suc n) r = ap tick (ticks_tick n r)

pub ticks_within : {F A : Type 0} (k b : ℕ) (r : Paid F A) → within (k + b) (ticks k r) ≡ within b r
unfolding ticks within
ticks_within zero b r = ap (λ z. within z r) (let e : 0 + b ≡ b = omega arith in e)
ticks_within (suc k) b r = ap (λ z. within z (tick (ticks k r))) (let e : suc k + b ≡ suc (k + b) = omega arith in e) ∙ ticks_within k b r

pub ticks_lack : {F A : Type 0} (k b : ℕ) → b < k → (r : Paid F A) → within b (ticks k r) ≡ steps_out
unfolding ticks within
ticks_lack zero b h r = absurd (omega (arith, h))
ticks_lack (suc k) zero h r = refl
ticks_lack (suc k) (suc b) h r = ticks_lack k b (omega (arith, h)) r

-- the ticks are paid, or they are not there
pub comes_ticks : {F A : Type 0} (k b : ℕ) (f : ℕ → Paid F A) (o : Outcome F A) → ComesTo f b o → ComesTo (λ n. ticks k (f n)) (k + b) o
comes_ticks k b f o h = λ n i. ticks_within k b (f n) ∙ h n (omega (arith, i))

pub lacks_ticks : {F A : Type 0} (k b : ℕ) → b < k → (f : ℕ → Paid F A) → ComesTo (λ n. ticks k (f n)) b steps_out
lacks_ticks k b h f = λ n i. ticks_lack k b h (f n)

-- one work, and then what is the same for each answer
bind_same : {A B : Type 0} (x : Elab A) (k l : A → Elab B) → ((a : A) → k a ≡ l a) → (x >>= k) ≡ (x >>= l)
bind_same x k l e = ap (λ f. x >>= f) (fun_ext e)

module _ (e : Site) (b : List (Name × Name)) (g : Context) where
  -- one application
  pub one_argument : (s : Store) (t a : Surface) (w : Option Tree) → elaborate e b g s (Applied t a) w ≡ tick (elaborate e b g s t None >>= (λ f. with_argument e b g a f >>= against e g w))
  unfolding elaborate with_argument ◌>>=◌
  one_argument s t a w = ap tick (bind_same (elaborate e b g s t None) _ _ (λ f. sym (each f)))
    where
      last : Found → Tree × Tree → Elab Found
      last f p = elaborate e b g f.store a (Some p.0) >>= λ h. gives (found h.store (App f.term h.term) (subst h.term p.1))

      each : (f : Found) → (form_of e g f.store f.kind >>= product_form >>= last f >>= against e g w)
          ≡ (form_of e g f.store f.kind >>= product_form >>= (λ p. elaborate e b g f.store a (Some p.0) >>= (λ h. against e g w (found h.store (App f.term h.term) (subst h.term p.1)))))
      each f =
          bind_bind (form_of e g f.store f.kind >>= product_form) (last f) (against e g w)
          ∙ bind_same (form_of e g f.store f.kind >>= product_form) _ _ (λ p. bind_bind (elaborate e b g f.store a (Some p.0)) (λ h. gives (found h.store (App f.term h.term) (subst h.term p.1))) (against e g w))

  -- several
  pub several_arguments : (s : Store) (t a : Surface) (cs : List Surface) (w : Option Tree) →
      elaborate e b g s (applied t (a ∷ cs)) w ≡ ticks (suc (length cs)) (elaborate e b g s t None >>= with_arguments e b g a cs w)
  unfolding applied with_arguments ticks ◌>>=◌
  several_arguments s t a [] w = one_argument s t a w
  several_arguments s t a (c ∷ cs) w =
      several_arguments s (Applied t a) c cs w
      ∙ ap (λ z. ticks (suc (length cs)) (z >>= with_arguments e b g c cs w)) (one_argument s t a None)
      ∙ ticks_tick (suc (length cs)) (elaborate e b g s t None >>= (λ f. with_argument e b g a f >>= against e g None) >>= with_arguments e b g c cs w)
      ∙ ap (ticks (suc (suc (length cs)))) (bind_bind (elaborate e b g s t None) (λ f. with_argument e b g a f >>= against e g None) (with_arguments e b g c cs w))

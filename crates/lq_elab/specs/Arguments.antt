-- A function with several arguments as elaboration goes over it: a tick for each application, then the function, then the arguments
-- in order.
use Rattle.std.specs.Prelude.{ℕ, zero, suc, List, [], ◌∷◌, Option, None, Some}
use Rattle.lq_trees.specs.Tree.{Name, Tree, Context}
use Rattle.lq_trees.specs.Tree.Tree.{App}
use Rattle.lq_trees.specs.Change.{subst}
use Rattle.lq_trees.specs.Ticks.{Paid, gives, tick, ◌>>=◌}
use Rattle.lq_ast.specs.Syntax.{Surface}
use Rattle.lq_solving.specs.ElabFaults.{Elab}
use Rattle.lq_solving.specs.Elaboration.{Site, Found, found, form_of, product_form, against, elaborate}

-- so many ticks, and then other work
unfoldable pub ticks : {F A : Type 0} → ℕ → Paid F A → Paid F A
ticks zero r = r
ticks (suc n) r = tick (ticks n r)

module _ (e : Site) (b : List (Name × Name)) (g : Context) where
  -- a function that was found, with one argument more: its type is not measured yet
  unfoldable pub with_argument : Surface → Found → Elab Found
  with_argument a f =
      form_of e g f.store f.kind >>= product_form >>= λ p.
      elaborate e b g f.store a (Some p.0) >>= λ h.
      gives (found h.store (App f.term h.term) (subst h.term p.1))

  -- the same with several: what is found last is held against the wanted type
  unfoldable pub with_arguments : Surface → List Surface → Option Tree → Found → Elab Found
  with_arguments a [] w f = with_argument a f >>= against e g w
  with_arguments a (c ∷ cs) w f = with_argument a f >>= against e g None >>= with_arguments c cs w

-- The arity of a family, read as a row.
use Rattle.std.proofs.Common.{◌≡◌, ◌∙◌, sym, ap, subst, arith, ℕ, Option, Some, None, Result, Ok, Err}
use Rattle.lq_trees.specs.declared.Fit.{Fit}
use Rattle.lq_trees.specs.Size.{fit}
use Rattle.lq_trees.specs.Tree.{Tree}
use Rattle.lq_trees.specs.Ticks.{gives, ◌>>=◌, within}
use Rattle.lq_terms.specs.declared.nodes.TermId.{TermId}
use Rattle.lq_terms.specs.Terms.{Terms, IsTerm, Grows, tree_of}
use Rattle.lq_solving.specs.Stores.{Store, StoreFault as Lack, read, read_fitting, size_fault, read_too_large, read_too_deep}
use Rattle.lq_evars.specs.declared.store.StoreFault.{StoreFault}
use Rattle.lq_evars.specs.Reading.{Answers}
use Rattle.lq_sessions.specs.Declaring.{Row, row_of, solved_work}
use Rattle.lq_declaring.specs.declared.rows.Row.{Row as Found}
use Rattle.lq_declaring.specs.declared.rows.RowFault.{RowFault}
use Rattle.lq_declaring.specs.Constants.{IsSolved}
use Rattle.lq_declaring.specs.Families.{row_stop}
use Rattle.lq_declaring.specs.Rows.{FindsRow}
use Rattle.lq_causes.specs.declared.stops.Stop.{Stop}
use Rattle.lq_causes.specs.Stops.{store_stop}
use Rattle.lq_causes.specs.Stopping.{Stops}
use Rattle.lq_elaborated.specs.Families.{row_work, IsArity, ReadsRow}

-- a term that keeps within the limits is read, or there is no memory
fitting_reads : (s : Store) (t : Tree) → fit (read s t) ≡ Fit.Fits → read_fitting s t ≡ Ok (read s t)
unfolding read_fitting size_fault
fitting_reads s t e = ap (λ f. elim (elim f as (λ z. Option Lack) [ Fit.Fits ↦ None | Fit.TooLarge ↦ Some read_too_large | Fit.TooDeep ↦ Some read_too_deep ]) as (λ z. Result Tree Lack) [ None ↦ Ok (read s t) | Some x ↦ Err x ]) e

ok_no_err : (t : Tree) (f : Lack) → ◌≡◌ {A = Result Tree Lack} (Ok t) (Err f) → ⊥
ok_no_err t f e = grind (arith, e)

ok_is : (t u : Tree) → ◌≡◌ {A = Result Tree Lack} (Ok t) (Ok u) → u ≡ t
ok_is t u e = sym (ap (λ o. elim o [ Ok z ↦ z | Err f ↦ t ]) e)

module _ (s : Store) (t : Tree) (k : ℕ) where
  pub read_stops : (bank : Terms) (e : StoreFault) → fit (read s t) ≡ Fit.Fits → Answers bank (Err e) (read_fitting s t) → ReadsRow bank (Err (store_stop e)) s t k
  read_stops bank StoreFault.TooLarge f a = absurd (ok_no_err (read s t) read_too_large (sym (fitting_reads s t f) ∙ a))
  read_stops bank StoreFault.TooDeep f a = absurd (ok_no_err (read s t) read_too_deep (sym (fitting_reads s t f) ∙ a))
  read_stops bank StoreFault.Full f a = absurd a
  read_stops bank StoreFault.NoMemory f a = λ left. tt

  pub read_is : (bank : Terms) (r : TermId) → fit (read s t) ≡ Fit.Fits → Answers bank (Ok r) (read_fitting s t) → IsTerm bank r (read s t)
  read_is bank r f a = record { has = a.0; is = ok_is (read s t) (tree_of bank r) (sym (fitting_reads s t f) ∙ a.1) }

  pub row_stops : (bank : Terms) (r : Tree) → r ≡ read s t → (e : RowFault) → FindsRow bank (Err e) (row_of k r) → ReadsRow bank (Err (row_stop e)) s t k
  unfolding within ◌>>=◌
  row_stops bank r i (RowFault.NotASort u) f =
      λ left. (f.0, λ n l. ap (λ w. within left (w >>= λ q. solved_work s >>= λ ok. gives q)) (ap (row_of k) (sym i) ∙ f.1))
  row_stops bank r i RowFault.NoMemory f = λ left. tt

  pub solved_stops : (bank : Terms) (q : Row) (stop : Stop) → row_of k (read s t) ≡ gives q → IsSolved s (Err stop) → ReadsRow bank (Err stop) s t k
  unfolding within ◌>>=◌
  solved_stops bank q stop e u left =
      subst (λ z. Stops bank z (row_work s t k) left left) (sym u.told)
      (tt, λ n l. ap (λ w. within left (w >>= λ q. solved_work s >>= λ ok. gives q)) e ∙ ap (λ w. within left (w >>= λ ok. gives q)) u.work)

  pub arity_is : (b1 b2 : Terms) → Grows b1 b2 → (r : TermId) (row : Found) → IsTerm b1 r (read s t) → FindsRow b2 (Ok row) (row_of k (tree_of b1 r)) → IsSolved s (Ok tt) → IsArity b2 s t k (r, row)
  arity_is b1 b2 g r row i f u = record {
    read_is = record { has = omega (arith, i.has, g.nodes); is = g.tree r i.has ∙ i.is };
    row = f.0;
    row_is = ap (row_of k) (sym i.is) ∙ f.1;
    solved = u;
  }

-- A type that was read within the limits.
use Rattle.std.proofs.Common.{◌≡◌, ◌∙◌, refl, sym, ap, Option, None, Some, Result, Ok, Err}
use Rattle.lq_trees.specs.declared.Fit.{Fit}
use Rattle.lq_trees.specs.Tree.{Name, Tree}
use Rattle.lq_trees.specs.Change.{close}
use Rattle.lq_trees.specs.Size.{fit}
use Rattle.lq_terms.specs.declared.nodes.TermId.{TermId}
use Rattle.lq_terms.specs.Terms.{Terms, HasTerm, IsTerm, tree_of}
use Rattle.lq_kernel.proofs.Trees.{fit-close}
use Rattle.lq_solving.specs.Stores.{Store, StoreFault, read_too_large, read_too_deep, read, size_fault, read_fitting}

-- a type within the limits keeps within them where it is closed
pub not_large : (y : Name) (t : Tree) → fit t ≡ Fit.Fits → fit (close y t) ≡ Fit.TooLarge → ⊥
not_large y t f h = let k = fit-close y t in absurd cc

pub not_deep : (y : Name) (t : Tree) → fit t ≡ Fit.Fits → fit (close y t) ≡ Fit.TooDeep → ⊥
not_deep y t f h = let k = fit-close y t in absurd cc

module _ (s : Store) (T : Tree) where
  read_is : (o : Fit) → fit (read s T) ≡ o →
      read_fitting s T
      ≡ elim (elim o as (λ z. Option StoreFault) [ Fit.Fits ↦ None | Fit.TooLarge ↦ Some read_too_large | Fit.TooDeep ↦ Some read_too_deep ]) as (λ z. Result Tree StoreFault) [ None ↦ Ok (read s T) | Some f ↦ Err f ]
  unfolding read_fitting size_fault
  read_is o e = ap (λ w. elim (elim w as (λ z. Option StoreFault) [ Fit.Fits ↦ None | Fit.TooLarge ↦ Some read_too_large | Fit.TooDeep ↦ Some read_too_deep ]) as (λ z. Result Tree StoreFault) [ None ↦ Ok (read s T) | Some f ↦ Err f ]) e

  ok_by : (o : Fit) (U : Tree) → fit (read s T) ≡ o → read_fitting s T ≡ Ok U → (U ≡ read s T) × (fit (read s T) ≡ Fit.Fits)
  ok_by Fit.Fits U e h = (ap (λ r. elim r as (λ z. Tree) [ Ok V ↦ V | Err f ↦ U ]) (sym h ∙ read_is Fit.Fits e), e)
  ok_by Fit.TooLarge U e h = let k : Err read_too_large ≡ Ok U = sym (read_is Fit.TooLarge e) ∙ h in absurd cc
  ok_by Fit.TooDeep U e h = let k : Err read_too_deep ≡ Ok U = sym (read_is Fit.TooDeep e) ∙ h in absurd cc

  large_by : (o : Fit) → fit (read s T) ≡ o → read_fitting s T ≡ Err read_too_large → fit (read s T) ≡ Fit.TooLarge
  large_by Fit.Fits e h = let k : Ok (read s T) ≡ Err read_too_large = sym (read_is Fit.Fits e) ∙ h in absurd cc
  large_by Fit.TooLarge e h = e
  large_by Fit.TooDeep e h = let k : ◌≡◌ {A = Result Tree StoreFault} (Err read_too_deep) (Err read_too_large) = sym (read_is Fit.TooDeep e) ∙ h in absurd cc

  deep_by : (o : Fit) → fit (read s T) ≡ o → read_fitting s T ≡ Err read_too_deep → fit (read s T) ≡ Fit.TooDeep
  deep_by Fit.Fits e h = let k : Ok (read s T) ≡ Err read_too_deep = sym (read_is Fit.Fits e) ∙ h in absurd cc
  deep_by Fit.TooLarge e h = let k : ◌≡◌ {A = Result Tree StoreFault} (Err read_too_large) (Err read_too_deep) = sym (read_is Fit.TooLarge e) ∙ h in absurd cc
  deep_by Fit.TooDeep e h = e

  pub read_fits : (bank : Terms) (t : TermId) → HasTerm bank t × (read_fitting s T ≡ Ok (tree_of bank t)) → IsTerm bank t (read s T) × (fit (read s T) ≡ Fit.Fits)
  read_fits bank t h = let k = ok_by (fit (read s T)) (tree_of bank t) refl h.1 in (record { has = h.0; is = k.0 }, k.1)

  pub read_large : read_fitting s T ≡ Err read_too_large → fit (read s T) ≡ Fit.TooLarge
  read_large h = large_by (fit (read s T)) refl h

  pub read_deep : read_fitting s T ≡ Err read_too_deep → fit (read s T) ≡ Fit.TooDeep
  read_deep h = deep_by (fit (read s T)) refl h

-- Printed terms are read again.
use Rattle.std.proofs.Common.{◌≡◌, ℕ, true, ◌∷◌, refl}
use Rattle.std.specs.Prelude.{codes}
use Rattle.lq_grammar.specs.declared.token.Symbol.TheVariants.{OpenRound}
use Rattle.lq_ast.specs.Syntax.{Surface, Ident, PropSort, TypeSort}
use Rattle.lq_sentences.specs.Words.{Words, name, number, symbol, is_name, is_sign, same_symbol, reads}
use Rattle.lq_sentences.specs.Rules.{sees, read}
use Rattle.lq_sentences.specs.Terms.{begins_term, term}
use Rattle.lq_sentences.specs.Patterns.{free_spot}
use Rattle.lq_texts.proofs.Said.{Said, said_forall, said_fun, said_let, said_arrow, said_spine, Spine, spine_applied, spine_atom, Atom, atom_name, atom_prop, atom_type, atom_brackets}
use Rattle.lq_texts.proofs.GoodLaws.{Good, good_done}
use Rattle.lq_texts.proofs.AtomRows.{Atoms, OneAtom, one_of, atoms_one, atoms_more}
use Rattle.lq_texts.proofs.AtomReading.{starts, name_good, type_good, brackets_good, Halts}
use Rattle.lq_texts.proofs.TermForms.{sees_begins, forall_case, fun_case, let_case, app_case, arrow_case, at_comma, at_fat_arrow, at_becomes, at_close, at_in}

-- ---- each printed term begins a term

mutual
  unfolding sees is_name is_sign same_symbol reads

  atom_begins : {s : Surface} {us rest : Words} → Atom s us rest → sees begins_term us ≡ true
  atom_begins (atom_name {x = x} {p = p} {rest = rest} h) = sees_begins (name x, p) rest (starts x h)
  atom_begins atom_prop = refl
  atom_begins (atom_type h) = refl
  atom_begins (atom_brackets d) = refl

  spine_begins : {s : Surface} {us rest : Words} → Spine s us rest → sees begins_term us ≡ true
  spine_begins (spine_applied d e) = spine_begins d
  spine_begins (spine_atom d) = atom_begins d

-- ---- all together

mutual
  unfolding sees is_name is_sign same_symbol reads

  -- a printed term is read, or a word in it is nested too deep
  pub term_reads : {s : Surface} {us rest : Words} → Said s us rest → (n : ℕ) → Halts rest → Good (read (term n free_spot) us) (s, rest)
  term_reads {rest = rest} (said_forall {x = x} {A = A} {t = t} {p = p} {q = q} {r = r} {o = o} {us = us} {vs = vs} free d e) n h =
      forall_case n x A t p q r o us vs rest free (λ m. term_reads d m (at_comma o vs)) (λ m. term_reads e m h)
  term_reads {rest = rest} (said_fun {x = x} {A = A} {t = t} {p = p} {q = q} {r = r} {o = o} {us = us} {vs = vs} free d e) n h =
      fun_case n x A t p q r o us vs rest free (λ m. term_reads d m (at_fat_arrow o vs)) (λ m. term_reads e m h)
  term_reads {rest = rest} (said_let {x = x} {A = A} {v = v} {t = t} {p = p} {q = q} {r = r} {o = o} {i = i} {us = us} {vs = vs} {ws = ws} free d e f) n h =
      let_case n x A v t p q r o i us vs ws rest free (λ m. term_reads d m (at_becomes o vs)) (λ m. term_reads e m (at_in i ws)) (λ m. term_reads f m h)
  term_reads {rest = rest} (said_arrow {a = a} {b = b} {o = o} {us = us} {vs = vs} d e) n h =
      arrow_case n a b o us vs rest (spine_begins d) (λ m. atoms_read d m) (λ m. term_reads e m h)
  term_reads {s = s} {us = us} {rest = rest} (said_spine d) n h = app_case n s us rest (spine_begins d) (λ m. atoms_read d m) h

  pub atoms_read : {s : Surface} {us rest : Words} → Spine s us rest → (m : ℕ) → Atoms m s us rest
  atoms_read {rest = rest} (spine_applied {f = f} {a = a} {us = us} {vs = vs} d e) m = atoms_more m f a us vs rest (atoms_read d m) (atom_reads e m)
  atoms_read {s = s} {us = us} {rest = rest} (spine_atom d) m = atoms_one m s us rest (atom_reads d m)

  pub atom_reads : {s : Surface} {us rest : Words} → Atom s us rest → (m : ℕ) → OneAtom m s us rest
  atom_reads {rest = rest} (atom_name {x = x} {p = p} h) m = one_of m (Ident x) (name x, p) rest rest (starts x h) (name_good m x p rest h)
  atom_reads {rest = rest} (atom_prop {p = p}) m = one_of m PropSort (name (codes "Prop"), p) rest rest refl (good_done (PropSort, rest))
  atom_reads {rest = rest} (atom_type {i = i} {p = p} {q = q} h) m =
      one_of m (TypeSort i) (name (codes "Type"), p) ((number i, q) ∷ rest) rest refl (type_good m i p q rest h)
  atom_reads {rest = rest} (atom_brackets {s = s} {p = p} {q = q} {us = us} d) m =
      one_of m s (symbol OpenRound, p) us rest refl (brackets_good m s p q us rest (term_reads d m (at_close q rest)))

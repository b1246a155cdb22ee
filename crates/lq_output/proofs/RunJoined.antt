-- A run over two lists of sentences is the run over the first, and then the run over the second behind its declarations.
use Rattle.std.proofs.Common.{◌≡◌, ◌∙◌, refl, sym, ap, ℕ, ◌+◌, ◌&&◌, Bool, true, false, List, [], ◌∷◌, ◌++◌, Result, Ok, Err}
use Rattle.std.specs.List.{AllByRecursion}
use Rattle.lq_trees.specs.Tree.{Name}
use Rattle.lq_calculus.specs.Declarations.{Env}
use Rattle.lq_calculus.proofs.ConvSound.{and_true}
use Rattle.lq_output.specs.declared.Status.{Status}
use Rattle.lq_output.specs.Grammar.{read}
use Rattle.lq_output.specs.Faults.{Fault, not_built}
use Rattle.lq_output.specs.Sentences.{Place, outside, stated, begun, worked, State, sentence}
use Rattle.lq_output.specs.Output.{Output, refused, behind, all_blank, is_outside, at_end, run}
use Rattle.lq_output.specs.Names.{sentence_names, stated_names, read_by, names_by}
use Rattle.lq_output.proofs.RunLaws.{behind_behind, behind_nothing}
use Rattle.lq_output.proofs.Unseen.{AllOpaque, IsNew}
use Rattle.lq_output.proofs.StateNames.{all-left, all-right, IsMade, StateNames, ResultNames, sentence_keeps, read-all}
use Rattle.lq_output.proofs.Behind.{state_behind, result_behind, sentence_behind}

-- the state between two theorems
abbrev pub between : Env → State
between env = record { env = env; place = outside }

-- a run over sentences that are accepted, with blanks behind them, goes on from what they declare
pub record GoesOn (P : Name → Type 0) (n : ℕ) (s : State) (k : ℕ) (ps : List (List ℕ)) (rest : List ℕ) : Type 0 where
  pub env : Env
  pub made : AllByRecursion (IsMade P) env
  pub next : ℕ
  pub blank : all_blank rest ≡ true
  pub runs : (qs : List (List ℕ)) (end : List ℕ) → run n s k (ps ++ qs) end ≡ behind (run n s k ps rest).text (run n (between env) next qs end)

-- a state between two theorems is that of its declarations
outside_is : (s : State) → is_outside s.place ≡ true → s ≡ between s.env
unfolding is_outside
outside_is s e = by s.place e
  where
    by : (place : Place) → is_outside place ≡ true → ◌≡◌ {A = State} (record { env = s.env; place = place }) (between s.env)
    by outside e = refl
    by (stated x A) e = absurd cc
    by (begun x A) e = absurd cc
    by (worked x A p) e = absurd cc

module _ (P R : Name → Type 0) (n : ℕ) where
  -- behind the last sentence
  ended : (s : State) (k : ℕ) (rest : List ℕ) (t : Bool) → is_outside s.place && all_blank rest ≡ t → AllByRecursion (IsMade P) s.env → (at_end s k rest).status ≡ Status.Done → GoesOn P n s k [] rest
  unfolding at_end run refused
  ended s k rest false e h d = let no : ◌≡◌ {A = Status} Status.ScriptFault Status.Done = sym (ap (λ (t : Bool). (elim t as (λ _. Output) [ true ↦ record { text = []; status = Status.Done } | false ↦ refused k not_built ]).status) e) ∙ d in absurd cc
  ended s k rest true e h d =
      let both = and_true (is_outside s.place) (all_blank rest) e in
      let silent : (at_end s k rest).text ≡ [] = ap (λ (t : Bool). (elim t as (λ _. Output) [ true ↦ record { text = []; status = Status.Done } | false ↦ refused k not_built ]).text) e in
      record {
        env = s.env;
        made = h;
        next = k;
        blank = both.1;
        runs = λ qs end.
            ap (λ z. run n z k qs end) (outside_is s both.0)
            ∙ sym (ap (λ text. behind text (run n (between s.env) k qs end)) silent ∙ behind_nothing (run n (between s.env) k qs end));
      }

  -- by the sentences, one after the other
  pub goes_on :
      (s : State) (k : ℕ) (ps : List (List ℕ)) (rest : List ℕ) → StateNames P R s → AllByRecursion P (names_by stated_names ps) → AllByRecursion R (names_by sentence_names ps)
      → (run n s k ps rest).status ≡ Status.Done → GoesOn P n s k ps rest
  unfolding run names_by behind refused
  goes_on s k [] rest h i l d = ended s k rest (is_outside s.place && all_blank rest) refl h.0 d
  goes_on s k (p ∷ ps) rest h i l d =
      by (sentence n s p) refl
      (sentence_keeps P R n s p h (all-left P (read_by stated_names (read p)) (names_by stated_names ps) i) (all-left R (read_by sentence_names (read p)) (names_by sentence_names ps) l)) d
      (λ r m f.
      goes_on r.1 (k + 1) ps rest m (all-right P (read_by stated_names (read p)) (names_by stated_names ps) i) (all-right R (read_by sentence_names (read p)) (names_by sentence_names ps) l) f)
    where
      one : (qs : List (List ℕ)) (end : List ℕ) (o : Result (List ℕ × State) Fault) → Output
      one qs end o = elim o as (λ _. Output) [ Ok r ↦ behind r.0 (run n r.1 (k + 1) qs end) | Err f ↦ refused k f ]

      by :
          (o : Result (List ℕ × State) Fault) → sentence n s p ≡ o → ResultNames P R o → (one ps rest o).status ≡ Status.Done
          → ((r : List ℕ × State) → StateNames P R r.1 → (run n r.1 (k + 1) ps rest).status ≡ Status.Done → GoesOn P n r.1 (k + 1) ps rest)
          → GoesOn P n s k (p ∷ ps) rest
      by (Err f) e m d go = absurd cc
      by (Ok r) e m d go =
          let g : GoesOn P n r.1 (k + 1) ps rest = go r m d in
          record {
            env = g.env;
            made = g.made;
            next = g.next;
            blank = g.blank;
            runs = λ qs end.
                ap (one (ps ++ qs) end) e ∙ ap (behind r.0) (g.runs qs end) ∙ behind_behind r.0 (run n r.1 (k + 1) ps rest).text (run n (between g.env) g.next qs end)
                ∙ ap (λ o. behind (one ps rest o).text (run n (between g.env) g.next qs end)) (sym e);
          }

-- a run that is accepted is the same behind declarations that it doesn't name, whatever the number of its first sentence
module _ (before : Env) (front : AllOpaque before) (n : ℕ) where
  -- behind the last sentence
  ended_behind : (s : State) (k j : ℕ) (rest : List ℕ) → (at_end s k rest).status ≡ Status.Done → at_end (state_behind before s) j rest ≡ at_end s k rest
  unfolding at_end refused
  ended_behind s k j rest d = by (is_outside s.place && all_blank rest) d
    where
      by :
          (t : Bool) → (elim t as (λ _. Output) [ true ↦ record { text = []; status = Status.Done } | false ↦ refused k not_built ]).status ≡ Status.Done
          → elim t as (λ _. Output) [ true ↦ record { text = []; status = Status.Done } | false ↦ refused j not_built ]
          ≡ elim t as (λ _. Output) [ true ↦ record { text = []; status = Status.Done } | false ↦ refused k not_built ]
      by true d = refl
      by false d = absurd cc

  -- by the sentences, one after the other
  pub run_behind :
      (s : State) (k j : ℕ) (ps : List (List ℕ)) (rest : List ℕ) → StateNames (IsNew before) (IsNew before) s → AllByRecursion (IsNew before) (names_by sentence_names ps)
      → (run n s k ps rest).status ≡ Status.Done → run n (state_behind before s) j ps rest ≡ run n s k ps rest
  unfolding run names_by behind refused
  run_behind s k j [] rest h l d = ended_behind s k j rest d
  run_behind s k j (p ∷ ps) rest h l d =
      let own = all-left (IsNew before) (read_by sentence_names (read p)) (names_by sentence_names ps) l in
      ap (one j) (sentence_behind before n s p front h own)
      ∙ by (sentence n s p) (sentence_keeps (IsNew before) (IsNew before) n s p h (read-all (IsNew before) (read p) own) own) d (λ r m f. run_behind r.1 (k + 1) (j + 1) ps rest m (all-right (IsNew before) (read_by sentence_names (read p)) (names_by sentence_names ps) l) f)
    where
      one : ℕ → Result (List ℕ × State) Fault → Output
      one i o = elim o as (λ _. Output) [ Ok r ↦ behind r.0 (run n r.1 (i + 1) ps rest) | Err f ↦ refused i f ]

      by :
          (o : Result (List ℕ × State) Fault) → ResultNames (IsNew before) (IsNew before) o → (one k o).status ≡ Status.Done
          → ((r : List ℕ × State) → StateNames (IsNew before) (IsNew before) r.1 → (run n r.1 (k + 1) ps rest).status ≡ Status.Done → run n (state_behind before r.1) (j + 1) ps rest ≡ run n r.1 (k + 1) ps rest)
          → one j (result_behind before o) ≡ one k o
      by (Err f) m d go = absurd cc
      by (Ok r) m d go = ap (behind r.0) (go r m d)

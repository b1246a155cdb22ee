-- A script's output is a line for each declaration and at most a line of an error, and its declarations are derived.
use Rattle.std.proofs.Common.{◌≡◌, ◌∙◌, refl, sym, ap, subst, ℕ, suc, ◌+◌, ◌&&◌, Bool, true, false, nat_lt, List, [], ◌∷◌, ◌++◌, length, Option, Some, None, Result, Ok, Err, append_assoc}
use Rattle.lq_trees.specs.Tree.{Name, Tree}
use Rattle.lq_trees.specs.declared.Sort.{Sort as Universe}
use Rattle.lq_calculus.specs.Declarations.{Env, Entry, constant, lookup, first_taken, names_of}
use Rattle.lq_calculus.specs.Typing.{DerivedEnv, no_entry}
use Rattle.lq_calculus.specs.Checking.{known, sort_of, check, no_env_fault, declare_constant}
use Rattle.lq_calculus.proofs.ConvSound.{Gives, gives_bind}
use Rattle.lq_calculus.proofs.DeclareSound.{constant_derived}
use Rattle.lq_output.proofs.Derived.{comes_gives}
use Rattle.lq_output.specs.declared.Status.{Status}
use Rattle.lq_output.specs.Script.{cut as cut_script}
use Rattle.lq_output.specs.Grammar.{Surface, Sentence, theorem, proof, tactics, qed, read}
use Rattle.lq_output.specs.Steps.{Proof, goal, finished, after_tactics, resolved}
use Rattle.lq_output.specs.Faults.{Fault, not_built}
use Rattle.lq_output.specs.Sentences.{Place, outside, stated, begun, worked, State, comes_to, with_sort, with_tree, stating, proving, defined, declared, closing_proof, doing, sentence}
use Rattle.lq_output.specs.Output.{Output, refused, behind, all_blank, is_outside, at_end, run, start, most_bytes, too_long, output, reached, declarations, reports, IsLastLine, no_line, fault_line, long_line, HasDerivations}

pub reports-append : (a b : Env) → reports (a ++ b) ≡ reports a ++ reports b
unfolding reports
reports-append [] b = refl
reports-append (e ∷ a) b = ap (λ z. defined e.0 ++ z) (reports-append a b) ∙ sym (append_assoc (defined e.0) (reports a) (reports b))

-- a sentence that is accepted declares what it reports
pub record Accepts (env : Env) (written : List ℕ) (new : Env) : Type 0 where
  pub own : Env
  pub grown : new ≡ env ++ own
  pub told : written ≡ reports own
  pub derived : DerivedEnv env → DerivedEnv new

append-[] : (env : Env) → env ≡ env ++ []
append-[] [] = refl
append-[] (e ∷ env) = ap (λ z. e ∷ z) (append-[] env)

-- nothing is declared
quiet : (env : Env) (written : List ℕ) (new : Env) → new ≡ env → written ≡ [] → Accepts env written new
unfolding reports
quiet env written new e w = record { own = []; grown = e ∙ append-[] env; told = w; derived = λ d. subst DerivedEnv (sym e) d }

same_ok : (a b : List ℕ × State) → ◌≡◌ {A = Result (List ℕ × State) Fault} (Ok a) (Ok b) → a ≡ b
same_ok a b e = cc

stating_accepts : (n : ℕ) (env : Env) (x : Name) (A : Surface) (r : List ℕ × State) → stating n env x A ≡ Ok r → Accepts env r.0 r.1.env
unfolding stating with_tree with_sort
stating_accepts n env x A r e = by (lookup env x) e
  where
    sorted : (T : Tree) (s : Result Universe Fault) → with_sort env x T s ≡ Ok r → Accepts env r.0 r.1.env
    sorted T (Ok s) e =
        let is = same_ok ([], record { env = env; place = stated x T }) r e in
        quiet env r.0 r.1.env (ap (λ z. z.1.env) (sym is)) (ap (λ z. z.0) (sym is))
    sorted T (Err f) e = absurd cc

    tree : (o : Option Tree) → with_tree n env x o ≡ Ok r → Accepts env r.0 r.1.env
    tree None e = absurd cc
    tree (Some T) e = sorted T (comes_to n (λ m. sort_of env m [] T)) e

    by : (o : Option Entry) → elim o as (λ _. Result (List ℕ × State) Fault) [ Some c ↦ Err not_built | None ↦ with_tree n env x (resolved env [] A) ] ≡ Ok r → Accepts env r.0 r.1.env
    by None e = tree (resolved env [] A) e
    by (Some c) e = absurd cc

proving_accepts : (env : Env) (x : Name) (A : Tree) (p : Result Proof Fault) (r : List ℕ × State) → proving env x A p ≡ Ok r → Accepts env r.0 r.1.env
unfolding proving
proving_accepts env x A (Ok p) r e = let is = same_ok ([], record { env = env; place = worked x A p }) r e in quiet env r.0 r.1.env (ap (λ z. z.1.env) (sym is)) (ap (λ z. z.0) (sym is))
proving_accepts env x A (Err f) r e = absurd cc

-- what the kernel declares
declare_gives : (n : ℕ) (env : Env) (x : Name) (A t : Tree) (new : Env) → Gives (declare_constant env n x A t true) new → env ++ ((x, constant A t true) ∷ []) ≡ new
unfolding declare_constant
declare_gives n env x A t new h =
    let a = gives_bind (no_env_fault (first_taken (names_of env) (x ∷ []))) _ new h in
    let b = gives_bind (known [] (A ∷ t ∷ [])) _ new a.2 in
    let s = gives_bind (sort_of env n [] A) _ new b.2 in
    let c = gives_bind (check env n [] t A) _ new s.2 in
    c.2

append_nothing : (a : List ℕ) → a ≡ a ++ []
append_nothing [] = refl
append_nothing (x ∷ a) = ap (λ z. x ∷ z) (append_nothing a)

closing_accepts : (n : ℕ) (env : Env) (x : Name) (A : Tree) (p : Proof) (r : List ℕ × State) → closing_proof n env x A p ≡ Ok r → Accepts env r.0 r.1.env
unfolding closing_proof declared reports
closing_accepts n env x A (goal g T) r e = absurd cc
closing_accepts n env x A (finished t) r e = by (comes_to n (λ m. declare_constant env m x A t true)) refl e
  where
    by : (o : Result Env Fault) → comes_to n (λ m. declare_constant env m x A t true) ≡ o → declared x o ≡ Ok r → Accepts env r.0 r.1.env
    by (Err f) c e = absurd cc
    by (Ok new) c e =
        let h : Gives (declare_constant env (suc n) x A t true) new = comes_gives n (λ m. declare_constant env m x A t true) new c in
        let is = same_ok (defined x, record { env = new; place = outside }) r e in
        let same : r.1.env ≡ new = ap (λ z. z.1.env) (sym is) in
        let line : r.0 ≡ defined x = ap (λ z. z.0) (sym is) in
        record {
          own = (x, constant A t true) ∷ [];
          grown = same ∙ sym (declare_gives (suc n) env x A t new h);
          told = line ∙ append_nothing (defined x);
          derived = λ d. subst DerivedEnv (sym same) (constant_derived env (suc n) x A t true new d h);
        }

pub doing_accepts : (n : ℕ) (env : Env) (place : Place) (x : Sentence) (r : List ℕ × State) → doing n env place x ≡ Ok r → Accepts env r.0 r.1.env
unfolding doing
doing_accepts n env outside (theorem x A) r e = stating_accepts n env x A r e
doing_accepts n env (stated x A) proof r e = let is = same_ok ([], record { env = env; place = begun x A }) r e in quiet env r.0 r.1.env (ap (λ z. z.1.env) (sym is)) (ap (λ z. z.0) (sym is))
doing_accepts n env (begun x A) (tactics ts) r e = proving_accepts env x A (after_tactics env (goal [] A) ts) r e
doing_accepts n env (worked x A p) qed r e = closing_accepts n env x A p r e
doing_accepts n env _ _ r e = absurd cc

pub sentence_accepts : (n : ℕ) (s : State) (p : List ℕ) (r : List ℕ × State) → sentence n s p ≡ Ok r → Accepts s.env r.0 r.1.env
unfolding sentence
sentence_accepts n s p r e = by (read p) e
  where
    by : (o : Option Sentence) → elim o as (λ _. Result (List ℕ × State) Fault) [ Some x ↦ doing n s.env s.place x | None ↦ Err not_built ] ≡ Ok r → Accepts s.env r.0 r.1.env
    by None e = absurd cc
    by (Some x) e = doing_accepts n s.env s.place x r e

-- a run declares what it reports, and then writes at most a line
pub record Reports (env : Env) (text : List ℕ) (new : Env) : Type 0 where
  pub own : Env
  pub grown : new ≡ env ++ own
  pub last : List ℕ
  pub is_last : IsLastLine last
  pub told : text ≡ reports own ++ last
  pub derived : DerivedEnv env → DerivedEnv new

-- nothing but a last line
only_line : (env : Env) (text : List ℕ) → IsLastLine text → Reports env text env
unfolding reports
only_line env text l = record { own = []; grown = append-[] env; last = text; is_last = l; told = refl; derived = λ d. d }

at_end_line : (s : State) (k : ℕ) (rest : List ℕ) → IsLastLine (at_end s k rest).text
unfolding at_end
at_end_line s k rest = by (is_outside s.place && all_blank rest)
  where
    by : (b : Bool) → IsLastLine (elim b as (λ _. Output) [ true ↦ record { text = []; status = Status.Done } | false ↦ refused k not_built ]).text
    by true = no_line
    by false = fault_line k not_built

pub run_reports : (n : ℕ) (s : State) (k : ℕ) (ps : List (List ℕ)) (rest : List ℕ) → Reports s.env (run n s k ps rest).text (reached n s ps)
unfolding run reached behind
run_reports n s k [] rest = only_line s.env (at_end s k rest).text (at_end_line s k rest)
run_reports n s k (p ∷ ps) rest = by (sentence n s p) refl (λ r. run_reports n r.1 (k + 1) ps rest)
  where
    by : (o : Result (List ℕ × State) Fault) → sentence n s p ≡ o → ((r : List ℕ × State) → Reports r.1.env (run n r.1 (k + 1) ps rest).text (reached n r.1 ps))
        → Reports s.env (elim o as (λ _. Output) [ Ok r ↦ behind r.0 (run n r.1 (k + 1) ps rest) | Err f ↦ refused k f ]).text (elim o as (λ _. Env) [ Ok r ↦ reached n r.1 ps | Err f ↦ s.env ])
    by (Err f) e go = only_line s.env (refused k f).text (fault_line k f)
    by (Ok r) e go =
        let a : Accepts s.env r.0 r.1.env = sentence_accepts n s p r e in
        let b : Reports r.1.env (run n r.1 (k + 1) ps rest).text (reached n r.1 ps) = go r in
        record {
          own = a.own ++ b.own;
          grown = b.grown ∙ ap (λ z. z ++ b.own) a.grown ∙ append_assoc s.env a.own b.own;
          last = b.last;
          is_last = b.is_last;
          told =
              ap (λ z. z ++ (run n r.1 (k + 1) ps rest).text) a.told ∙ ap (λ z. reports a.own ++ z) b.told ∙ sym (append_assoc (reports a.own) (reports b.own) b.last)
              ∙ ap (λ z. z ++ b.last) (sym (reports-append a.own b.own));
          derived = λ d. b.derived (a.derived d);
        }

-- so it is for a whole script
pub has_derivations : (n : ℕ) (bytes : List ℕ) → HasDerivations n bytes
unfolding output declarations reports
has_derivations n bytes = by (nat_lt most_bytes (length bytes)) refl
  where
    by : (b : Bool) → nat_lt most_bytes (length bytes) ≡ b → HasDerivations n bytes
    by true e = record { last = too_long.text; is_last = long_line; text = rw (e, output, declarations) refl; derived = rw (e, declarations) no_entry }
    by false e =
        let r = run_reports n start 1 (cut_script bytes).sentences (cut_script bytes).rest in
        record { last = r.last; is_last = r.is_last; text = rw (e, output, declarations) (r.told ∙ ap (λ z. reports z ++ r.last) (sym r.grown)); derived = rw (e, declarations) (r.derived no_entry) }

-- Printed binders are read again.
use Rattle.std.proofs.Common.{◌≡◌, ℕ, ◌+◌, true, false, [], ◌∷◌, Ok, refl, subst, inl}
use Rattle.std.specs.Prelude.{codes}
use Rattle.lq_grammar.specs.declared.token.Symbol.{Symbol}
use Rattle.lq_grammar.specs.declared.token.Symbol.TheVariants.{ColonEqual, OpenRound, Colon}
use Rattle.lq_trees.specs.Tree.{Name}
use Rattle.lq_ast.specs.Plain.{joined}
use Rattle.lq_ast.specs.Syntax.{Surface, Domain, LetIn, Written, bound}
use Rattle.lq_sentences.specs.Words.{Words, name, symbol, is_name, is_sign, same_symbol, reads, text_of}
use Rattle.lq_sentences.specs.Rules.{Rule, ◌>>=◌, ◌<$>◌, sees, and_then, read_word, read}
use Rattle.lq_sentences.specs.Parts.{is_binder, binder_word, a_binder, some_binders, many, behind}
use Rattle.lq_sentences.specs.Terms.{Spot, typed, names_behind, inner_group, binders, quantified, domain_behind, let_head, let_body, let_term}
use Rattle.lq_sentences.specs.Patterns.{free_spot}
use Rattle.lq_sentences.proofs.LoopLaws.{many_done}
use Rattle.lq_texts.proofs.Said.{bound_word, IsFreeBinder}
use Rattle.lq_texts.proofs.GoodLaws.{Good, good_then, good_word, good_second, good_done}

binds : (x : Name) → IsFreeBinder x → is_binder (bound_word x) ≡ true
unfolding is_name is_sign same_symbol
binds [] h = refl
binds (b ∷ bs) h = rw h refl

names : (x : Name) → text_of (bound_word x) ≡ x
names [] = refl
names (b ∷ bs) = refl

opens_none : (x : Name) (q : ℕ) (ws : Words) → sees (is_sign OpenRound) ((bound_word x, q) ∷ ws) ≡ false
unfolding sees is_sign same_symbol
opens_none [] q ws = refl
opens_none (b ∷ bs) q ws = refl

-- one binder before a colon
one_binder : (m : ℕ) (x : Name) (q r : ℕ) (us : Words) → IsFreeBinder x →
    Good (read (some_binders m) ((bound_word x, q) ∷ (symbol Colon, r) ∷ us)) ((text_of (bound_word x), q) ∷ [], (symbol Colon, r) ∷ us)
unfolding sees is_name is_sign same_symbol
one_binder m x q r us h =
    good_then (read_word m is_binder ((bound_word x, q) ∷ (symbol Colon, r) ∷ us)) _ ((bound_word x, q), (symbol Colon, r) ∷ us) _
    (good_word m is_binder (bound_word x, q) _ (binds x h))
    (inl (many_done m is_binder binder_word ((text_of (bound_word x), q) ∷ []) ((symbol Colon, r) ∷ us) refl))

-- a part behind a sign
pub behind_sign : {A : Type 0} (m : ℕ) (s : Symbol) (p : Rule A) (o : ℕ) (ws : Words) (y : A × Words) → is_sign s (symbol s) ≡ true → Good (read p ws) y →
    Good (read (behind m s p) ((symbol s, o) ∷ ws)) y
behind_sign m s p o ws y e g =
    good_then (and_then (read_word m (is_sign s) ((symbol s, o) ∷ ws)) (λ w vs. Ok (tt, vs))) _ (tt, ws) y
    (good_then (read_word m (is_sign s) ((symbol s, o) ∷ ws)) (λ w vs. Ok (tt, vs)) ((symbol s, o), ws) (tt, ws) (good_word m (is_sign s) (symbol s, o) ws e)
    (good_done (tt, ws))) g

module _ (m k : ℕ) (T D : Spot → Rule Surface) where
  one_typed : (x : Name) (A : Surface) (q r : ℕ) (us vs : Words) → IsFreeBinder x → Good (read (T free_spot) us) (A, vs) →
      Good (read (binders m k T D free_spot) ((bound_word x, q) ∷ (symbol Colon, r) ∷ us)) ((text_of (bound_word x), Written A) ∷ [], vs)
  unfolding sees is_sign same_symbol
  one_typed x A q r us vs h g =
      good_second (is_sign OpenRound) (joined <$> many m (is_sign OpenRound) (inner_group m k D free_spot) []) (some_binders m >>= names_behind m T free_spot)
      ((bound_word x, q) ∷ (symbol Colon, r) ∷ us)
      ((text_of (bound_word x), Written A) ∷ [], vs) (opens_none x q ((symbol Colon, r) ∷ us))
      (good_then (read (some_binders m) ((bound_word x, q) ∷ (symbol Colon, r) ∷ us)) (λ xs. read (names_behind m T free_spot xs))
      ((text_of (bound_word x), q) ∷ [], (symbol Colon, r) ∷ us) _ (one_binder m x q r us h)
      (good_then (read (behind m Colon (T free_spot)) ((symbol Colon, r) ∷ us)) (λ B ws. Ok (typed ((text_of (bound_word x), q) ∷ []) B, ws)) (A, vs) _
      (behind_sign m Colon (T free_spot) r us (A, vs) refl g) (good_done _)))

  -- `forall x : A, t`, `fun x : A => t`
  pub quantified_good : (h : Name) (node : Name → Domain → Surface → Surface) (s : Symbol) (x : Name) (A t : Surface) (p q r o : ℕ) (us vs rest : Words) →
      reads h (name h) ≡ true → is_sign s (symbol s) ≡ true → IsFreeBinder x → Good (read (T free_spot) us) (A, (symbol s, o) ∷ vs) →
      Good (read (T free_spot) vs) (t, rest) →
      Good (read (quantified m k T D free_spot h node s) ((name h, p) ∷ (bound_word x, q) ∷ (symbol Colon, r) ∷ us)) (node x (Written A) t, rest)
  unfolding bound
  quantified_good h node s x A t p q r o us vs rest e f free g i =
      let ws : Words = (bound_word x, q) ∷ (symbol Colon, r) ∷ us in
      let P : Name → Type 0 = λ y. Good (read (quantified m k T D free_spot h node s) ((name h, p) ∷ ws)) (node y (Written A) t, rest) in
      subst P (names x)
      (good_then (and_then (read_word (m + 1) (reads h) ((name h, p) ∷ ws)) (λ w vs. Ok (tt, vs))) _ (tt, ws) _
      (good_then (read_word (m + 1) (reads h) ((name h, p) ∷ ws)) (λ w vs. Ok (tt, vs)) ((name h, p), ws) (tt, ws)
      (good_word (m + 1) (reads h) (name h, p) ws e) (good_done (tt, ws)))
      (good_then (read (binders m k T D free_spot) ws) _ ((text_of (bound_word x), Written A) ∷ [], (symbol s, o) ∷ vs) _
      (one_typed x A q r us ((symbol s, o) ∷ vs) free g)
      (good_then (read (behind m s (T free_spot)) ((symbol s, o) ∷ vs)) _ (t, rest) _ (behind_sign m s (T free_spot) o vs (t, rest) f i) (good_done _))))

  head_good : (x : Name) (A : Surface) (p q r : ℕ) (us vs : Words) → IsFreeBinder x → Good (read (T free_spot) us) (A, vs) →
      Good (read (let_head m T free_spot) ((name (codes "let"), p) ∷ (bound_word x, q) ∷ (symbol Colon, r) ∷ us)) ((text_of (bound_word x), Written A), vs)
  unfolding sees reads is_sign same_symbol
  head_good x A p q r us vs free g =
      let ws : Words = (bound_word x, q) ∷ (symbol Colon, r) ∷ us in
      good_then (and_then (read_word (m + 1) (reads (codes "let")) ((name (codes "let"), p) ∷ ws)) (λ w vs. Ok (tt, vs))) _ (tt, ws) _
      (good_then (read_word (m + 1) (reads (codes "let")) ((name (codes "let"), p) ∷ ws)) (λ w vs. Ok (tt, vs)) ((name (codes "let"), p), ws) (tt, ws)
      (good_word (m + 1) (reads (codes "let")) (name (codes "let"), p) ws refl) (good_done (tt, ws)))
      (good_then (read (a_binder m) ws) _ ((text_of (bound_word x), q), (symbol Colon, r) ∷ us) _
      (good_then (read_word m is_binder ws) _ ((bound_word x, q), (symbol Colon, r) ∷ us) _ (good_word m is_binder (bound_word x, q) _ (binds x free))
      (good_done _))
      (good_then (read (domain_behind m T free_spot q) ((symbol Colon, r) ∷ us)) _ (Written A, vs) _
      (good_then (read (behind m Colon (T free_spot)) ((symbol Colon, r) ∷ us)) _ (A, vs) _ (behind_sign m Colon (T free_spot) r us (A, vs) refl g)
      (good_done _))
      (good_done _)))

  body_good : (v t : Surface) (o i : ℕ) (vs ws rest : Words) → Good (read (T free_spot) vs) (v, (name (codes "in"), i) ∷ ws) →
      Good (read (T free_spot) ws) (t, rest) →
      Good (read (let_body m T free_spot) ((symbol ColonEqual, o) ∷ vs)) ((v, t), rest)
  unfolding sees reads is_sign same_symbol
  body_good v t o i vs ws rest g j =
      good_then (read (behind m ColonEqual (T free_spot)) ((symbol ColonEqual, o) ∷ vs)) _ (v, (name (codes "in"), i) ∷ ws) _
      (behind_sign m ColonEqual (T free_spot) o vs _ refl g)
      (good_then (and_then (read_word m (reads (codes "in")) ((name (codes "in"), i) ∷ ws)) (λ w us. Ok (tt, us))) _ (tt, ws) _
      (good_then (read_word m (reads (codes "in")) ((name (codes "in"), i) ∷ ws)) (λ w us. Ok (tt, us)) ((name (codes "in"), i), ws) (tt, ws)
      (good_word m (reads (codes "in")) (name (codes "in"), i) ws refl) (good_done (tt, ws)))
      (good_then (read (T free_spot) ws) _ (t, rest) _ j (good_done _)))

  -- `let x : A := v in t`
  pub let_good : (x : Name) (A v t : Surface) (p q r o i : ℕ) (us vs ws rest : Words) → IsFreeBinder x →
      Good (read (T free_spot) us) (A, (symbol ColonEqual, o) ∷ vs) →
      Good (read (T free_spot) vs) (v, (name (codes "in"), i) ∷ ws) → Good (read (T free_spot) ws) (t, rest) →
      Good (read (let_term m T free_spot) ((name (codes "let"), p) ∷ (bound_word x, q) ∷ (symbol Colon, r) ∷ us)) (LetIn x (Written A) v t, rest)
  let_good x A v t p q r o i us vs ws rest free g h j =
      let P : Name → Type 0 =
      λ y. Good (read (let_term m T free_spot) ((name (codes "let"), p) ∷ (bound_word x, q) ∷ (symbol Colon, r) ∷ us)) (LetIn y (Written A) v t, rest) in
      subst P (names x)
      (good_then (read (let_head m T free_spot) ((name (codes "let"), p) ∷ (bound_word x, q) ∷ (symbol Colon, r) ∷ us)) _
      ((text_of (bound_word x), Written A), (symbol ColonEqual, o) ∷ vs) _
      (head_good x A p q r us ((symbol ColonEqual, o) ∷ vs) free g)
      (good_then (read (let_body m T free_spot) ((symbol ColonEqual, o) ∷ vs)) _ ((v, t), rest) _ (body_good v t o i vs ws rest h j) (good_done _)))

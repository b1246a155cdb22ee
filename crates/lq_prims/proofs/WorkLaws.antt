-- How the work of a row comes to its outcome, part by part.
use Rattle.std.proofs.Common.{◌≡◌, ◌∙◌, ℕ, suc, refl, sym, ap, arith, Result, Ok, Err}
use Rattle.std.proofs.Common.{subst as along}
use Rattle.std.specs.Result.{IsErrAnd}
use Rattle.std.proofs.lemmas.Result.{err_from_is_err_and}
use Rattle.lq_trees.specs.Ticks.{gives, fails, ◌>>=◌, done, failed, steps_out, within, ComesTo}
use Rattle.lq_trees.proofs.Outcomes.{comes_then, comes_failed, comes_spent, comes_gives, comes_fails}
use Rattle.lq_calculus.proofs.ConvSound.{Gives, done_gives}
use Rattle.lq_terms.specs.Terms.{Terms}
use Rattle.lq_tactics.specs.Rows.{RowFault, Doing, Scene, Done, Step, given_to, ended}
use Rattle.lq_prims.specs.declared.faults.PrimFault.{PrimFault}
use Rattle.lq_prims.specs.Refusals.{Stop, at_fault, ticks_spent, memory_ended, TellsStop}
use Rattle.lq_prims.specs.Working.{StopsAt, Refuses, Does, Tells}

-- work stops as other work does that comes to the same faults
pub stops_as : {A B : Type 0} (st : Stop) (f : ℕ → Doing A) (g : ℕ → Doing B) (b c left : ℕ) → (ComesTo f b steps_out → ComesTo g c steps_out) →
    ((x : RowFault) → ComesTo f b (failed x left) → ComesTo g c (failed x left)) → StopsAt st f b left → StopsAt st g c left
stops_as (at_fault x) f g b c left out fault h = fault x h
stops_as ticks_spent f g b c left out fault h = (out h.0, h.1)
stops_as memory_ended f g b c left out fault h = tt

-- a refusal of one work is a refusal of another that comes to the same faults
pub refuses_as : {A B : Type 0} (bank : Terms) (e : PrimFault) (f : ℕ → Doing A) (g : ℕ → Doing B) (b c left : ℕ) → (ComesTo f b steps_out → ComesTo g c steps_out) →
    ((x : RowFault) → ComesTo f b (failed x left) → ComesTo g c (failed x left)) → Refuses bank e f b left → Refuses bank e g c left
refuses_as bank e f g b c left out fault h = record { stop = h.stop; tells = h.tells; stops = stops_as h.stop f g b c left out fault h.stops }

-- a refusal at a fault
pub refuses_at : {A : Type 0} (bank : Terms) (e : PrimFault) (x : RowFault) (f : ℕ → Doing A) (b left : ℕ) → TellsStop bank e (at_fault x) → ComesTo f b (failed x left) → Refuses bank e f b left
refuses_at bank e x f b left t c = record { stop = at_fault x; tells = t; stops = c }

pub refuses_at_once : {A : Type 0} (bank : Terms) (e : PrimFault) (x : RowFault) (w : Doing A) → TellsStop bank e (at_fault x) → w ≡ fails x → (b : ℕ) → Refuses bank e (λ n. w) b b
refuses_at_once bank e x w t h b = refuses_at bank e x (λ n. w) b b t (comes_fails (λ n. w) x b (λ n. h))

-- want of memory
pub no_memory : {A : Type 0} (bank : Terms) (f : ℕ → Doing A) (b left : ℕ) → Refuses bank PrimFault.NoMemory f b left
no_memory bank f b left = record { stop = memory_ended; tells = refl; stops = tt }

pub out_of_memory : {Y A : Type 0} (bank : Terms) (tell : Y → A) (r : Result Y PrimFault) (f : ℕ → Doing A) (b left : ℕ) → IsErrAnd r (λ e. e ≡ PrimFault.NoMemory) → Does bank tell r f b left
out_of_memory bank tell r f b left h =
    let q = err_from_is_err_and r h in along (λ z. Does bank tell z f b left) (sym (q.1 ∙ ap Err q.2)) (no_memory bank f b left)

-- a refusal that is handed on
pub handed_on : {Y A : Type 0} (bank : Terms) (tell : Y → A) (r : Result Y PrimFault) (e : PrimFault) (f : ℕ → Doing A) (b left : ℕ) → IsErrAnd r (λ z. z ≡ e) → Refuses bank e f b left → Does bank tell r f b left
handed_on bank tell r e f b left h k =
    let q = err_from_is_err_and r h in along (λ z. Does bank tell z f b left) (sym (q.1 ∙ ap Err q.2)) k

-- a refusal of the first of two works is one of both
pub refuses_first : {A B : Type 0} (bank : Terms) (e : PrimFault) (f : ℕ → Doing A) (k : A → ℕ → Doing B) (b left : ℕ) → Refuses bank e f b left →
    Refuses bank e (λ n. f n >>= λ a. k a n) b left
refuses_first bank e f k b left h = refuses_as bank e f (λ n. f n >>= λ a. k a n) b b left (λ o. comes_spent f k b o) (λ x o. comes_failed f k b x left o) h

-- a refusal of the second, once the first is done
pub refuses_then : {A B : Type 0} (bank : Terms) (e : PrimFault) (f : ℕ → Doing A) (k : A → ℕ → Doing B) (b l left : ℕ) (a : A) → ComesTo f b (done a l) → Refuses bank e (k a) l left →
    Refuses bank e (λ n. f n >>= λ a. k a n) b left
refuses_then bank e f k b l left a d h =
    refuses_as bank e (k a) (λ n. f n >>= λ a. k a n) l b left (λ o. comes_then f k b a l steps_out d o) (λ x o. comes_then f k b a l (failed x left) d o) h

-- a refusal of equal work
pub refuses_same : {A : Type 0} (bank : Terms) (e : PrimFault) (f g : ℕ → Doing A) (b left : ℕ) → ((n : ℕ) → f n ≡ g n) → Refuses bank e f b left → Refuses bank e g b left
refuses_same bank e f g b left same h = refuses_as bank e f g b b left (λ o n i. sym (ap (within b) (same n)) ∙ o n i) (λ x o n i. sym (ap (within b) (same n)) ∙ o n i) h

-- an answer of the second, once the first is done
pub does_then : {X A B : Type 0} (bank : Terms) (tell : X → B) (q : Result X PrimFault) (f : ℕ → Doing A) (k : A → ℕ → Doing B) (b l left : ℕ) (a : A) → ComesTo f b (done a l) →
    Does bank tell q (k a) l left → Does bank tell q (λ n. f n >>= λ a. k a n) b left
does_then bank tell (Ok x) f k b l left a d h = comes_then f k b a l (done (tell x) left) d h
does_then bank tell (Err e) f k b l left a d h = refuses_then bank e f k b l left a d h

pub does_same : {X A : Type 0} (bank : Terms) (tell : X → A) (q : Result X PrimFault) (f g : ℕ → Doing A) (b left : ℕ) → ((n : ℕ) → f n ≡ g n) → Does bank tell q f b left → Does bank tell q g b left
does_same bank tell (Ok x) f g b left same h = λ n i. sym (ap (within b) (same n)) ∙ h n i
does_same bank tell (Err e) f g b left same h = refuses_same bank e f g b left same h

-- work that pays nothing
pub does_at_once : {X A : Type 0} (bank : Terms) (tell : X → A) (q : Result X PrimFault) (w : Doing A) → Tells bank tell q w → (b : ℕ) → Does bank tell q (λ n. w) b b
does_at_once bank tell (Ok x) w h b = comes_gives (λ n. w) (tell x) b (λ n. h)
does_at_once bank tell (Err e) w h b = h b

pub tells_same : {X A : Type 0} (bank : Terms) (tell : X → A) (q : Result X PrimFault) (v w : Doing A) → v ≡ w → Tells bank tell q v → Tells bank tell q w
tells_same bank tell q v w e h = along (Tells bank tell q) e h

-- after work that pays nothing
pub does_after : {X A B : Type 0} (bank : Terms) (tell : X → B) (q : Result X PrimFault) (w : ℕ → Doing A) (k : A → ℕ → Doing B) (b left : ℕ) (a : A) → ((n : ℕ) → w n ≡ gives a) →
    Does bank tell q (k a) b left → Does bank tell q (λ n. w n >>= λ a. k a n) b left
does_after bank tell q w k b left a e h = does_then bank tell q w k b b left a (comes_gives w a b e) h

-- what is done is what the work gives
pub comes_is_given : {A : Type 0} (f : ℕ → Doing A) (b left : ℕ) (a : A) → ComesTo f b (done a left) → Gives (f (suc b)) a
comes_is_given f b left a h = done_gives b (f (suc b)) a left (h (suc b) (omega arith))

-- ---- the end of a row

module _ (c : ℕ → Scene) (k : ℕ) (goal : (n : ℕ) → (c n).goal ≡ k) (f : ℕ → Doing Done) where
  ended_is : (n : ℕ) → (f n >>= λ d. given_to k d) ≡ ended (c n) (f n)
  unfolding ended
  ended_is n = ap (λ z. f n >>= given_to z) (sym (goal n))

  pub does_ended : {X : Type 0} (bank : Terms) (tell : X → Step) (q : Result X PrimFault) (b l left : ℕ) (d : Done) → ComesTo f b (done d l) → Does bank tell q (λ n. given_to k d) l left →
      Does bank tell q (λ n. ended (c n) (f n)) b left
  does_ended bank tell q b l left d h r =
      does_same bank tell q (λ n. f n >>= λ d. given_to k d) (λ n. ended (c n) (f n)) b left ended_is (does_then bank tell q f (λ d n. given_to k d) b l left d h r)

  pub refuses_ended : (bank : Terms) (e : PrimFault) (b left : ℕ) → Refuses bank e f b left → Refuses bank e (λ n. ended (c n) (f n)) b left
  refuses_ended bank e b left h =
      refuses_same bank e (λ n. f n >>= λ d. given_to k d) (λ n. ended (c n) (f n)) b left ended_is (refuses_first bank e f (λ d n. given_to k d) b left h)

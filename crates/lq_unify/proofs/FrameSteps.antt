-- What waited nearest goes on with an answer.
use Rattle.std.proofs.Common.{◌≡◌, ◌≤◌, ◌<◌, ◌+◌, ◌-◌, ◌∙◌, ℕ, zero, suc, refl, sym, ap, ap₂, arith, Bool, true, false, List, [], ◌∷◌, ◌++◌, length, take, drop, get_or, length-append, Option, Some, None, MatchOption}
use Rattle.std.proofs.Common.{subst as along}
use Rattle.std.specs.List.{AllByRecursion}
use Rattle.std.proofs.lemmas.List.{take_all, drop_more, take-append-le, length-take-le, map-append}
use Rattle.std.proofs.Math.ListN.{drop_of_length-le}
use Rattle.std.proofs.Math.Seq.{take-length}
use Rattle.lq_trees.specs.Rules.{Rules}
use Rattle.lq_terms.specs.declared.nodes.Hypothesis.{Hypothesis}
use Rattle.lq_terms.specs.Terms.{Terms, HasTerm, tree_of}
use Rattle.lq_terms.specs.Contexts.{HasAllOf, HasContext, context_of, hypothesis_of}
use Rattle.lq_solving.specs.Kept.{IsStore}
use Rattle.lq_solving.specs.Unification.{Unify, Answer, sides}
use Rattle.lq_solving.specs.Waiting.{parts, reducing}
use Rattle.lq_evars.specs.Places.{Places, store_of, HasStore}
use Rattle.lq_unify.specs.declared.pairs.Pair.{Pair}
use Rattle.lq_unify.specs.declared.pairs.Under.{Under}
use Rattle.lq_unify.specs.declared.frames.Parts.{Parts}
use Rattle.lq_unify.specs.declared.frames.Reducing.{Reducing}
use Rattle.lq_unify.specs.declared.frames.Frame.{Frame}
use Rattle.lq_unify.specs.declared.resuming.Next.{Next}
use Rattle.lq_unify.specs.Pairs.{pairs_in, HasPair}
use Rattle.lq_unify.specs.Forms.{under_in, HasUnder, HasForm}
use Rattle.lq_unify.specs.Standing.{SidesStand, AllStand}
use Rattle.lq_unify.specs.Working.{IsAnswered, IsAsked, IsReducing}
use Rattle.lq_unify.specs.Frames.{with_values, sides_in, parts_in, waits, AreNested, WaitingStand, IsWork, IsSince, answer_of, mark_of}
use Rattle.lq_unify.specs.Turns.{IsNext, HasAnswer, Goes}
use Rattle.lq_unify.proofs.ApplicationLaws.{all_take}
use Rattle.lq_unify.proofs.SpineLaws.{all_push}
use Rattle.lq_unify.proofs.FrameLaws.{same_shorter, waits_hypotheses, waits_values, nested_more, waiting_keep}
use Rattle.lq_unify.proofs.StepLaws.{next_is, none_left, skipped, passed, goes_back}

-- ---- what is nearest takes its hypotheses alone

pub full : (m : ℕ) (hs : List Hypothesis) → m ≡ length hs → take m hs ≡ hs
full m hs e = ap (λ n. take n hs) e ∙ take-length hs

module _ (bank : Terms) (s : Places) (hs : List Hypothesis) (fs : List Frame) where
  marked : (f : Frame) (v m : ℕ) → AreNested v m (f ∷ fs) → mark_of f ≤ m
  marked (Frame.Parts p) v m h = h.0
  marked (Frame.Reducing r) v m h = h.0

  remarked : (f : Frame) (v m n : ℕ) → mark_of f ≤ n → AreNested v m (f ∷ fs) → AreNested v n (f ∷ fs)
  remarked (Frame.Parts p) v m n l h = (l, h.1)
  remarked (Frame.Reducing r) v m n l h = (l, h.1, h.2)

  module _ (f : Frame) (w : IsWork bank s hs (f ∷ fs)) where
    pub short_length : mark_of f ≡ length (take (mark_of f) hs)
    short_length = sym (length-take-le (mark_of f) hs (marked f (length s.values) (length hs) w.nested))

    short_waits : waits bank s (take (mark_of f) hs) (f ∷ fs) ≡ waits bank s hs (f ∷ fs)
    short_waits = waits_hypotheses bank s hs (take (mark_of f) hs) (length s.values) (mark_of f) (f ∷ fs) (same_shorter (mark_of f) hs) (remarked f (length s.values) (length hs) (mark_of f) (omega arith) w.nested)

    pub short_work : IsWork bank s (take (mark_of f) hs) (f ∷ fs)
    short_work = record {
      store = w.store;
      kept = w.kept;
      context = all_take (HasAllOf bank) (mark_of f) hs w.context;
      frames = w.frames;
      nested = remarked f (length s.values) (length hs) (length (take (mark_of f) hs)) (omega (arith, short_length)) w.nested;
      stand = along (WaitingStand (store_of bank s)) (sym short_waits) w.stand;
    }

    pub short_answer : (r : Rules) (g : ℕ → Unify Answer) (b l : ℕ) (said : Bool) → HasAnswer r g b l bank s hs (f ∷ fs) said → HasAnswer r g b l bank s (take (mark_of f) hs) (f ∷ fs) said
    short_answer r g b l said h = along (λ z. IsAnswered r g b l (store_of bank s) z (answer_of bank s said)) (sym short_waits) h

-- ---- parts

module _ (bank : Terms) (s : Places) (hs : List Hypothesis) (fs : List Frame) where
  pub parts_wait : (p : Parts) → p.mark ≡ length hs → waits bank s hs (Frame.Parts p ∷ fs) ≡ parts (parts_in bank (context_of bank hs) p) ∷ waits bank s hs fs
  parts_wait p e = ap (λ z. parts (parts_in bank (context_of bank z) p) ∷ waits bank s z fs) (full p.mark hs e)

  module _ (p : Parts) (e : p.mark ≡ length hs) (w : IsWork bank s hs (Frame.Parts p ∷ fs)) where
    parts_stand : AllStand (store_of bank s) (parts_in bank (context_of bank hs) p) × WaitingStand (store_of bank s) (waits bank s hs fs)
    parts_stand = along (WaitingStand (store_of bank s)) (parts_wait p e) w.stand

    pub parts_off : IsWork bank s hs fs
    parts_off = record {
      store = w.store;
      kept = w.kept;
      context = w.context;
      frames = w.frames.1;
      nested = nested_more (length s.values) (length s.values) p.mark (length hs) fs (omega arith) (omega (arith, e)) w.nested.1;
      stand = parts_stand.1;
    }

    -- a No
    pub parts_no : (r : Rules) (f : ℕ → Unify Answer) (b l : ℕ) → HasAnswer r f b l bank s hs (Frame.Parts p ∷ fs) false → HasAnswer r f b l bank s hs fs false
    parts_no r f b l h = skipped r f b l (store_of bank s) (parts_in bank (context_of bank hs) p) (waits bank s hs fs) (along (λ z. IsAnswered r f b l (store_of bank s) z None) (parts_wait p e) h)

    -- a pair more
    module _ (d : Pair) (below : p.next < length p.form.pairs.items) (q : Parts) (mark : q.mark ≡ p.mark) (next : q.next ≡ p.next + 1) (form : q.form ≡ p.form) where
      abbrev pub pair : Pair
      pair = get_or p.form.pairs.items p.next d

      parts_more : parts_in bank (context_of bank hs) p ≡ sides_in bank hs pair ∷ parts_in bank (context_of bank hs) q
      parts_more =
          ap (λ z. pairs_in bank (context_of bank hs) z ++ under_in bank (context_of bank hs) p.form.under) (drop_more p.form.pairs.items p.next d below)
          ∙ ap₂ (λ n z. sides_in bank hs pair ∷ pairs_in bank (context_of bank hs) (drop n z.pairs.items) ++ under_in bank (context_of bank hs) z.under) (sym next) (sym form)

      more_stand : SidesStand (store_of bank s) (sides_in bank hs pair) × AllStand (store_of bank s) (parts_in bank (context_of bank hs) q)
      more_stand = along (AllStand (store_of bank s)) parts_more parts_stand.0

      pub pair_next : IsNext bank s hs (Frame.Parts q ∷ fs) (Next.Ask pair)
      pair_next = record {
        work = record {
          store = w.store;
          kept = w.kept;
          context = w.context;
          frames = (along (HasForm bank) (sym form) w.frames.0, w.frames.1);
          nested = (omega (arith, mark, e), along (λ m. AreNested (length s.values) m fs) (sym mark) w.nested.1);
          stand = along (WaitingStand (store_of bank s)) (sym (parts_wait q (mark ∙ e))) (more_stand.1, parts_stand.1);
        };
        stands = record { has = pair_there p.form.pairs.items p.next w.frames.0.pairs below; stands = more_stand.0 };
      }
        where
          pair_there : (ps : List Pair) (i : ℕ) → AllByRecursion (HasPair bank) ps → i < length ps → HasPair bank (get_or ps i d)
          pair_there [] i h l = absurd (omega arith)
          pair_there (x ∷ xs) zero h l = h.0
          pair_there (x ∷ xs) (suc i) h l = pair_there xs i h.1 (omega arith)

      pub pair_goes : (r : Rules) (f : ℕ → Unify Answer) (b l : ℕ) → HasAnswer r f b l bank s hs (Frame.Parts p ∷ fs) true → Goes r f b l bank s hs (Frame.Parts q ∷ fs) (Next.Ask pair)
      pair_goes r f b l h =
          along (λ z. IsAsked r f b l (store_of bank s) z (sides_in bank hs pair)) (sym (parts_wait q (mark ∙ e)))
          (next_is r f b l (store_of bank s) (sides_in bank hs pair) (parts_in bank (context_of bank hs) q) (waits bank s hs fs)
          (along (λ z. IsAnswered r f b l (store_of bank s) z (Some (store_of bank s))) (parts_wait p e ∙ ap (λ z. parts z ∷ waits bank s hs fs) parts_more) h))

    -- no pair is left
    module _ (above : length p.form.pairs.items ≤ p.next) where
      last_parts : parts_in bank (context_of bank hs) p ≡ under_in bank (context_of bank hs) p.form.under
      last_parts = ap (λ z. pairs_in bank (context_of bank hs) z ++ under_in bank (context_of bank hs) p.form.under) (drop_of_length-le p.form.pairs.items above)

      pub parts_done : (r : Rules) (f : ℕ → Unify Answer) (b l : ℕ) → p.form.under ≡ None → HasAnswer r f b l bank s hs (Frame.Parts p ∷ fs) true → HasAnswer r f b l bank s hs fs true
      parts_done r f b l u h =
          none_left r f b l (store_of bank s) (waits bank s hs fs)
          (along (λ z. IsAnswered r f b l (store_of bank s) z (Some (store_of bank s))) (parts_wait p e ∙ ap (λ z. parts z ∷ waits bank s hs fs) (last_parts ∙ ap (under_in bank (context_of bank hs)) u)) h)

      -- what is under a binder
      module _ (u : Under) (is : p.form.under ≡ Some u) (js : List Hypothesis) (behind : js ≡ hs ++ u.variable ∷ []) (q : Parts) (mark : q.mark ≡ p.mark) (next : q.next ≡ p.next) (pairs : q.form.pairs.items ≡ p.form.pairs.items) (under : q.form.under ≡ None) where
        longer : context_of bank js ≡ context_of bank hs ++ (hypothesis_of bank u.variable ∷ [])
        longer = ap (context_of bank) behind ∙ map-append (hypothesis_of bank) hs (u.variable ∷ [])

        under_parts : parts_in bank (context_of bank hs) p ≡ sides_in bank js u.pair ∷ []
        under_parts = last_parts ∙ ap (under_in bank (context_of bank hs)) is ∙ ap (λ z. sides z (tree_of bank u.pair.left) (tree_of bank u.pair.right) ∷ []) (sym longer)

        under_wait : waits bank s js (Frame.Parts q ∷ fs) ≡ parts [] ∷ waits bank s hs fs
        under_wait =
            ap (λ z. parts (parts_in bank (context_of bank z) q) ∷ waits bank s z fs) (ap₂ (λ m z. take m z) mark behind ∙ take-append-le p.mark hs (u.variable ∷ []) (omega (arith, e)) ∙ full p.mark hs e)
            ∙ ap₂ (λ y z. parts (pairs_in bank (context_of bank hs) y ++ under_in bank (context_of bank hs) z) ∷ waits bank s hs fs) (ap₂ (λ m z. drop m z) next pairs ∙ drop_of_length-le p.form.pairs.items above) under

        under_there : HasUnder bank (Some u)
        under_there = along (HasUnder bank) is w.frames.0.under

        pub under_next : IsNext bank s js (Frame.Parts q ∷ fs) (Next.Ask u.pair)
        under_next = record {
          work = record {
            store = w.store;
            kept = w.kept;
            context = along (HasContext bank) (sym behind) (all_push (HasAllOf bank) hs u.variable w.context under_there.0);
            frames = (record { pairs = along (AllByRecursion (HasPair bank)) (sym pairs) w.frames.0.pairs; under = along (HasUnder bank) (sym under) tt }, w.frames.1);
            nested = (omega (arith, mark, e, many), along (λ m. AreNested (length s.values) m fs) (sym mark) w.nested.1);
            stand = along (WaitingStand (store_of bank s)) (sym under_wait) (tt, parts_stand.1);
          };
          stands = record { has = under_there.1; stands = (along (AllStand (store_of bank s)) under_parts parts_stand.0).0 };
        }
          where
            many : length js ≡ length hs + 1
            many = ap length behind ∙ length-append hs (u.variable ∷ [])

        pub under_goes : (r : Rules) (f : ℕ → Unify Answer) (b l : ℕ) → HasAnswer r f b l bank s hs (Frame.Parts p ∷ fs) true → Goes r f b l bank s js (Frame.Parts q ∷ fs) (Next.Ask u.pair)
        under_goes r f b l h =
            along (λ z. IsAsked r f b l (store_of bank s) z (sides_in bank js u.pair)) (sym under_wait)
            (next_is r f b l (store_of bank s) (sides_in bank js u.pair) [] (waits bank s hs fs)
            (along (λ z. IsAnswered r f b l (store_of bank s) z (Some (store_of bank s))) (parts_wait p e ∙ ap (λ z. parts z ∷ waits bank s hs fs) under_parts) h))

  -- ---- a call that may go to weak head forms

  module _ (q : Reducing) (e : q.mark ≡ length hs) (w : IsWork bank s hs (Frame.Reducing q ∷ fs)) where
    -- the store of that call
    abbrev old : Places
    old = with_values q.given s

    pub reducing_wait : waits bank s hs (Frame.Reducing q ∷ fs) ≡ reducing (context_of bank hs) (store_of bank old) (tree_of bank q.pair.left) (tree_of bank q.pair.right) ∷ waits bank old hs fs
    reducing_wait = ap (λ z. reducing (context_of bank z) (store_of bank old) (tree_of bank q.pair.left) (tree_of bank q.pair.right) ∷ waits bank old z fs) (full q.mark hs e)

    reducing_stand : WaitingStand (store_of bank s) (reducing (context_of bank hs) (store_of bank old) (tree_of bank q.pair.left) (tree_of bank q.pair.right) ∷ waits bank old hs fs)
    reducing_stand = along (WaitingStand (store_of bank s)) reducing_wait w.stand

    same_values : waits bank old hs fs ≡ waits bank s hs fs
    same_values = waits_values bank s old hs q.given q.mark fs refl (same_shorter q.given s.values) w.nested.2

    -- it went well
    pub passed_next : IsNext bank s hs fs (Next.Answer true)
    passed_next = record {
      work = record {
        store = w.store;
        kept = w.kept;
        context = w.context;
        frames = w.frames.1;
        nested = nested_more q.given (length s.values) q.mark (length hs) fs w.nested.1 (omega (arith, e)) w.nested.2;
        stand = along (WaitingStand (store_of bank s)) same_values (waiting_keep reducing_stand.1 reducing_stand.0 (waits bank old hs fs) reducing_stand.3);
      };
      stands = tt;
    }

    pub passed_goes : (r : Rules) (f : ℕ → Unify Answer) (b l : ℕ) → HasAnswer r f b l bank s hs (Frame.Reducing q ∷ fs) true → Goes r f b l bank s hs fs (Next.Answer true)
    passed_goes r f b l h =
        along (λ z. IsAnswered r f b l (store_of bank s) z (Some (store_of bank s))) same_values
        (passed r f b l (store_of bank s) (store_of bank old) (context_of bank hs) (tree_of bank q.pair.left) (tree_of bank q.pair.right) (waits bank old hs fs) reducing_stand.0
        (along (λ z. IsAnswered r f b l (store_of bank s) z (Some (store_of bank s))) reducing_wait h))

    -- it goes back
    module _ (t : Places) (back : t ≡ old) where
      many : length t.values ≡ q.given
      many = ap (λ z. length z.values) back ∙ length-take-le q.given s.values w.nested.1

      pub back_next : IsNext bank t hs fs (Next.Reduce q.pair)
      back_next = record {
        work = record {
          store = along (HasStore bank) (sym back) (record { variables = w.store.variables; values = all_take (λ a. HasTerm bank a.1) q.given s.values w.store.values });
          kept = along (λ z. IsStore (store_of bank z)) (sym back) reducing_stand.0;
          context = w.context;
          frames = w.frames.1;
          nested = nested_more q.given (length t.values) q.mark (length hs) fs (omega (arith, many)) (omega (arith, e)) w.nested.2;
          stand = along (λ z. WaitingStand (store_of bank z) (waits bank z hs fs)) (sym back) reducing_stand.3;
        };
        stands = record { has = w.frames.0; stands = along (λ z. SidesStand (store_of bank z) (sides_in bank hs q.pair)) (sym back) reducing_stand.2 };
      }

      pub back_goes : (r : Rules) (f : ℕ → Unify Answer) (b l : ℕ) → HasAnswer r f b l bank s hs (Frame.Reducing q ∷ fs) false → Goes r f b l bank t hs fs (Next.Reduce q.pair)
      back_goes r f b l h =
          along (λ z. IsReducing r f b l (store_of bank z) (waits bank z hs fs) (sides_in bank hs q.pair)) (sym back)
          (goes_back r f b l (store_of bank s) (store_of bank old) (context_of bank hs) (tree_of bank q.pair.left) (tree_of bank q.pair.right) (waits bank old hs fs)
          (along (λ z. IsAnswered r f b l (store_of bank s) z None) reducing_wait h))

-- ---- older stores

pub since_pop : (before s : Places) (f : Frame) (fs : List Frame) → IsSince before s (f ∷ fs) → IsSince before s fs
since_pop before s f fs h = record { more = h.more; keep = h.keep.1 }

pub since_as : (before s : Places) (f g : Frame) (fs : List Frame) → f ≡ g → IsSince before s (f ∷ fs) → IsSince before s (g ∷ fs)
since_as before s f g fs e h = along (λ z. IsSince before s (z ∷ fs)) e h

pub since_back : (before s t : Places) (q : Reducing) (fs : List Frame) → t.variables ≡ s.variables → t.values ≡ take q.given s.values → IsSince before s (Frame.Reducing q ∷ fs) → IsSince before t fs
since_back before s t q fs e f h = record {
  more = record {
    variables = e ∙ h.more.variables;
    more = take (q.given - length before.values) h.more.more;
    values = f ∙ ap (take q.given) h.more.values ∙ behind before.values h.more.more q.given (q.given - length before.values) (omega (arith, h.keep.0));
  };
  keep = h.keep.1;
}
  where
    behind : {A : Type 0} (xs ys : List A) (n k : ℕ) → n ≡ length xs + k → take n (xs ++ ys) ≡ xs ++ take k ys
    behind [] ys n k e = ap (λ m. take m ys) (omega (arith, e))
    behind (x ∷ xs) ys zero k e = absurd (omega (arith, e))
    behind (x ∷ xs) ys (suc n) k e = ap (λ zs. x ∷ zs) (behind xs ys n k (omega (arith, e)))

pub places_back : (s t : Places) (n : ℕ) → t.variables ≡ s.variables → t.values ≡ take n s.values → t ≡ with_values n s
places_back s t n e f = ap₂ (λ a b. record { variables = a; values = b }) e f

-- ---- the newest hypotheses are taken away

pub pop_keeps : (o : Option Hypothesis) (m : ℕ) (xs ys : List Hypothesis) → MatchOption o ((xs ≡ []) × (ys ≡ [])) (λ h. xs ≡ ys ++ h ∷ []) → m < length xs → take m ys ≡ take m xs
pop_keeps None m xs ys e l = absurd (omega (arith, l, ap length e.0))
pop_keeps (Some h) m xs ys e l = sym (ap (take m) e ∙ take-append-le m ys (h ∷ []) (omega (arith, l, ap length e, length-append ys (h ∷ []))))

pub pop_shorter : (o : Option Hypothesis) (m : ℕ) (xs ys : List Hypothesis) → MatchOption o ((xs ≡ []) × (ys ≡ [])) (λ h. xs ≡ ys ++ h ∷ []) → m < length xs → length ys < length xs
pop_shorter None m xs ys e l = absurd (omega (arith, l, ap length e.0))
pop_shorter (Some h) m xs ys e l = omega (arith, ap length e, length-append ys (h ∷ []))

pub shortened : (m : ℕ) (xs ys : List Hypothesis) → length xs ≤ m → take m xs ≡ take m ys → xs ≡ take m ys
shortened m xs ys l e = sym (take_all m xs l) ∙ e

-- ---- the hypotheses of what is nearest

module _ (bank : Terms) (s : Places) (hs js : List Hypothesis) (fs : List Frame) (frame f : Frame) (i : frame ≡ f) (j : js ≡ take (mark_of f) hs) (w : IsWork bank s hs (frame ∷ fs)) where
  as_frame : IsWork bank s hs (f ∷ fs)
  as_frame = along (λ z. IsWork bank s hs (z ∷ fs)) i w

  pub shorter_mark : mark_of f ≡ length js
  shorter_mark = short_length bank s hs fs f as_frame ∙ ap length (sym j)

  pub shorter_work : IsWork bank s js (f ∷ fs)
  shorter_work = along (λ z. IsWork bank s z (f ∷ fs)) (sym j) (short_work bank s hs fs f as_frame)

  pub shorter_answer : (r : Rules) (g : ℕ → Unify Answer) (b l : ℕ) (said y : Bool) → said ≡ y → HasAnswer r g b l bank s hs (frame ∷ fs) said → HasAnswer r g b l bank s js (f ∷ fs) y
  shorter_answer r g b l said y e h =
      along (λ z. HasAnswer r g b l bank s z (f ∷ fs) y) (sym j)
      (short_answer bank s hs fs f as_frame r g b l y (along (λ z. HasAnswer r g b l bank s hs (z ∷ fs) y) i (along (HasAnswer r g b l bank s hs (frame ∷ fs)) e h)))

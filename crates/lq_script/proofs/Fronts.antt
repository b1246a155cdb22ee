-- Fronts of lists of bytes, told or not.
use Rattle.std.proofs.Common.{◌≡◌, ℕ, ◌+◌, ◌-◌, ◌≤◌, List, ◌++◌, length, take, drop, None, Some, Option, sym, ◌∙◌, ap, arith, subst, append-nil, length-append, length-drop, Result, Ok, Err, OnErr}
use Rattle.std.proofs.Math.Seq.{take-add, take-append_seam, drop-append_seam}
use Rattle.std.proofs.lemmas.List.{drop_all, take_all}
use Rattle.std.proofs.KnownBytes.{Appends-trans, Consumes-trans}
use Rattle.std.specs.Io.KnownBytes.{Appends, Consumes, IsAtEnd}
use Rattle.lq_script.specs.Transfer.{LosesFront, ReadsFront}

-- as many bytes as may be read are the first of all
pub front_full : (limit : ℕ) (before after : Option (List ℕ)) (bytes : List ℕ) → Consumes before after bytes → length bytes ≡ limit → ReadsFront limit before after bytes
front_full limit None after bytes gone full = tt
front_full limit (Some left) None bytes gone full = absurd gone
front_full limit (Some left) (Some rest) bytes gone full = (
  sym (ap (λ n. take n left) (sym full) ∙ ap (take (length bytes)) gone ∙ take-append_seam bytes rest),
  sym (ap (λ n. drop n left) (sym full) ∙ ap (drop (length bytes)) gone ∙ drop-append_seam bytes rest),
)

-- where nothing is left, all bytes were read
pub front_ended : (limit : ℕ) (before after : Option (List ℕ)) (bytes : List ℕ) → Consumes before after bytes → length bytes ≤ limit → IsAtEnd after → ReadsFront limit before after bytes
front_ended limit None after bytes gone within end = tt
front_ended limit (Some left) None bytes gone within end = absurd gone
front_ended limit (Some left) (Some rest) bytes gone within end =
    let whole : left ≡ bytes = gone ∙ ap (λ r. bytes ++ r) end ∙ append-nil bytes in
    (sym (ap (take limit) whole ∙ take_all limit bytes within), end ∙ sym (ap (drop limit) whole ∙ drop_all limit bytes within))

-- what was lost behind what was read
pub loses_more : (limit room : ℕ) (before now after : Option (List ℕ)) (bytes : List ℕ) → Consumes before now bytes → length bytes + room ≤ limit → LosesFront room now after → LosesFront limit before after
loses_more limit room before now after bytes gone fits lost = record {
  bytes = bytes ++ lost.bytes;
  bound = omega (arith, length-append bytes lost.bytes, lost.bound);
  gone = Consumes-trans before now after bytes lost.bytes gone lost.gone;
}

-- one more piece behind those that were written
pub appends_more : (before now after : Option (List ℕ)) (bytes : List ℕ) (written count : ℕ) → Appends before now (take written bytes)
    → Appends now after (take count (take (length bytes - written) (drop written bytes))) → Appends before after (take (written + count) bytes)
appends_more before now after bytes written count first next =
    let rest = drop written bytes in
    let all : take (length bytes - written) rest ≡ rest = take_all (length bytes - written) rest (omega (arith, length-drop written bytes)) in
    let more : Appends now after (take count rest) = rw all at next in
    subst (Appends before after) (sym (take-add written count bytes)) (Appends-trans before now after _ _ first more)

-- one more piece behind what was read
pub reads_more : (before now after : Option (List ℕ)) (script bytes next : List ℕ) → Consumes before now script → Consumes now after bytes
    → next ≡ script ++ bytes → Consumes before after next
reads_more before now after script bytes next first more is =
    subst (Consumes before after) (sym is) (Consumes-trans before now after script bytes first more)

-- a fact holds at `Err` too
pub on_err : {T E : Type 0} (r : Result T E) (P : Type 0) → P → OnErr r P
on_err (Ok x) P p = tt
on_err (Err e) P p = p

use Rattle.std.proofs.Common.{map, drop}
use Rattle.lq_terms.specs.Terms.{text_of}
use Rattle.lq_words.specs.Looks.{EachStands}
use Rattle.lq_words.proofs.written.all_stand.Given as goal

-- all stand, if those do that are left
abbrev pub invariant-loop-constructor : goal.invariant-loop-constructor
invariant-loop-constructor l = EachStands l.bank (map (text_of l.bank) l.names) (drop l.constructor-index l.constructors) → EachStands l.bank (map (text_of l.bank) l.names) l.constructors

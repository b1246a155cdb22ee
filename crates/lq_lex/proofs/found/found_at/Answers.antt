use Rattle.std.proofs.Common.{refl}
use Rattle.lq_grammar.specs.Tokens.{found_at}
use Rattle.lq_lex.proofs.found.found_at.Goals as goal

pub returns-in-Blank : goal.returns-in-Blank
unfolding found_at
returns-in-Blank c = rw c.in-Blank.is (refl, c.requires.within)

pub returns-in-Comment : goal.returns-in-Comment
unfolding found_at
returns-in-Comment c = rw c.in-Comment.is c.comment.ensures

pub returns-in-Bullet : goal.returns-in-Bullet
unfolding found_at
returns-in-Bullet c = rw c.in-Bullet.is c.bullet.ensures

pub returns-in-Text : goal.returns-in-Text
unfolding found_at
returns-in-Text c = rw c.in-Text.is c.string.ensures

pub returns-in-Number : goal.returns-in-Number
unfolding found_at
returns-in-Number c = rw (c.in-Number.is, ← c.requires.here) c.number.ensures

pub returns-in-Name : goal.returns-in-Name
unfolding found_at
returns-in-Name c = rw c.in-Name.is c.name.ensures

pub returns-in-Symbol : goal.returns-in-Symbol
unfolding found_at
returns-in-Symbol c = rw c.in-Symbol.is c.symbol.ensures

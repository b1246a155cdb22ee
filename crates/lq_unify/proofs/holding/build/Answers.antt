use Rattle.lq_unify.proofs.holding.build.Goals as goal

pub note-requires-clause-known : goal.note-requires-clause-known
note-requires-clause-known c = c.requires.known.held

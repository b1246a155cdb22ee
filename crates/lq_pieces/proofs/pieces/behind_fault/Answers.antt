use Rattle.std.proofs.Common.{length}
use Rattle.lq_grammar.specs.declared.fault.LexFault.TheVariants.{BadChar, OpenComment, OpenString, BadNumber}
use Rattle.lq_grammar.specs.Cutting.{next}
use Rattle.lq_pieces.proofs.PieceLaws.{as_fault, open_rest, fault_counts}
use Rattle.lq_pieces.proofs.pieces.behind_fault.Goals as goal

pub returns-in-BadChar-clause-comes : goal.returns-in-BadChar-clause-comes
returns-in-BadChar-clause-comes c = λ h. open_rest c.args.text.now c.args.from c.rest_piece.result (fault_counts c.args.text.now (BadChar c.in-BadChar.field-0) (next c.args.text.now c.args.from) (as_fault _ _ (next c.args.text.now c.args.from) c.in-BadChar.is h)) c.rest_piece.ensures.comes

pub returns-in-OpenComment-clause-comes : goal.returns-in-OpenComment-clause-comes
returns-in-OpenComment-clause-comes c = λ h. open_rest c.args.text.now c.args.from c.rest_piece-in-OpenComment.result (fault_counts c.args.text.now (OpenComment c.in-OpenComment.field-0) (next c.args.text.now c.args.from) (as_fault _ _ (next c.args.text.now c.args.from) c.in-OpenComment.is h)) c.rest_piece-in-OpenComment.ensures.comes

pub returns-in-OpenString-clause-comes : goal.returns-in-OpenString-clause-comes
returns-in-OpenString-clause-comes c = λ h. open_rest c.args.text.now c.args.from c.rest_piece-in-OpenString.result (fault_counts c.args.text.now (OpenString c.in-OpenString.field-0) (next c.args.text.now c.args.from) (as_fault _ _ (next c.args.text.now c.args.from) c.in-OpenString.is h)) c.rest_piece-in-OpenString.ensures.comes

pub returns-in-BadNumber-clause-comes : goal.returns-in-BadNumber-clause-comes
returns-in-BadNumber-clause-comes c = λ h. open_rest c.args.text.now c.args.from c.rest_piece-in-BadNumber.result (fault_counts c.args.text.now (BadNumber c.in-BadNumber.field-0) (next c.args.text.now c.args.from) (as_fault _ _ (next c.args.text.now c.args.from) c.in-BadNumber.is h)) c.rest_piece-in-BadNumber.ensures.comes

pub returns-in-BadChar-clause-lies : goal.returns-in-BadChar-clause-lies
returns-in-BadChar-clause-lies c = c.rest_piece.ensures.lies c.args.from (length c.args.text.now)

pub returns-in-OpenComment-clause-lies : goal.returns-in-OpenComment-clause-lies
returns-in-OpenComment-clause-lies c = c.rest_piece-in-OpenComment.ensures.lies c.args.from (length c.args.text.now)

pub returns-in-OpenString-clause-lies : goal.returns-in-OpenString-clause-lies
returns-in-OpenString-clause-lies c = c.rest_piece-in-OpenString.ensures.lies c.args.from (length c.args.text.now)

pub returns-in-BadNumber-clause-lies : goal.returns-in-BadNumber-clause-lies
returns-in-BadNumber-clause-lies c = c.rest_piece-in-BadNumber.ensures.lies c.args.from (length c.args.text.now)

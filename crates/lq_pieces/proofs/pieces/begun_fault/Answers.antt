use Rattle.lq_pieces.proofs.PieceLaws.{as_stop, as_answer, ended_comes, unexpected_comes, nested_comes, long_comes}
use Rattle.lq_pieces.proofs.pieces.begun_fault.Goals as goal

pub returns-in-EndInside-clause-comes : goal.returns-in-EndInside-clause-comes
returns-in-EndInside-clause-comes c = λ r h. ended_comes c.in-EndInside.field-0 r (as_answer _ _ r c.in-EndInside.is h)

pub returns-in-Unexpected-clause-comes : goal.returns-in-Unexpected-clause-comes
returns-in-Unexpected-clause-comes c = λ r h. as_stop _ _ _ c.from.ensures (unexpected_comes c.in-Unexpected.place r (as_answer _ _ r c.in-Unexpected.is h))

pub returns-in-TooNested-clause-comes : goal.returns-in-TooNested-clause-comes
returns-in-TooNested-clause-comes c = λ r h. as_stop _ _ _ c.from-in-TooNested.ensures (nested_comes c.in-TooNested.place r (as_answer _ _ r c.in-TooNested.is h))

pub returns-in-SentenceTooLong-clause-comes : goal.returns-in-SentenceTooLong-clause-comes
returns-in-SentenceTooLong-clause-comes c = λ r h. as_stop _ _ _ c.from-in-SentenceTooLong.ensures (long_comes c.in-SentenceTooLong.place r (as_answer _ _ r c.in-SentenceTooLong.is h))

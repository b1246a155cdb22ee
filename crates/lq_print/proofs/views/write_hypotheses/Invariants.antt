use Rattle.std.proofs.Common.{◌≡◌, ◌++◌, take}
use Rattle.std.specs.Prelude.{flat_map}
use Rattle.std.specs.String.{string_bytes}
use Rattle.lq_terms.specs.Contexts.{context_of}
use Rattle.lq_env.specs.Environments.{env_of}
use Rattle.lq_texts.specs.Views.{hypothesis_line}
use Rattle.lq_print.proofs.views.write_hypotheses.Given as goal

abbrev pub invariant-loop-hypothesis : goal.invariant-loop-hypothesis
invariant-loop-hypothesis l =
    string_bytes l.out ≡ string_bytes l.fn.out ++ flat_map (hypothesis_line (env_of l.bank l.env)) (context_of l.bank (take l.hypothesis-index l.hypotheses))

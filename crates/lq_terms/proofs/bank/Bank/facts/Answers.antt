use Rattle.std.proofs.Common.{◌≡◌, arith}
use Rattle.lq_terms.specs.Terms.{tree_of}
use Rattle.lq_terms.specs.Facts.{facts_of}
use Rattle.lq_terms.proofs.Banks.{facts_kept}
use Rattle.lq_terms.proofs.Depths.{kept_small}
use Rattle.lq_terms.proofs.bank.Bank.facts.Goals as goal

pub returns-clause-facts : goal.returns-clause-facts
returns-clause-facts c =
    facts_kept _ c.self.inside.entries.entries c.self.invariant.0 c.args.self.now c.args.term c.index.result.now c.self.view_is c.index.ensures

pub returns-clause-small : goal.returns-clause-small
returns-clause-small c =
    let kept : c.index.result.now.facts ≡ facts_of (tree_of c.args.self.now c.args.term) =
    facts_kept _ c.self.inside.entries.entries c.self.invariant.0 c.args.self.now c.args.term c.index.result.now c.self.view_is c.index.ensures in
    kept_small _ c.self.inside.entries.entries c.self.invariant.0 c.args.self.now c.self.view_is c.args.term c.requires (omega (arith, c.len-entries.ensures.len, c.len-entries.ensures.small)) c.index.result.now kept

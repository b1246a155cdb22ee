use Rattle.std.proofs.Common.{◌≡◌, Ok, sym}
use Rattle.std.proofs.Common.{subst as along}
use Rattle.lq_terms.specs.Terms.{tree_of}
use Rattle.lq_solving.specs.Stores.{assigned}
use Rattle.lq_solving.specs.Kept.{IsStore}
use Rattle.lq_evars.specs.Places.{store_of, HasStore}
use Rattle.lq_evars.proofs.Given.{no_value, given_stands, given_has, given_fits, gives_fault}
use Rattle.lq_evars.proofs.store.Store.assign.Goals as goal

pub returns-in-Err-clause-told : goal.returns-in-Err-clause-told
returns-in-Err-clause-told c =
    gives_fault c.args.bank.now c.read.new.bank c.args.self.now c.args.id c.args.body c.read.ensures.grows c.requires.store c.requires.kept c.requires.body c.requires.value c.args.self.now _ c.in-Err.ensures.answer

pub put_value-requires : goal.put_value-requires
put_value-requires c = no_value c.args.bank.now c.read.new.bank c.args.self.now c.args.id c.args.body c.read.ensures.grows c.requires.store c.requires.kept c.requires.body c.requires.value

pub returns-in_ok-put_value-in-Ok-clause-told : goal.returns-in_ok-put_value-in-Ok-clause-told
returns-in_ok-put_value-in-Ok-clause-told c =
    along (λ s. assigned (store_of c.args.bank.now c.args.self.now) c.args.id (tree_of c.args.bank.now c.args.body) ≡ Ok (store_of c.read.new.bank s)) (sym c.in_ok-put_value-in-Ok.ensures.given)
    (given_fits c.args.bank.now c.read.new.bank c.args.self.now c.args.id c.args.body c.read.ensures.grows c.requires.store c.requires.kept c.requires.body c.requires.value _ c.in-Ok.ensures.answer.1)

pub returns-in_ok-put_value-in-Ok-clause-stands : goal.returns-in_ok-put_value-in-Ok-clause-stands
returns-in_ok-put_value-in-Ok-clause-stands c =
    along (λ s. IsStore (store_of c.read.new.bank s)) (sym c.in_ok-put_value-in-Ok.ensures.given) (given_stands c.args.bank.now c.read.new.bank c.args.self.now c.args.id c.args.body c.read.ensures.grows c.requires.store c.requires.kept c.requires.body c.requires.value)

pub returns-in_ok-put_value-in-Ok-clause-has : goal.returns-in_ok-put_value-in-Ok-clause-has
returns-in_ok-put_value-in-Ok-clause-has c =
    along (HasStore c.read.new.bank) (sym c.in_ok-put_value-in-Ok.ensures.given) (given_has c.args.bank.now c.read.new.bank c.args.self.now c.args.id c.args.body c.read.ensures.grows c.requires.store c.requires.kept c.requires.body c.requires.value)

use Rattle.std.proofs.Common.{[], get_or, Ok, Err}
use Rattle.lq_terms.specs.declared.nodes.NameId.{NameId}
use Rattle.lq_terms.specs.declared.nodes.TermId.{TermId}
use Rattle.lq_terms.specs.Terms.{tree_of}
use Rattle.lq_terms.proofs.Growth.{Grows-trans}
use Rattle.lq_evars.specs.Places.{store_of}
use Rattle.lq_goals.proofs.Seeing.{all_at, readable_grown}
use Rattle.lq_goals.proofs.Viewing.{kept_grown}
use Rattle.lq_declaring.specs.Families.{CanReadIt}
use Rattle.lq_declaring.proofs.ConstantLaws.{fits_first}
use Rattle.lq_declaring.proofs.FamilyLaws.{answers_grown, more_read, fit_more, unfit_at, each_read_of}
use Rattle.lq_declaring.proofs.families.each_read.Goals as goal

abbrev none : NameId × TermId
none = (record { place = 0 }, record { place = 0 })

pub read-requires-clause-kept : goal.read-requires-clause-kept
read-requires-clause-kept c = kept_grown c.args.bank.now c.loop-constructor.bank c.loop-constructor.invariant.grows c.args.store.now c.requires.store c.requires.kept

pub read-requires-clause-over : goal.read-requires-clause-over
read-requires-clause-over c =
    let can = all_at (CanReadIt c.args.bank.now c.args.store.now) c.args.constructors.now c.loop-constructor.constructor-index none c.loop-constructor-test.true c.requires.constructors in
    (readable_grown c.args.bank.now c.loop-constructor.bank c.loop-constructor.invariant.grows c.args.store.now c.requires.store (get_or c.args.constructors.now c.loop-constructor.constructor-index none).1 can.1).over

pub returns-in-Err-clause-read : goal.returns-in-Err-clause-read
returns-in-Err-clause-read c =
    let b0 = c.args.bank.now in
    let at = get_or c.args.constructors.now c.loop-constructor.constructor-index none in
    let can = all_at (CanReadIt b0 c.args.store.now) c.args.constructors.now c.loop-constructor.constructor-index none c.loop-constructor-test.true c.requires.constructors in
    unfit_at b0 c.loop-constructor.bank c.read.new.bank c.loop-constructor.invariant.grows c.in-Err.ensures.grows (store_of b0 c.args.store.now) c.requires.kept c.args.constructors.now c.loop-constructor.constructor-index none
    c.loop-constructor-test.true c.in-Err.fault
    (answers_grown b0 c.loop-constructor.bank c.read.new.bank c.loop-constructor.invariant.grows c.args.store.now c.requires.store at.1 can.1.has (Err c.in-Err.fault) c.in-Err.ensures.answer) c.loop-constructor.invariant.fit

pub loop-constructor-preserved : goal.loop-constructor-preserved
loop-constructor-preserved c =
    let b0 = c.args.bank.now in
    let loop = c.loop-constructor in
    let cs = c.args.constructors.now in
    let st = store_of b0 c.args.store.now in
    let at = get_or cs loop.constructor-index none in
    let can = all_at (CanReadIt b0 c.args.store.now) cs loop.constructor-index none c.loop-constructor-test.true c.requires.constructors in
    let answer = answers_grown b0 loop.bank c.read.new.bank loop.invariant.grows c.args.store.now c.requires.store at.1 can.1.has (Ok c.in-Ok.kind) c.in-Ok.ensures.answer in
    record {
      read =
          more_read b0 loop.bank c.read.new.bank loop.invariant.grows c.in-Ok.ensures.grows st c.requires.kept cs loop.constructor-index none c.loop-constructor-test.true loop.read c.push.new.self c.in-Ok.kind loop.invariant.read
          can.0 can.1.within (fits_first c.read.new.bank st c.in-Ok.kind (tree_of b0 at.1) [] answer).0 c.in_ok-push-in-Ok.ensures.ok;
      fit =
          fit_more b0 loop.bank c.read.new.bank loop.invariant.grows c.in-Ok.ensures.grows st c.requires.kept cs loop.constructor-index none c.loop-constructor-test.true c.in-Ok.kind answer loop.invariant.fit;
      grows = Grows-trans b0 loop.bank c.read.new.bank loop.invariant.grows c.in-Ok.ensures.grows;
    }

pub returns-clause-read : goal.returns-clause-read
returns-clause-read c =
    each_read_of c.args.bank.now c.loop-constructor.bank (store_of c.args.bank.now c.args.store.now) c.args.constructors.now c.loop-constructor.constructor-index c.loop-constructor.read c.loop-constructor-test.false
    c.loop-constructor.invariant.read c.loop-constructor.invariant.fit

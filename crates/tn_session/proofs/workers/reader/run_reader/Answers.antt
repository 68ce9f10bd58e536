use Rattle.std.proofs.{Common.{◌≡◌, arith, refl, None}, lemmas.Option.IfSome_then}
use Rattle.tn_cores.specs.{declared.messages.Message.TheVariants.ReadFailed, streams.Known.known_typing}
use Rattle.tn_session.proofs.{lemmas.workers.Readers.role, of_workers.Stopping.{stays_on, stays_here}}
use Rattle.tn_session.proofs.of_workers.Telling.{told_nothing, told_beside, told_one, told_none, told_end, told_all, told_stop, paid_end, paid_stop}
use Rattle.tn_session.proofs.workers.reader.run_reader.Goals as goal

pub loop-read-init : goal.loop-read-init
loop-read-init g c = (
  c.requires.mailbox.0,
  told_nothing c.args.part.now.who _ _ _ c.requires.mailbox.1,
  c.requires.credits,
  c.requires.stops,
  refl,
)

pub tell_beside-requires-clause-role : goal.tell_beside-requires-clause-role
tell_beside-requires-clause-role g c = role c.args.part.now.who _ _ c.loop-read.invariant.1.sent

pub say-requires-clause-role : goal.say-requires-clause-role
say-requires-clause-role g c =
    let known = known_typing g.Rd.Source.remaining g.Rd.Source.foretold g.Rd.Source.sizes g.Rd.Source.words g.Rd.Source.controls in
    let h = told_beside c.args.part.now.who _ _ (known c.tell_beside.new.reader) _ _ _ _ _ c.loop-read.invariant.1 c.in_ok-tell_beside.ensures.told in
    role c.args.part.now.who _ _ h.sent

pub is_stopped-requires : goal.is_stopped-requires
is_stopped-requires g c = record { seat = stays_here c.args.stops.now c.loop-read.stops c.loop-read.invariant.3 }

pub loop-read-preserved : goal.loop-read-preserved
loop-read-preserved g c =
    let known = known_typing g.Rd.Source.remaining g.Rd.Source.foretold g.Rd.Source.sizes g.Rd.Source.words g.Rd.Source.controls in
    let h = told_beside c.args.part.now.who _ _ (known c.tell_beside.new.reader) _ _ _ _ _ c.loop-read.invariant.1 c.in_ok-tell_beside.ensures.told in (
      c.say.ensures.seat,
      told_one c.args.part.now.who _ _ _ _ c.in-Bytes.text _ _ _ _ _ h c.in-Bytes.ensures.gives.0 c.in-Bytes.ensures.gives.1 c.in-Bytes.ensures.foretold
          c.in-Bytes.ensures.sizes c.in-Bytes.ensures.controls c.in-Bytes.ensures.words c.in_ok-take_credit-in-Bytes.ensures.taken
          c.in_ok-say-in-Bytes.ensures.said,
      c.take_credit.ensures.seat,
      stays_on c.args.stops.now c.loop-read.stops c.is_stopped.new.stops c.loop-read.invariant.3 c.is_stopped.ensures.stays,
      c.loop-read.invariant.4,
    )

pub loop-read-preserved-in-Again : goal.loop-read-preserved-in-Again
loop-read-preserved-in-Again g c =
    let known = known_typing g.Rd.Source.remaining g.Rd.Source.foretold g.Rd.Source.sizes g.Rd.Source.words g.Rd.Source.controls in
    let h = told_beside c.args.part.now.who _ _ (known c.tell_beside.new.reader) _ _ _ _ _ c.loop-read.invariant.1 c.in_ok-tell_beside.ensures.told in (
      c.tell_beside.ensures.seat,
      told_none c.args.part.now.who _ _ _ _ _ _ _ h c.in-Again.ensures.gives c.in-Again.ensures.foretold c.in-Again.ensures.sizes c.in-Again.ensures.controls
          c.in-Again.ensures.words,
      c.loop-read.invariant.2,
      c.loop-read.invariant.3,
      c.loop-read.invariant.4,
    )

pub returns-then-is_stopped-clause-sent : goal.returns-then-is_stopped-clause-sent
returns-then-is_stopped-clause-sent g c =
    let known = known_typing g.Rd.Source.remaining g.Rd.Source.foretold g.Rd.Source.sizes g.Rd.Source.words g.Rd.Source.controls in
    let h = told_beside c.args.part.now.who _ _ (known c.tell_beside.new.reader) _ _ _ _ _ c.loop-read.invariant.1 c.in_ok-tell_beside.ensures.told in
    IfSome_then c.say-then-is_stopped.result c.say-then-is_stopped.ensures.said
    (λ v f. told_stop c.args.part.now.who c.args.part.now.job _ _ _ (known c.read_piece.new.reader) _ c.in-Bytes.text _ _ _ _ _ h
    (c.is_stopped.ensures.told c.if-is_stopped.true) c.in-Bytes.ensures.gives.0 c.in-Bytes.ensures.gives.1 c.in_ok-say-in-Bytes.ensures.said f)

pub tell_end-requires-clause-role : goal.tell_end-requires-clause-role
tell_end-requires-clause-role g c =
    let known = known_typing g.Rd.Source.remaining g.Rd.Source.foretold g.Rd.Source.sizes g.Rd.Source.words g.Rd.Source.controls in
    let h = told_beside c.args.part.now.who _ _ (known c.tell_beside.new.reader) _ _ _ _ _ c.loop-read.invariant.1 c.in_ok-tell_beside.ensures.told in
    role c.args.part.now.who _ _ h.sent

pub returns-in-Last-clause-sent : goal.returns-in-Last-clause-sent
returns-in-Last-clause-sent g c =
    let known = known_typing g.Rd.Source.remaining g.Rd.Source.foretold g.Rd.Source.sizes g.Rd.Source.words g.Rd.Source.controls in
    let h = told_beside c.args.part.now.who _ _ (known c.tell_beside.new.reader) _ _ _ _ _ c.loop-read.invariant.1 c.in_ok-tell_beside.ensures.told in
    IfSome_then c.tell_end.result c.tell_end.ensures.said
    (λ v f. told_end c.args.part.now.who c.args.part.now.job _ _ _ (known c.read_piece.new.reader) _ _ _ c.in-Last.last _ _ h c.in-Last.ensures.gives.0
    c.in-Last.ensures.gives.1 c.in-Last.ensures.foretold c.in-Last.ensures.words f)

pub tell_end-requires-2-clause-role : goal.tell_end-requires-2-clause-role
tell_end-requires-2-clause-role g c = role c.args.part.now.who _ _ c.loop-read.invariant.1.sent

pub returns-clause-sent : goal.returns-clause-sent
returns-clause-sent g c =
    let n : c.loop-read._read ≡ 4294967295 = omega (arith, c.loop-read.auto._read-end, c.loop-read-test.false) in
    IfSome_then c.tell_end-2.result c.tell_end-2.ensures.said
    (λ v f. told_all c.args.part.now.who c.args.part.now.job _ _ _ _ _ _ _ _ n c.loop-read.invariant.1 f)

pub returns-then-is_stopped-clause-credited : goal.returns-then-is_stopped-clause-credited
returns-then-is_stopped-clause-credited g c =
    let known = known_typing g.Rd.Source.remaining g.Rd.Source.foretold g.Rd.Source.sizes g.Rd.Source.words g.Rd.Source.controls in
    let h = told_beside c.args.part.now.who _ _ (known c.tell_beside.new.reader) _ _ _ _ _ c.loop-read.invariant.1 c.in_ok-tell_beside.ensures.told in
    IfSome_then c.say-then-is_stopped.result c.say-then-is_stopped.ensures.said
    (λ v f. paid_stop c.args.part.now.who _ _ _ c.in-Bytes.text _ _ _ _ _ _ h c.in_ok-take_credit-in-Bytes.ensures.taken c.in_ok-say-in-Bytes.ensures.said
    f)

pub returns-in-Last-clause-credited : goal.returns-in-Last-clause-credited
returns-in-Last-clause-credited g c =
    let known = known_typing g.Rd.Source.remaining g.Rd.Source.foretold g.Rd.Source.sizes g.Rd.Source.words g.Rd.Source.controls in
    let h = told_beside c.args.part.now.who _ _ (known c.tell_beside.new.reader) _ _ _ _ _ c.loop-read.invariant.1 c.in_ok-tell_beside.ensures.told in
    IfSome_then c.tell_end.result c.tell_end.ensures.said
    (λ v f. paid_end c.args.part.now.who c.args.part.now.job _ _ _ _ _ _ c.in-Last.last _ _ _ h c.in-Last.ensures.gives.1 f)

pub returns-clause-credited : goal.returns-clause-credited
returns-clause-credited g c =
    IfSome_then c.tell_end-2.result c.tell_end-2.ensures.said
    (λ v f. paid_end c.args.part.now.who c.args.part.now.job _ _ _ _ _ _ ReadFailed None _ _ c.loop-read.invariant.1 tt f)

pub returns-then-is_stopped-clause-stays : goal.returns-then-is_stopped-clause-stays
returns-then-is_stopped-clause-stays g c = stays_on c.args.stops.now c.loop-read.stops c.is_stopped.new.stops c.loop-read.invariant.3 c.is_stopped.ensures.stays

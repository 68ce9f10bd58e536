use Rattle.std.proofs.Common.{arith, ap, inl, inr, length, ◌+◌, subst, sym, vec_items, [], ◌∷◌, ◌++◌, ◌∙◌}
use Rattle.tn_session.specs.roster.Held.{Held}
use Rattle.tn_serve.proofs.{Counting.none_more, Hearing.{not_asked, one_counted, one_started}, Holding.{apart, runs}}
use Rattle.tn_serve.specs.{Counted.{HasEnded, facts_of, server_of}, Places.AreHeldBeside, Turns.{HearsOfNone, IsOneMore, live_of, with_one}}
use Rattle.tn_serve.proofs.serving.Open.take_in.Goals as goal

pub returns-then-not-has_room-clause-held : goal.returns-then-not-has_room-clause-held
returns-then-not-has_room-clause-held g c held =
    let old = c.args.self.now in
    c.give_up.ensures.held (subst (λ l. AreHeldBeside c.args.caller.number old.roster l (λ s. s.caller.number)) (sym c.has_room.ensures.same) held)

pub returns-in_default-clause-held : goal.returns-in_default-clause-held
returns-in_default-clause-held g c held =
    let old = c.args.self.now in
    let same = ap (λ r. vec_items r.started) c.start.ensures.running ∙ c.has_room.ensures.same in
    c.give_up-in_default.ensures.held (subst (λ l. AreHeldBeside c.args.caller.number c.start.new.self.roster l (λ s. s.caller.number)) (sym same)
    (subst (λ (r : Held). AreHeldBeside c.args.caller.number r (vec_items old.running.started) (λ s. s.caller.number)) (sym c.start.ensures.roster) held))

pub returns-clause-held : goal.returns-clause-held
returns-clause-held g c held =
    let old = c.args.self.now in
    let started = c.start.new.self in
    let new = c.keep.new.self in
    let same = ap (λ r. vec_items r.started) c.start.ensures.running ∙ c.has_room.ensures.same in
    runs started.roster (vec_items started.running.started) (vec_items new.started) (λ s. s.caller.number) c.args.caller.number
    (subst (λ k. IsOneMore k.number (live_of (vec_items started.running.started) (λ s. s.caller.number))
    (live_of (vec_items new.started) (λ s. s.caller.number)))
    c.in-Some.ensures.caller c.keep.ensures.opened)
    (omega (arith, new.started.ok.0, started.running.started.ok.0, c.keep.ensures.one))
    (subst (λ l. AreHeldBeside c.args.caller.number started.roster l (λ s. s.caller.number)) (sym same)
    (subst (λ (r : Held). AreHeldBeside c.args.caller.number r (vec_items old.running.started) (λ s. s.caller.number)) (sym c.start.ensures.roster) held))

pub returns-then-not-has_room-clause-heard : goal.returns-then-not-has_room-clause-heard
returns-then-not-has_room-clause-heard g c held =
    let server = server_of (facts_of g.V.Job.Job.fresh g.V.Jobs.Maker.gives g.V.Job.Job.reacts g.V.Job.Job.steps g.V.Job.Job.refuses) g.V.Jobs.Maker.left
    g.O.Asked.options g.O.Asked.made g.O.Asked.turned in
    let old = c.args.self.now in
    let new = c.give_up.new.self in
    one_counted g.V.Service.turns (HasEnded server) (vec_items old.running.started) (vec_items new.running.started) (λ s. s.caller.number)
    c.args.caller.number old.running.whole old.running.faulted new.running.whole new.running.faulted old.service new.service
    (ap vec_items c.give_up.ensures.started ∙ c.has_room.ensures.same)
    (grind (arith, c.give_up.ensures.one, c.has_room.ensures.counts)) (grind (arith, c.give_up.ensures.one, c.has_room.ensures.counts))
    (apart old.roster (with_one c.args.caller.number (live_of (vec_items old.running.started) (λ s. s.caller.number)))
    (length (vec_items old.running.started) + 1) held)
    (subst (λ v. HearsOfNone g.V.Service.turns (HasEnded server) c.args.caller.number old.service v) (sym c.give_up.ensures.service)
    (not_asked g.V.Service.turns (HasEnded server) c.args.caller.number old.service))

pub returns-in_default-clause-heard : goal.returns-in_default-clause-heard
returns-in_default-clause-heard g c held =
    let server = server_of (facts_of g.V.Job.Job.fresh g.V.Jobs.Maker.gives g.V.Job.Job.reacts g.V.Job.Job.steps g.V.Job.Job.refuses) g.V.Jobs.Maker.left
    g.O.Asked.options g.O.Asked.made g.O.Asked.turned in
    let old = c.args.self.now in
    let new = c.give_up-in_default.new.self in
    let whole = ap (λ r. r.whole) c.start.ensures.running in
    let faulted = ap (λ r. r.faulted) c.start.ensures.running in
    one_counted g.V.Service.turns (HasEnded server) (vec_items old.running.started) (vec_items new.running.started) (λ s. s.caller.number)
    c.args.caller.number old.running.whole old.running.faulted new.running.whole new.running.faulted old.service new.service
    (ap vec_items (c.give_up-in_default.ensures.started ∙ ap (λ r. r.started) c.start.ensures.running) ∙ c.has_room.ensures.same)
    (grind (arith, c.give_up-in_default.ensures.one, whole, c.has_room.ensures.counts))
    (grind (arith, c.give_up-in_default.ensures.one, faulted, c.has_room.ensures.counts))
    (apart old.roster (with_one c.args.caller.number (live_of (vec_items old.running.started) (λ s. s.caller.number)))
    (length (vec_items old.running.started) + 1) held)
    (subst (λ v. HearsOfNone g.V.Service.turns (HasEnded server) c.args.caller.number old.service v) (sym c.give_up-in_default.ensures.service)
    c.in_default.ensures.none)

pub returns-clause-heard : goal.returns-clause-heard
returns-clause-heard g c held =
    let server = server_of (facts_of g.V.Job.Job.fresh g.V.Jobs.Maker.gives g.V.Job.Job.reacts g.V.Job.Job.steps g.V.Job.Job.refuses) g.V.Jobs.Maker.left
    g.O.Asked.options g.O.Asked.made g.O.Asked.turned in
    let old = c.args.self.now in
    let started = c.start.new.self in
    let new = c.keep.new.self in
    let whole = ap (λ r. r.whole) c.start.ensures.running in
    let faulted = ap (λ r. r.faulted) c.start.ensures.running in
    one_started g.V.Service.turns (HasEnded server) (vec_items old.running.started) (vec_items started.running.started) (vec_items new.started)
    (λ s. s.caller.number) c.in-Some.session.caller.number
    old.running.whole old.running.faulted new.whole new.faulted old.service started.service
    (ap (λ r. vec_items r.started) c.start.ensures.running ∙ c.has_room.ensures.same)
    (grind (arith, c.keep.ensures.counts, whole, c.has_room.ensures.counts)) (grind (arith, c.keep.ensures.counts, faulted, c.has_room.ensures.counts))
    c.keep.ensures.opened
    (apart started.roster (live_of (vec_items new.started) (λ s. s.caller.number)) (length (vec_items new.started)) (returns-clause-held g c held))
    c.in-Some.ensures.jobs

pub returns-clause-over : goal.returns-clause-over
returns-clause-over g c =
    let same = ap (λ r. vec_items r.started) c.start.ensures.running ∙ c.has_room.ensures.same in
    inr (
      c.in-Some.session,
      c.keep.ensures.kept ∙ ap (λ l. l ++ c.in-Some.session ∷ []) same,
      c.in-Some.ensures.over,
      ap (λ k. k.peer) c.in-Some.ensures.caller,
      ap (λ k. k.serial) c.in-Some.ensures.caller,
    )

pub returns-then-not-has_room-clause-each : goal.returns-then-not-has_room-clause-each
returns-then-not-has_room-clause-each g c counted =
    let server = server_of (facts_of g.V.Job.Job.fresh g.V.Jobs.Maker.gives g.V.Job.Job.reacts g.V.Job.Job.steps g.V.Job.Job.refuses) g.V.Jobs.Maker.left
    g.O.Asked.options g.O.Asked.made g.O.Asked.turned in
    let old = c.args.self.now.running in
    let mid = c.has_room.new.self in
    c.give_up.ensures.each (none_more server old.whole old.faulted old.refused mid.whole mid.faulted mid.refused c.has_room.ensures.counts counted)

pub returns-then-not-has_room-clause-makes : goal.returns-then-not-has_room-clause-makes
returns-then-not-has_room-clause-makes g c jobs made = subst (λ v. g.V.Service.makes v jobs) c.give_up.ensures.service made

pub returns-then-not-has_room-clause-over : goal.returns-then-not-has_room-clause-over
returns-then-not-has_room-clause-over g c = inl (ap vec_items c.give_up.ensures.started ∙ c.has_room.ensures.same)

pub returns-then-not-has_room-clause-refused : goal.returns-then-not-has_room-clause-refused
returns-then-not-has_room-clause-refused g c = c.give_up.ensures.one.2 ∙ c.has_room.ensures.counts.2

pub returns-in_default-clause-each : goal.returns-in_default-clause-each
returns-in_default-clause-each g c counted =
    let server = server_of (facts_of g.V.Job.Job.fresh g.V.Jobs.Maker.gives g.V.Job.Job.reacts g.V.Job.Job.steps g.V.Job.Job.refuses) g.V.Jobs.Maker.left
    g.O.Asked.options g.O.Asked.made g.O.Asked.turned in
    let old = c.args.self.now.running in
    let mid = c.start.new.self.running in
    let same = c.start.ensures.running in
    let counts = c.has_room.ensures.counts in
    c.give_up-in_default.ensures.each (none_more server old.whole old.faulted old.refused mid.whole mid.faulted mid.refused
    (ap (λ r. r.whole) same ∙ counts.0, ap (λ r. r.faulted) same ∙ counts.1, ap (λ r. r.refused) same ∙ counts.2) counted)

pub returns-in_default-clause-makes : goal.returns-in_default-clause-makes
returns-in_default-clause-makes g c jobs made =
    c.start.ensures.makes jobs (subst (λ v. g.V.Service.makes v jobs) c.give_up-in_default.ensures.service made)

pub returns-in_default-clause-over : goal.returns-in_default-clause-over
returns-in_default-clause-over g c =
    inl (ap vec_items (c.give_up-in_default.ensures.started ∙ ap (λ r. r.started) c.start.ensures.running) ∙ c.has_room.ensures.same)

pub returns-in_default-clause-refused : goal.returns-in_default-clause-refused
returns-in_default-clause-refused g c =
    c.give_up-in_default.ensures.one.2 ∙ ap (λ r. r.refused) c.start.ensures.running ∙ c.has_room.ensures.counts.2

pub returns-clause-each : goal.returns-clause-each
returns-clause-each g c =
    let server = server_of (facts_of g.V.Job.Job.fresh g.V.Jobs.Maker.gives g.V.Job.Job.reacts g.V.Job.Job.steps g.V.Job.Job.refuses) g.V.Jobs.Maker.left
    g.O.Asked.options g.O.Asked.made g.O.Asked.turned in
    let old = c.args.self.now.running in
    let new = c.keep.new.self in
    let same = c.start.ensures.running in
    let kept = c.keep.ensures.counts in
    let counts = c.has_room.ensures.counts in
    none_more server old.whole old.faulted old.refused new.whole new.faulted new.refused
    (kept.0 ∙ ap (λ r. r.whole) same ∙ counts.0, kept.1 ∙ ap (λ r. r.faulted) same ∙ counts.1, kept.2 ∙ ap (λ r. r.refused) same ∙ counts.2)

pub returns-clause-makes : goal.returns-clause-makes
returns-clause-makes g c = c.start.ensures.makes

pub returns-clause-refused : goal.returns-clause-refused
returns-clause-refused g c = c.keep.ensures.counts.2 ∙ ap (λ r. r.refused) c.start.ensures.running ∙ c.has_room.ensures.counts.2

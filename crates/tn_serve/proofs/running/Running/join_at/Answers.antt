use Rattle.std.proofs.Common.{◌≡◌, ◌<◌, ℕ, arith, inl, subst, vec_items}
use Rattle.tn_serve.proofs.{Counting.{one_whole, one_faulted, whole_none, whole_one}, Hearing.one_joined}
use Rattle.tn_serve.proofs.running.Running.join_at.Goals.{then-is_whole, else-is_whole}
use Rattle.tn_serve.specs.{Ends.whole_of, Counted.{Joined, facts_of, server_of}, Servers.IsPromised, declared.settings.SessionOptions.SessionOptions}
use Rattle.tn_serve.proofs.running.Running.join_at.Goals as goal

pub returns-clause-ended : goal.returns-clause-ended
returns-clause-ended g c =
    let server = server_of (facts_of g.J.Job.fresh g.M.Maker.gives g.J.Job.reacts g.J.Job.steps g.J.Job.refuses) g.M.Maker.left g.O.Asked.options g.O.Asked.made
    g.O.Asked.turned in
    let promise = c.swap_remove-noted.result.session.promise in
    let jobs = promise.jobs.value in
    let joined : Joined server = record {
      jobs = jobs;
      made = c.swap_remove-noted.result.made;
      stream = promise.stream.value;
      ran = c.join.result;
      promised = subst (λ (o : SessionOptions). IsPromised (server.facts jobs) (server.left jobs) o promise.stream.value c.join.result)
          c.swap_remove-noted.result.asked c.join.ensures;
    } in
    inl (joined, c.finished-finished.ensures)

pub returns-clause-each : goal.returns-clause-each
returns-clause-each g c =
    let server = server_of (facts_of g.J.Job.fresh g.M.Maker.gives g.J.Job.reacts g.J.Job.steps g.J.Job.refuses) g.M.Maker.left g.O.Asked.options g.O.Asked.made
    g.O.Asked.turned in
    let old = c.args.self.now in
    let promise = c.swap_remove-noted.result.session.promise in
    let jobs = promise.jobs.value in
    let joined : Joined server = record {
      jobs = jobs;
      made = c.swap_remove-noted.result.made;
      stream = promise.stream.value;
      ran = c.join.result;
      promised = subst (λ (o : SessionOptions). IsPromised (server.facts jobs) (server.left jobs) o promise.stream.value c.join.result)
          c.swap_remove-noted.result.asked c.join.ensures;
    } in
    elim c.if-is_whole.branch [
      | then-is_whole w ↦ rw w.self-is (one_whole server old.whole old.faulted old.refused joined c.finished-finished.result c.finished-finished.ensures
          (c.is_whole.ensures.whole w.if-is_whole.true))
      | else-is_whole w ↦ rw w.self-is (one_faulted server old.whole old.faulted old.refused joined c.finished-finished.result c.finished-finished.ensures
          (c.is_whole.ensures.faulted w.if-is_whole.false))
    ]

pub returns-clause-end : goal.returns-clause-end
returns-clause-end g c =
    let finished = c.finished-finished.result in
    elim c.if-is_whole.branch [
      | then-is_whole w ↦ rw w.self-is (let one : whole_of finished ≡ 1 = whole_one finished (c.is_whole.ensures.whole w.if-is_whole.true)
          in (omega (arith, one), omega arith))
      | else-is_whole w ↦ rw w.self-is (let none : whole_of finished ≡ 0 = whole_none finished (c.is_whole.ensures.faulted w.if-is_whole.false)
          in (omega (arith, none), omega arith))
    ]

pub returns-clause-closed : goal.returns-clause-closed
returns-clause-closed g c =
    let removed = c.swap_remove-noted in
    let closed = one_joined (vec_items c.args.self.now.started) (vec_items removed.new.self) (λ s. s.caller.number) c.args.place removed.result
    (subst (λ (n : ℕ). c.args.place < n) c.args.self.now.started.ok.0 c.requires) removed.ensures.value removed.ensures.items in
    elim c.if-is_whole.branch [
      | then-is_whole w ↦ rw w.self-is closed
      | else-is_whole w ↦ rw w.self-is closed
    ]

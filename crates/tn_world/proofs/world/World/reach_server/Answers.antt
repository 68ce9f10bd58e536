use Rattle.std.proofs.{Common.{◌≡◌, ◌≤◌, length, take, drop, sym, ap, ◌∙◌, Err, arith}, lemmas.List.{take_all, drop_all}}
use Rattle.tn_world.proofs.{Bodies.reaches_sound, Delivering.{if_err, never_err, never_ok, on_ok, server_refuses, to_server}, Soundness.halts_sound}
use Rattle.tn_world.proofs.world.World.reach_server.Goals.{in-Ok, in-Err}
use Rattle.tn_world.proofs.world.World.reach_server.Goals as goal

-- all of the flight is fed, and nothing is left of it
all : (c : goal.Joined-fed) → length c.self.inside.to_server.items ≤ c.args.count
all c = omega (arith, ap length c.as_slice.ensures.value, c.as_slice.ensures.len, c.len.ensures, c.if-count-len.false)

front : (c : goal.Joined-fed) → c.as_slice.result.now ≡ take c.args.count c.self.inside.to_server.items
front c = c.as_slice.ensures.value ∙ sym (take_all c.args.count c.self.inside.to_server.items (all c))

left : (c : goal.Joined-fed) → c.clear.new.self.items ≡ drop c.args.count c.self.inside.to_server.items
left c = c.clear.ensures.items ∙ sym (drop_all c.args.count c.self.inside.to_server.items (all c))

pub invariant_of-self : goal.invariant_of-self
invariant_of-self c =
    elim c.match-fed.branch [
      | in-Ok w ↦ reaches_sound _ _ c.args.count _ _ _ w.in-Ok.ensures.accepted (front c) (left c) w.in-Ok.ensures.ok c.self.invariant
      | in-Err w ↦
          halts_sound _ _ _ _ _ _ (λ is. w.in-Err.ensures.failed_stays (ap Err is))
          (λ is. w.in-Err.ensures.failed_appends (ap Err is)) w.in-Err.ensures.halts w.in-Err.ensures.of_piece w.in-Err.ensures.err c.self.invariant
    ]

pub returns-clause-ok : goal.returns-clause-ok
returns-clause-ok c =
    elim c.match-fed.branch [
      | in-Ok w ↦
          on_ok c.match-fed.result (to_server _ c.args.count _ _ _ _ c.if-self.false w.in-Ok.ensures.accepted (front c) (left c) w.in-Ok.ensures.ok _
          c.self.view_is)
      | in-Err w ↦ never_ok _ c.match-fed.result _ w.result-is
    ]

pub returns-clause-err : goal.returns-clause-err
returns-clause-err c =
    elim c.match-fed.branch [
      | in-Ok w ↦ never_err _ c.match-fed.result _ w.result-is
      | in-Err w ↦
          if_err _ c.match-fed.result _ w.result-is (server_refuses _ c.args.count _ _ _ _ _ c.feed-fed.result w.in-Err.is c.if-self.false (front c) (left c)
          c.feed-fed.ensures.failed (λ is. w.in-Err.ensures.failed_stays (ap Err is)) (λ is. w.in-Err.ensures.failed_appends (ap Err is)) w.in-Err.ensures.halts
          w.in-Err.ensures.of_piece (λ is. w.in-Err.ensures.shut (ap Err is)) w.in-Err.ensures.err _ c.self.view_is)
    ]

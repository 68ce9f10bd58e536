use Rattle.std.proofs.{Common.{◌≡◌, ◌≤◌, length, take, drop, sym, ap, ◌∙◌, Err, arith}, lemmas.List.{take_all, drop_all}}
use Rattle.tn_world.proofs.{Bodies.{returns_sound, breaks_or_again}, Delivering.{client_refuses, if_err, never_err, never_ok, on_ok, to_client}}
use Rattle.tn_world.proofs.world.World.reach_client.Goals.{in-Ok, in-Err}
use Rattle.tn_world.proofs.world.World.reach_client.Goals as goal

-- all of the flight is fed, and nothing is left of it
all : (c : goal.Joined-fed) → length c.self.inside.to_client.items ≤ c.args.count
all c = omega (arith, ap length c.as_slice-bytes.ensures.value, c.as_slice-bytes.ensures.len, c.len.ensures, c.if-count-len.false)

front : (c : goal.Joined-fed) → c.as_slice-bytes.result.now ≡ take c.args.count c.self.inside.to_client.items
front c = c.as_slice-bytes.ensures.value ∙ sym (take_all c.args.count c.self.inside.to_client.items (all c))

left : (c : goal.Joined-fed) → c.clear.new.self.items ≡ drop c.args.count c.self.inside.to_client.items
left c = c.clear.ensures.items ∙ sym (drop_all c.args.count c.self.inside.to_client.items (all c))

pub invariant_of-self : goal.invariant_of-self
invariant_of-self c =
    elim c.match-fed.branch [
      | in-Ok w ↦ returns_sound _ _ c.args.count _ _ _ _ w.in-Ok.ensures.failed (front c) (left c) w.in-Ok.ensures.ok c.self.invariant
      | in-Err w ↦
          breaks_or_again _ _ _ _ _ _ _ w.in-Err.ensures.failed (λ is. w.in-Err.ensures.memory (ap Err is)) (λ is. w.in-Err.ensures.again (ap Err is))
          w.in-Err.ensures.err c.self.invariant
    ]

pub returns-clause-ok : goal.returns-clause-ok
returns-clause-ok c =
    elim c.match-fed.branch [
      | in-Ok w ↦
          on_ok c.match-fed.result (to_client _ c.args.count _ _ _ _ _ c.if-self.false w.in-Ok.ensures.failed (front c) (left c) w.in-Ok.ensures.ok _
          c.self.view_is)
      | in-Err w ↦ never_ok _ c.match-fed.result _ w.result-is
    ]

pub returns-clause-err : goal.returns-clause-err
returns-clause-err c =
    elim c.match-fed.branch [
      | in-Ok w ↦ never_err _ c.match-fed.result _ w.result-is
      | in-Err w ↦
          if_err _ c.match-fed.result _ w.result-is (client_refuses _ c.args.count _ _ _ _ _ _ c.if-self.false (front c) (left c) w.in-Err.ensures.failed
          (λ is. w.in-Err.ensures.memory (ap Err is)) (λ is. w.in-Err.ensures.again (ap Err is)) w.in-Err.ensures.err _ c.self.view_is)
    ]

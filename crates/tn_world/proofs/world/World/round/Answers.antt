use Rattle.std.proofs.Common.{◌≡◌, ℕ, length, inl, inr, refl, ap, ◌∙◌, subst}
use Rattle.tn_world.specs.{Worlds.{World, Refuses, RunsEvent}, declared.events.Event.TheVariants.{ToServer, ToClient}}
use Rattle.tn_world.proofs.world.World.round.Goals as goal

pub returns-in-Ok-reach_server-clause-done : goal.returns-in-Ok-reach_server-clause-done
returns-in-Ok-reach_server-clause-done c =
    let there : c.bytes_in-count.result ≡ length c.args.self.now.to_client = c.bytes_in-count.ensures ∙ ap (λ (w : World). length w.to_client) c.self.view_is in
    let back : c.bytes_in-count-2.result ≡ length c.reach_client.new.self.to_server =
    c.bytes_in-count-2.ensures ∙ ap (λ (w : World). length w.to_server) c.self-2.view_is in
    record {
      mid = c.reach_client.new.self;
      to_client = subst (λ (n : ℕ). RunsEvent c.args.self.now (ToClient n) c.reach_client.new.self) there c.in-Ok.ensures.ok;
      to_server = subst (λ (n : ℕ). RunsEvent c.reach_client.new.self (ToServer n) c.reach_server.new.self) back c.in-Ok-reach_server.ensures.ok;
    }

pub returns-in-Err-clause-refused : goal.returns-in-Err-clause-refused
returns-in-Err-clause-refused c =
    let there : c.bytes_in-count.result ≡ length c.args.self.now.to_client = c.bytes_in-count.ensures ∙ ap (λ (w : World). length w.to_client) c.self.view_is in
    inl (refl, subst (λ (n : ℕ). Refuses c.args.self.now (ToClient n) c.in-Err.cause c.reach_client.new.self) there c.in-Err.ensures.err)

pub returns-in-Err-reach_server-clause-refused : goal.returns-in-Err-reach_server-clause-refused
returns-in-Err-reach_server-clause-refused c =
    let there : c.bytes_in-count.result ≡ length c.args.self.now.to_client = c.bytes_in-count.ensures ∙ ap (λ (w : World). length w.to_client) c.self.view_is in
    let back : c.bytes_in-count-2.result ≡ length c.reach_client.new.self.to_server =
    c.bytes_in-count-2.ensures ∙ ap (λ (w : World). length w.to_server) c.self-2.view_is in
    inr (
      c.reach_client.new.self,
      refl,
      subst (λ (n : ℕ). RunsEvent c.args.self.now (ToClient n) c.reach_client.new.self) there c.in-Ok.ensures.ok,
      subst (λ (n : ℕ). Refuses c.reach_client.new.self (ToServer n) c.in-Err-reach_server.cause c.reach_server.new.self) back
          c.in-Err-reach_server.ensures.err,
    )

-- The bytes in flight arrive, or the end that they reach refuses them.
use Rattle.std.proofs.Common.{◌≡◌, ◌↔◌, ℕ, Bool, true, false, None, Result, Ok, Err, OnOk, IfErr, List, take, drop, refl, sym, ap, ◌∙◌, subst}
use Rattle.tn_client.specs.Answering as answers
use Rattle.tn_client.specs.Calls as client
use Rattle.tn_client.specs.declared.faults.ClientFault.{ClientFault}
use Rattle.tn_client.specs.declared.faults.ClientFault.TheVariants as client_faults
use Rattle.tn_pty.specs.declared.pty.PtyFault.TheVariants.{Closed}
use Rattle.tn_server.specs.Answering as server_answers
use Rattle.tn_server.specs.Calls as server
use Rattle.tn_server.specs.{Faults.{IsOfItem, IsOfPiece}, declared.faults.ServerFault.ServerFault}
use Rattle.tn_server.specs.declared.faults.ServerFault.TheVariants as server_faults
use Rattle.tn_world.specs.Worlds.{World, UnlessStopped, DeliversToServer, DeliversToClient, ServerRefusesDelivery, ClientRefusesDelivery}

-- a fact of a call whose result was found
pub on_ok : {T E X : Type 0} (r : Result T E) → X → OnOk r X
on_ok (Ok v) x = x
on_ok (Err e) x = tt

pub never_ok : {T E : Type 0} (X : Type 0) (r : Result T E) (e : E) → r ≡ Err e → OnOk r X
never_ok X (Ok v) e is = absurd (let bad = is in cc)
never_ok X (Err e) f is = tt

pub never_err : {T E : Type 0} (P : E → Type 0) (r : Result T E) (v : T) → r ≡ Ok v → IfErr r P
never_err P (Ok v) w is = tt
never_err P (Err e) w is = absurd (let bad = is in cc)

pub if_err : {T E : Type 0} (P : E → Type 0) (r : Result T E) (e : E) → r ≡ Err e → P e → IfErr r P
if_err P (Ok v) e is p = tt
if_err P (Err f) e is p = let same : f ≡ e = cc in subst P (sym same) p

unless : (stopped : Bool) (old new : World) (happens : Type 0) → stopped ≡ false → happens → UnlessStopped stopped old new happens
unless true old new happens goes so = absurd (let bad = goes in cc)
unless false old new happens goes so = so

module _ (old : World) (n : ℕ) (piece left later : List ℕ) where
  -- a delivery at the server
  pub to_server : (end : server.End) → old.server_stopped ≡ false → server.call_fault old.server ≡ None → piece ≡ take n old.to_server
      → left ≡ drop n old.to_server → server_answers.Feeds old.server piece old.to_client later end → (w : World) → old ≡ w
      → UnlessStopped w.server_stopped w (record old { server = end; to_server = left; to_client = later })
      (DeliversToServer w n (record old { server = end; to_server = left; to_client = later }))
  to_server end goes accepted front behind feeds w is =
      let new : World = record old { server = end; to_server = left; to_client = later } in
      subst (λ (w : World). UnlessStopped w.server_stopped w new (DeliversToServer w n new)) is (unless old.server_stopped old new _ goes (record {
        accepted = accepted;
        feeds = subst (λ (x : List ℕ). server_answers.Feeds old.server x old.to_client later end) front feeds;
        rest = ap (λ (x : List ℕ). record old { server = end; to_server = x; to_client = later }) behind;
      }))

  only_left : (end : server.End) → end ≡ old.server → later ≡ old.to_client → left ≡ drop n old.to_server
      → record old { server = end; to_server = left; to_client = later } ≡ record old { to_server = drop n old.to_server }
  only_left end a b d = rw (a, b, d) refl

  pub server_refuses : (end : server.End) (fault : ServerFault) (told : Result (Unit {0}) ServerFault) → told ≡ Err fault
      → old.server_stopped ≡ false → piece ≡ take n old.to_server → left ≡ drop n old.to_server
      → ((told ≡ Err server_faults.Failed) ↔ (old.server.failed ≡ true)) → (fault ≡ server_faults.Failed → end ≡ old.server)
      → (fault ≡ server_faults.Failed → later ≡ old.to_client)
      → (IsOfItem fault → server_answers.StopsWithin old.server piece fault old.to_client later end) → IsOfPiece fault
      → (fault ≡ server_faults.Pty Closed → old.server.terminal.closed ≡ true) → end.failed ≡ true → (w : World) → old ≡ w
      → ServerRefusesDelivery w n fault (record old { server = end; to_server = left; to_client = later })
  server_refuses end fault told given goes front behind first stays none halts of shut failed w is =
      subst (λ (w : World). ServerRefusesDelivery w n fault (record old { server = end; to_server = left; to_client = later })) is (record {
        goes_on = goes;
        first = λ f. let both = sym given ∙ first.1 f in cc;
        is_fault = of;
        again = λ f. (first.0 (given ∙ ap Err f), only_left end (stays f) (none f) behind);
        halts = λ i. subst (λ (x : List ℕ). server_answers.StopsWithin old.server x fault old.to_client later end) front (halts i);
        shut = shut;
        failed = failed;
        rest = ap (λ (x : List ℕ). record old { server = end; to_server = x; to_client = later }) behind;
      })

  -- a delivery at the client
  pub to_client : (end : client.End) (seen : List ℕ) → old.client_stopped ≡ false → client.call_fault old.client ≡ None → piece ≡ take n old.to_client
      → left ≡ drop n old.to_client → answers.Feeds old.client piece old.to_server later old.shown seen end → (w : World) → old ≡ w
      → UnlessStopped w.client_stopped w (record old { client = end; to_client = left; to_server = later; shown = seen })
      (DeliversToClient w n (record old { client = end; to_client = left; to_server = later; shown = seen }))
  to_client end seen goes accepted front behind feeds w is =
      let new : World = record old { client = end; to_client = left; to_server = later; shown = seen } in
      subst (λ (w : World). UnlessStopped w.client_stopped w new (DeliversToClient w n new)) is (unless old.client_stopped old new _ goes (record {
        accepted = accepted;
        feeds = subst (λ (x : List ℕ). answers.Feeds old.client x old.to_server later old.shown seen end) front feeds;
        rest = ap (λ (x : List ℕ). record old { client = end; to_client = x; to_server = later; shown = seen }) behind;
      }))

  untouched : (end : client.End) (seen : List ℕ) → answers.Untouched old.client old.to_server later old.shown seen end → left ≡ drop n old.to_client
      → record old { client = end; to_client = left; to_server = later; shown = seen } ≡ record old { to_client = drop n old.to_client }
  untouched end seen same behind = rw (same.end, same.out, same.screen, behind) refl

  pub client_refuses : (end : client.End) (seen : List ℕ) (fault : ClientFault) → old.client_stopped ≡ false → piece ≡ take n old.to_client
      → left ≡ drop n old.to_client → client.IsFault (client.call_fault old.client) fault
      → (fault ≡ client_faults.Memory → answers.StopsWithin old.client piece old.to_server later old.shown seen)
      → (fault ≡ client_faults.Failed → answers.Untouched old.client old.to_server later old.shown seen end) → end.failed ≡ true → (w : World) → old ≡ w
      → ClientRefusesDelivery w n fault (record old { client = end; to_client = left; to_server = later; shown = seen })
  client_refuses end seen fault goes front behind cause breaks again failed w is =
      subst (λ (w : World). ClientRefusesDelivery w n fault (record old { client = end; to_client = left; to_server = later; shown = seen })) is (record {
        goes_on = goes;
        is_fault = cause;
        again = λ f. untouched end seen (again f) behind;
        breaks = λ m. subst (λ (x : List ℕ). answers.StopsWithin old.client x old.to_server later old.shown seen) front (breaks m);
        failed = failed;
        rest = ap (λ (x : List ℕ). record old { client = end; to_client = x; to_server = later; shown = seen }) behind;
      })

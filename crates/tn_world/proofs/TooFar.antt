-- A world is refused for too many entries that wait only if that many do.
use Rattle.std.proofs.Common.{◌≡◌, ℕ, Bool, true, false, Option, Some, None, List, length, refl, sym, ap, ◌∙◌, if◌then◌else◌}
use Rattle.std.specs.Prelude.{option_map}
use Rattle.tn_discipline.specs.{Characters.char_fault, declared.characters.CharFault.CharFault}
use Rattle.tn_pty.specs.{Terminal.max_waiting, declared.pty.PtyFault.PtyFault}
use Rattle.tn_pty.specs.declared.pty.PtyFault.TheVariants as pty
use Rattle.tn_server.specs.Course as server_courses
use Rattle.tn_server.specs.Events as server_calls
use Rattle.tn_server.specs.{Faults.IsFault, Terms.linemode, declared.faults.ServerFault.{ServerFault, TheVariants.{Pty, Failed, Char, NotOn}}, Calls.End}
use Rattle.tn_server.specs.Steps.{end_after_items}
use Rattle.tn_server.proofs.lemmas.Stopping.{has_read, many_by}
use Rattle.tn_world.specs.{Past.HasPast, Worlds.{World, ServerRefusesDelivery, Refuses, StopsWithin, ShowsCause}, declared.events.Event.Event}
use Rattle.tn_world.specs.declared.{events.Event.TheVariants.{ToServer, Pull, Take, Wish, SetChar, Echo, Mask}, faults.Cause.Cause}
use Rattle.tn_world.specs.declared.faults.Cause.TheVariants as cause
use Rattle.tn_world.proofs.Showing.{runs_sound}

abbrev far : ServerFault
far = Pty pty.TooFarAhead

-- no call but a delivery is refused by the terminal
never_unless : (p : PtyFault) (b : Bool) (o : Option ServerFault) → (IsFault o (Pty p) → ⊥) → IsFault (if b then Some Failed else o) (Pty p) → ⊥
never_unless p true o never f = cc
never_unless p false o never f = never f

never_none : (p : PtyFault) → IsFault None (Pty p) → ⊥
never_none p f = cc

never_char : (p : PtyFault) (o : Option CharFault) → IsFault (option_map Char o) (Pty p) → ⊥
never_char p None f = cc
never_char p (Some fault) f = cc

never_mask : (p : PtyFault) (b : Bool) → IsFault (if b then None else Some NotOn) (Pty p) → ⊥
never_mask p true f = cc
never_mask p false f = cc

refused_at : (A : Type 0) (p : PtyFault) (old new : World) (e : Event) → ((n : ℕ) → ServerRefusesDelivery old n (Pty p) new → A)
    → Refuses old e (cause.Server (Pty p)) new → A
refused_at A p old new (ToServer n) at r = at n r
refused_at A p old new (Pull n) at r = absurd (never_none p r.0.1.cause)
refused_at A p old new Take at r = absurd (never_none p r.0.cause)
refused_at A p old new (Wish editing) at r = absurd (never_unless p old.server.failed None (never_none p) r.0.1.cause)
refused_at A p old new (SetChar func value) at r = absurd (never_unless p old.server.failed (option_map Char (char_fault old.server.table func value))
    (never_char p (char_fault old.server.table func value)) r.0.1.cause)
refused_at A p old new (Echo on) at r = absurd (never_unless p old.server.failed None (never_none p) r.0.1.cause)
refused_at A p old new (Mask mask) at r = absurd (never_unless p old.server.failed (if linemode old.server.terms.options then None else Some NotOn)
    (never_mask p (linemode old.server.terms.options)) r.0.1.cause)
refused_at A p old new e at r = absurd r.0

never_failed : far ≡ Failed → ⊥
never_failed f = cc

-- a delivery
far_behind : (old new : World) (n : ℕ) → HasPast old → ServerRefusesDelivery old n far new → length new.server.terminal.entries ≡ max_waiting
far_behind old new n s r = go (by_test old.server.failed refl)
  where
    by_test : (b : Bool) → old.server.failed ≡ b → old.server.failed ≡ false
    by_test true is = absurd (never_failed (r.first is))
    by_test false is = is

    go : old.server.failed ≡ false → length new.server.terminal.entries ≡ max_waiting
    go runs =
        let x = r.halts tt in
        let c = s.server_course runs in
        let at = c.1 in
        let reads = has_read old.server.decoder (server_courses.stream c.0) (server_calls.items at.history) at.reads in
        ap (λ (e : End). length e.terminal.entries) x.step
        ∙ many_by (end_after_items old.server x.done) x.left x.here x.back (x.cause reads)

far_at : (old new : World) (e : Event) → HasPast old → Refuses old e (cause.Server far) new → length new.server.terminal.entries ≡ max_waiting
far_at old new e s r = refused_at (length new.server.terminal.entries ≡ max_waiting) pty.TooFarAhead old new e (λ n d. far_behind old new n s d) r

-- the terminal is never found shut
shut_failed : Pty pty.Closed ≡ Failed → ⊥
shut_failed f = cc

never_shut : (old new : World) (n : ℕ) → HasPast old → ServerRefusesDelivery old n (Pty pty.Closed) new → ⊥
never_shut old new n s r = by_test old.server.failed refl
  where
    by_test : (b : Bool) → old.server.failed ≡ b → ⊥
    by_test true is = shut_failed (r.first is)
    by_test false is = let turned : true ≡ false = sym (r.shut refl) ∙ s.takes_keys is in cc

shut_at : (old new : World) (e : Event) → HasPast old → Refuses old e (cause.Server (Pty pty.Closed)) new → ⊥
shut_at old new e s r = refused_at ⊥ pty.Closed old new e (λ n d. never_shut old new n s d) r

pub shows_cause : (old new : World) (events : List Event) (at : ℕ) (c : Cause) → HasPast old → StopsWithin old events at c new → ShowsCause c new
shows_cause old new events at (cause.Server (Pty pty.TooFarAhead)) s e = far_at e.mid new e.event (runs_sound old e.mid e.done e.runs s) e.refuses
shows_cause old new events at (cause.Server (Pty pty.Closed)) s e = shut_at e.mid new e.event (runs_sound old e.mid e.done e.runs s) e.refuses
shows_cause old new events at _ s e = tt

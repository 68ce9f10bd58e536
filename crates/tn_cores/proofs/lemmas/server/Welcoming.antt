-- A welcome piece finds room for all entries that it makes.
use Rattle.std.proofs.Common.{◌≡◌, ⊎_elim, ℕ, ◌≤◌, ◌<◌, Bool, false, List, ◌∷◌, ◌++◌, length, sym, ap, ◌∙◌, subst, arith, length-append}
use Rattle.std.specs.Prelude.{All}
use Rattle.tn_pty.specs.declared.pty.PtyFault.TheVariants as pty
use Rattle.tn_server.specs.{Events.items, Lines.waiting, declared.faults.ServerFault.{ServerFault, TheVariants.{Pty, Memory}}}
use Rattle.tn_server.proofs.lemmas.Room.{completes_few, waits_few}
use Rattle.tn_linemode.specs.Prefixes.{IsRead}
use Rattle.tn_cores.proofs.of_terminal.Ending.{turned}
use Rattle.tn_cores.specs.server.{Ending.EndsAt, Marks.Turns, Reaching.LeadsTo, Refusing.{RefusesAtItem, IsRefusalCause}, Run.Run}
use Rattle.tn_cores.specs.{server.Welcoming.{IsWelcome, too_far_ahead}, declared.server.{messages.ServerMark.ServerMark, terminal.Term.Term}}
use Rattle.tn_cores.specs.declared.{server.progress.ServerProgress.ServerProgress, faults.Ended.Ended, messages.Message.{Message, TheVariants.Piece}}
use Rattle.tn_cores.specs.declared.server.messages.ServerMark.TheVariants as mark

-- A WELCOME MESSAGE

finds_room : (c : Run) (piece : List ℕ) → All (λ b. b < 256) c.stream → IsRead c.stream (items c.history) → length piece ≤ 512
    → length (waiting c.history) ≤ 511 → RefusesAtItem c piece (Pty pty.TooFarAhead) → ⊥
finds_room c piece bytes start short few (done, item, left, reads, cause) =
    omega (
      arith,
      completes_few c.stream piece (items c.history) (done ++ item ∷ left) bytes start reads,
      length-append done (item ∷ left),
      waits_few c.history done,
      cause.1,
      short,
      few,
    )

no_memory : Pty pty.TooFarAhead ≡ Memory → ⊥
no_memory e = cc

never_refused : (c : Run) (t : Term) (m : Message) → LeadsTo c t → c.progress.over ≡ false → IsWelcome c m → IsRefusalCause c m (Pty pty.TooFarAhead) → ⊥
never_refused c t (Piece piece) at on welcome cause =
    let live = at.live (ap (λ (p : ServerProgress). p.over) at.progress ∙ on) in
    finds_room c piece live.bytes (live.read.rest, live.read.reading) welcome.0 (welcome.1 on).0 cause
never_refused c t _ at on welcome cause = no_memory cause.0

was_on : (c new : Run) (m : Message) (k : ServerMark) (f : ServerFault) (put : Bool) → k ≡ mark.Refused f put → Turns c (m, k) new → c.progress.over ≡ false
was_on c new m k f put e t =
    let turn : Turns c (m, mark.Refused f put) new = subst (λ (x : ServerMark). Turns c (m, x) new) e t in
    turn.0

-- no welcome message ends a session because too many entries wait
pub stays_in_reach : (c new : Run) (t : Term) (m : Message) (k : ServerMark) → LeadsTo c t → IsWelcome c m → Turns c (m, k) new → new.progress.ended
    ≡ too_far_ahead
    → c.progress.ended ≡ too_far_ahead
stays_in_reach c new t m k at welcome turn e =
    ⊎_elim
    (λ s. sym s ∙ e)
    (λ h.
    let why : EndsAt c m k too_far_ahead = subst (λ (x : Ended). EndsAt c m k x) e h in
    absurd (never_refused c t m at (was_on c new m k (Pty pty.TooFarAhead) why.0 why.1 turn) welcome why.2))
    (turned c new (m, k) turn)

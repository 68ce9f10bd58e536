-- The seat of a thread that may be asked to stop, before and after a look at it.
use Rattle.std.proofs.Common.{◌≡◌, Bool, true, Option, Some, None, refl, sym, ap, ◌∙◌, subst}
use Rattle.crossbeam_channel.specs.{Claims.{view, IsSeatAt}, Ends.receives_on}
use Rattle.tn_session.specs.{workers.Stops.{StopHand, StopsStay, TakesStop, has_stopped, took_some}, declared.workers.stops.StopSeat.StopSeat}

-- the seat after it was looked at
pub seat_stays : (old : Option StopSeat) (seat new : StopSeat) (took : Bool) → old ≡ Some seat → new.from ≡ seat.from → IsSeatAt (receives_on new.from) new.pass
    → StopsStay old old → TakesStop took (view seat.pass) (view new.pass) → StopsStay old (Some new)
seat_stays old seat new took e from at stays takes =
    let here = subst (λ (o : Option StopSeat). StopsStay o o) e stays in
    let taken = takes here.2.0 here.2.1 in
    subst (λ (o : Option StopSeat). StopsStay o (Some new)) (sym e) (from, at, (taken.0, taken.1))

pub has_told : (old : Option StopSeat) (seat new : StopSeat) (took : Bool) → old ≡ Some seat → StopsStay old old
    → TakesStop took (view seat.pass) (view new.pass) → took ≡ true → has_stopped (Some new) ≡ true
has_told old seat new took e stays takes is =
    let here = subst (λ (o : Option StopSeat). StopsStay o o) e stays in
    let taken = takes here.2.0 here.2.1 in
    ap (λ (u : StopHand). took_some u.taken) taken.1 ∙ taken.2 is

pub stays_on : (a b c : Option StopSeat) → StopsStay a b → StopsStay b c → StopsStay a c
stays_on None None c one two = two
stays_on None (Some b) c one two = absurd one
stays_on (Some a) None c one two = absurd one
stays_on (Some a) (Some b) None one two = absurd two
stays_on (Some a) (Some b) (Some c) one two = (two.0 ∙ one.0, two.1, two.2)

pub stays_here : (a b : Option StopSeat) → StopsStay a b → StopsStay b b
stays_here None None stays = tt
stays_here None (Some b) stays = absurd stays
stays_here (Some a) None stays = absurd stays
stays_here (Some a) (Some b) stays = (refl, stays.1, stays.2)

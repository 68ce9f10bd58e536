-- The typed part of a piece is that of its items, however they are passed on.
use Rattle.std.proofs.Common.{◌≡◌, ℕ, Bool, true, false, ◌||◌, List, ◌++◌, Result, Ok, Err, IsErrOf, ◌↔◌, inl, inr, refl, sym, ap, ◌∙◌}
use Rattle.std.proofs.lemmas.List.Folds.{list_any-append}
use Rattle.tn_nvt.proofs.lemmas.Folding.{taken_all}
use Rattle.tn_nvt.specs.{declared.{decoding.NvtFault.{NvtFault, TheVariants.{Memory, Failed, Refused}}, items.Item.Item}, Feeding.{DecoderState, failed}}
use Rattle.tn_nvt.specs.Sinks.{FeedsTo, StopsAtSink, StopsForMemory, all_of, bytes_of, calls_of}
use Rattle.tn_net.specs.{Presence.{is_typed, are_typed, Sees, LosesNone, NeedsMemory, TellsOfPiece}, declared.presence.Seen.Seen}

or_false : (a : Bool) → a ≡ (a || false)
or_false true = refl
or_false false = refl

or_assoc : (a b c : Bool) → ((a || b) || c) ≡ (a || (b || c))
or_assoc true b c = refl
or_assoc false b c = refl

sees_both : (old mid new : Seen) (xs ys : List Item) → Sees old xs mid → Sees mid ys new → Sees old (xs ++ ys) new
sees_both old mid new xs ys first then =
    then
    ∙ ap (λ (b : Bool). b || are_typed ys) first
    ∙ or_assoc old.typed (are_typed xs) (are_typed ys)
    ∙ ap (λ (b : Bool). old.typed || b) (sym (list_any-append is_typed xs ys))

pub hears : (old new : DecoderState) (piece : List ℕ) (before after : Seen) → before.typed ≡ false
    → FeedsTo Sees old piece before after new → TellsOfPiece old piece after.typed new
hears old new piece before after none fed =
    let items = all_of (calls_of fed.parts) in
    let seen : Sees before items after =
    taken_all Sees LosesNone Sees (λ a. or_false a.typed) sees_both before after (calls_of fed.parts) fed.taken
    in
    inl (record { items = items; adds = fed.adds; told = seen ∙ ap (λ (b : Bool). b || are_typed items) none })

pub hears_no_more : (r : Result (Unit {0}) NvtFault) (fault : NvtFault) (old new : DecoderState) (piece : List ℕ) (before after : Seen)
    → r ≡ Err fault → (IsErrOf r Refused → StopsAtSink Sees LosesNone old piece before after)
    → (IsErrOf r Memory → StopsForMemory Sees old piece before after)
    → IsErrOf r Failed ↔ (old ≡ failed) → new ≡ failed → TellsOfPiece old piece true new
hears_no_more (Ok _) fault old new piece before after is refused memory had fails = cc
hears_no_more (Err Refused) fault old new piece before after is refused memory had fails = absurd (refused refl).given_up
hears_no_more (Err Memory) fault old new piece before after is refused memory had fails =
    let w = memory refl in
    let needs : NeedsMemory old piece = record { front = bytes_of w.parts; byte = w.byte; back = w.back; whole = w.whole; items = all_of (calls_of w.parts); here = w.here; adds = w.adds; wanted = w.wanted } in
    inr (record { told = refl; fails = fails; cause = inr needs })
hears_no_more (Err Failed) fault old new piece before after is refused memory had fails =
    inr (record { told = refl; fails = fails; cause = inl (had.0 refl) })

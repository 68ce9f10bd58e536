-- Each call is refused for its cause.
use Rattle.std.proofs.Common.{◌≡◌, ◌≢◌, ◌⊎◌, inl, inr, ℕ, ◌+◌, ◌<◌, All, Bool, true, false, if◌then◌else◌, Some, None, List, [], ◌∷◌, ◌++◌, length, take, drop}
use Rattle.std.proofs.{Common.{sym, ap, ◌∙◌, subst}, lemmas.List.{drop_more, take-append-drop}}
use lib.ListN.{get_or}
use Rattle.tn_client.specs.{Answering.IsStopCause, Calls.{End, IsFault, ReadsList, call_fault}, Events.{Event, History, typed, got, resized, gets, items}}
use Rattle.tn_client.specs.{Steps.{says, end_after_items}, declared.faults.ClientFault.ClientFault}
use Rattle.tn_client.specs.Answering as answers
use Rattle.tn_client.specs.Calls as client
use Rattle.tn_client.specs.Steps as steps
use Rattle.tn_client.proofs.lemmas.Standings.{says_as, displays_as, stands_all}
use Rattle.tn_option.specs.Options.{Options}
use Rattle.tn_cores.proofs.of_core.{Typing.{stands_keys, failed_keys}, Doing.read_past}
use Rattle.tn_client.specs.declared.faults.ClientFault.TheVariants as client_fault
use Rattle.tn_cores.specs.client.{Reaching.{TypesAll, RefusesFor}, Refusing.{SaysOrShows, MayWantMemory, RefusesAtKey, RefusesAtItem, RefusesAtByte}}
use Rattle.tn_cores.specs.{client.Run.{Run, Reads, types}, declared.client.{machine.Core.Core, messages.Origin.{Origin, TheVariants.{Keys, Net}}}}
use Rattle.tn_cores.specs.declared.{messages.Message.TheVariants.{Piece, Resized, Asked}, streams.{control.Control.Control, window.WindowSize.WindowSize}}
use Rattle.tn_nvt.specs.{Feeding.DecoderState, declared.items.Item.Item}
use Rattle.tn_nvt.specs.Feeding as nvt

-- an end that has not failed refuses only when out of memory
only_memory : (end : End) (f : ClientFault) → end.failed ≡ false → IsFault (call_fault end) f → f ≡ client_fault.Memory
only_memory end f runs why = by_test end.failed runs why
  where
    true_false : true ≡ false → ⊥
    true_false e = cc

    by_test : (b : Bool) → b ≡ false → IsFault (if b then Some client_fault.Failed else None) f → f ≡ client_fault.Memory
    by_test true e cause = absurd (true_false e)
    by_test false e cause = cause

-- the end sends and shows what its history does
says_there : (h : History) (end : End) (e : Event) → client.LeadsTo h end → steps.SaysOrShows end e → SaysOrShows h e
says_there h end e s (inl some) = inl (λ none. some (sym (says_as h end e s) ∙ none))
says_there h end e s (inr some) = inr (λ none. some (sym (displays_as h end e s) ∙ none))

wants_there : (h : History) (end : End) (item : Item) → client.LeadsTo h end → steps.MayWantMemory end item → MayWantMemory h item
wants_there h end item s (inl some) = inl (λ none. some (sym (says_as h end (got item) s) ∙ none))
wants_there h end item s (inr (inl some)) = inr (inl some)
wants_there h end item s (inr (inr reads)) = inr (inr (subst (λ (o : Options). ReadsList o item) s.options reads))

-- one of some keys was refused
pub key_cause : (old end : End) (keys : List ℕ) (i : ℕ) (f : ClientFault) (x y u v : List ℕ) → i < length keys → TypesAll old (take i keys) x y u v end
    → IsFault (call_fault end) f → (f ≡ client_fault.Memory → steps.SaysOrShows end (typed (get_or keys i 0))) → (h : History)
    → client.LeadsTo h old → old.failed ≡ false → (f ≡ client_fault.Memory) × RefusesAtKey h keys
key_cause old end keys i f x y u v lt t why grows h at runs =
    let is = only_memory end f (ap (λ (e : End). e.failed) t.step ∙ failed_keys old (take i keys) ∙ runs) why in (
      is,
      (
        take i keys,
        get_or keys i 0,
        drop (i + 1) keys,
        sym (take-append-drop i keys) ∙ ap (λ (ks : List ℕ). take i keys ++ ks) (drop_more keys i 0 lt),
        says_there (types h (take i keys)) end (typed (get_or keys i 0))
            (subst (client.LeadsTo (types h (take i keys))) (sym t.step) (stands_keys h old (take i keys) at)) (grows is),
      ),
    )

-- one of the items was refused, or the decoder was
at_stop : (c : Run) (end : End) → client.LeadsTo c.history end → (piece front back : List ℕ) (done left more part : List Item) (here : DecoderState) → piece ≡ front ++ back
    → nvt.LeadsTo (c.stream ++ front) (items c.history ++ (done ++ left)) here → Reads c piece (done ++ (left ++ more))
    → IsStopCause (end_after_items end done) left part here back → RefusesAtItem c piece ⊎ RefusesAtByte c piece
at_stop c end s piece front back done [] more part here whole at r why = inr (front, back, whole, done ++ [], here, at, why.1)
at_stop c end s piece front back done (item ∷ left) more part here whole at r why =
    inl (done, item, left ++ more, r, wants_there (gets c.history done) (end_after_items end done) item (stands_all c.history end done s) why.grows)

pub feed_cause : (piece : List ℕ) (old : Core) (x y u v : List ℕ) (f : ClientFault) → All (λ b. b < 256) piece → old.progress.over ≡ false
    → IsFault (call_fault old.end) f → (f ≡ client_fault.Memory → answers.StopsWithin old.end piece x y u v)
    → RefusesFor old (record { from = Net; message = Piece piece }) f
feed_cause piece old x y u v f small on why memory = λ c at.
    let l = at.live on in
    let is = only_memory old.end f l.failed why in
    let s = memory is in
    let past = read_past piece old x y u v small on s c at in (
      is,
      at_stop c old.end l.leads piece s.front s.back s.done s.left past.0 s.part s.here s.whole (s.reads c.stream (items c.history) l.read) past.1
          (s.cause c.stream (items c.history) l.read),
    )

-- a size was refused
pub resize_cause : (from : Origin) (size : WindowSize) (old : Core) (f : ClientFault) → old.progress.over ≡ false → IsFault (call_fault old.end) f
    → (f ≡ client_fault.Memory → says old.end (resized size.width size.height) ≢ [])
    → RefusesFor old (record { from = from; message = Resized size }) f
resize_cause Keys size old f on why grows = λ c at.
    let l = at.live on in
    let is = only_memory old.end f l.failed why in
    (is, λ none. grows is (sym (says_as c.history old.end (resized size.width size.height) l.leads) ∙ none))
resize_cause Net size old f on why grows = λ c at.
    let l = at.live on in
    let is = only_memory old.end f l.failed why in
    (is, λ none. grows is (sym (says_as c.history old.end (resized size.width size.height) l.leads) ∙ none))

-- a command was refused
pub send_cause : (control : Control) (old : Core) (f : ClientFault) → old.progress.over ≡ false → IsFault (call_fault old.end) f
    → RefusesFor old (record { from = Keys; message = Asked control }) f
send_cause control old f on why = λ c at. only_memory old.end f (at.live on).failed why

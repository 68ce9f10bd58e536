-- A piece of a subnegotiation that is discarded is not refused.
use Rattle.std.proofs.Common.{◌≡◌, ◌≢◌, ℕ, List, [], ◌∷◌, ◌++◌, sym, ◌∙◌}
use Rattle.tn_nvt.specs.{Feeding.{DecoderState, KeepsParameter, overlong, failed, IsLetGo}, declared.items.Item.Item}
use Rattle.tn_nvt.specs.Feeding as nvt
use Rattle.tn_nvt.proofs.lemmas.Dropping.{gives_nothing, keeps_nothing}
use Rattle.tn_linemode.specs.Prefixes.{WantsMemory}
use Rattle.tn_server.specs.{Answering.{IsStopCause, StopsWithin}, Calls.{End, LeadsTo}, Events.History, Steps.end_after_items}
use Rattle.tn_server.specs.declared.faults.ServerFault.{ServerFault}

none_left : (done left : List Item) → done ++ left ≡ [] → left ≡ []
none_left [] left e = e
none_left (item ∷ done) left e = cc

wants : (end : End) (left : List Item) (here : DecoderState) (back : List ℕ) (fault : ServerFault) → left ≡ [] → IsStopCause end left here back fault
    → WantsMemory here back
wants end [] here back fault none cause = cause.1
wants end (item ∷ left) here back fault none cause = absurd (cc)

never_wants : (old here : DecoderState) (piece front back : List ℕ) (items : List Item) → piece ≡ front ++ back → IsLetGo old piece
    → nvt.Advances old front items here → WantsMemory here back → ⊥
never_wants old here piece front [] items whole g adds wanted = wanted
never_wants old here piece front (byte ∷ back) items whole g adds wanted = keeps_nothing old here piece front back byte items whole g adds wanted

pub dropping_goes_on : (h : History) (old new : End) (piece before after : List ℕ) (fault : ServerFault) → LeadsTo h old → IsLetGo old.decoder piece
    → StopsWithin old piece fault before after new → ⊥
dropping_goes_on h old new piece before after fault leads g s =
    let runs : old.decoder ≢ failed = λ e. let other : overlong g.came ≡ failed = sym g.letting_go ∙ e in cc in
    let none = gives_nothing old.decoder s.here piece s.front s.back (s.done ++ s.left) s.whole g s.reads in
    never_wants old.decoder s.here piece s.front s.back (s.done ++ s.left) s.whole g s.reads
    (wants (end_after_items old s.done) s.left s.here s.back fault (none_left s.done s.left none) (s.cause runs))

-- A piece of a subnegotiation that is discarded is not refused.
use Rattle.std.proofs.Common.{◌≡◌, ℕ, List, [], ◌∷◌, ◌++◌}
use Rattle.tn_nvt.specs.{Feeding.{DecoderState, IsLetGo}, declared.items.Item.Item}
use Rattle.tn_nvt.specs.Feeding as nvt
use Rattle.tn_nvt.proofs.lemmas.Dropping.{gives_nothing, keeps_nothing}
use Rattle.tn_linemode.specs.Prefixes.{WantsMemory}
use Rattle.tn_client.specs.{Answering.{StopsWithin, IsStopCause}, Calls.End, Course.{Course, stream, CourseLeadsTo}, Events.items, Steps.end_after_items}

none_left : (done left : List Item) → done ++ left ≡ [] → left ≡ []
none_left [] left e = e
none_left (item ∷ done) left e = cc

wants : (end : End) (left part : List Item) (here : DecoderState) (back : List ℕ) → left ≡ [] → IsStopCause end left part here back → WantsMemory here back
wants end [] part here back none cause = cause.1
wants end (item ∷ left) part here back none cause = absurd (cc)

never_wants : (old here : DecoderState) (piece front back : List ℕ) (xs : List Item) → piece ≡ front ++ back → IsLetGo old piece
    → nvt.Advances old front xs here → WantsMemory here back → ⊥
never_wants old here piece front [] xs whole g adds wanted = wanted
never_wants old here piece front (byte ∷ back) xs whole g adds wanted = keeps_nothing old here piece front back byte xs whole g adds wanted

pub dropping_goes_on : (c : Course) (old : End) (piece before after seen now : List ℕ) → CourseLeadsTo c old → IsLetGo old.decoder piece
    → StopsWithin old piece before after seen now → ⊥
dropping_goes_on c old piece before after seen now at g s =
    let none = gives_nothing old.decoder s.here piece s.front s.back (s.done ++ s.left) s.whole g s.reads in
    never_wants old.decoder s.here piece s.front s.back (s.done ++ s.left) s.whole g s.reads
    (wants (end_after_items old s.done) s.left s.part s.here s.back (none_left s.done s.left none) (s.cause (stream c) (items at.history) at.reads))

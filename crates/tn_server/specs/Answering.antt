-- The effect of a piece of the stream on a server end: of all of it, or of the part before a refusal.
use Rattle.std.specs.Prelude.{◌≡◌, ◌≢◌, ℕ, true, List, [], ◌∷◌, ◌++◌}
use Rattle.tn_linemode.specs.Prefixes.{WantsMemory}
use Rattle.tn_nvt.specs.{Feeding.{DecoderState, failed}, Spelling.spells, declared.items.Item.Item}
use Rattle.tn_nvt.specs.Feeding as nvt
use Rattle.tn_server.specs.{Calls.End, Steps.{says_item, IsRefusedFor, end_after_items, says_items}}
use Rattle.tn_server.specs.declared.faults.ServerFault.{ServerFault}
use Rattle.tn_server.specs.declared.faults.ServerFault.TheVariants as fault

-- A piece of the stream, however that was cut before: its items, one after another, are the end's steps.
pub record Feeds (old : End) (piece before after : List ℕ) (new : End) : Type 0 where
  pub items : List Item
  pub reads : nvt.Advances old.decoder piece items new.decoder
  pub step : new ≡ record (end_after_items old items) { decoder = new.decoder }
  pub said : after ≡ before ++ spells (says_items old items)

-- the reply of the end to the first of these items, if there is one
abbrev pub first_said : End → List Item → List Item
first_said end [] = []
first_said end (item ∷ left) = says_item end item

-- why a piece was refused there: the first of these items was, or the decoder needed memory at the next byte
abbrev pub IsStopCause : End → List Item → DecoderState → List ℕ → ServerFault → Type 0
IsStopCause end [] here back f = (f ≡ fault.Memory) × WantsMemory here back
IsStopCause end (item ∷ left) here back f = IsRefusedFor end item f

-- the end has failed, and its terminal may be closed; all else is as it was
abbrev pub IsHalted : End → End → Type 0
IsHalted old new =
    new
    ≡ record old {
      decoder = new.decoder;
      terminal = record (old.terminal) { closed = new.terminal.closed };
      failed = true;
    }

-- A piece was refused: of the items of a prefix of it some were done, and the appended bytes spell the
-- replies to them, and a prefix of the reply to the next.
pub record StopsWithin (old : End) (piece : List ℕ) (fault : ServerFault) (before after : List ℕ)
    (new : End) : Type 0 where
  pub front : List ℕ
  pub back : List ℕ
  pub whole : piece ≡ front ++ back
  pub done : List Item
  pub left : List Item
  pub here : DecoderState
  pub reads : nvt.Advances old.decoder front (done ++ left) here
  pub part : List Item
  pub rest : List Item
  pub said : after ≡ before ++ spells (says_items old done ++ part)
  pub begins : first_said (end_after_items old done) left ≡ part ++ rest
  pub cause : old.decoder ≢ failed → IsStopCause (end_after_items old done) left here back fault
  pub step : IsHalted (end_after_items old done) new

-- The result of a call of a client end, the effect of a call that is done, and the state after one that is
-- refused.
use Rattle.std.specs.Prelude.{◌≡◌, ℕ, Option, None, List, [], ◌∷◌, ◌++◌, Result, Ok, Err}
use Rattle.tn_linemode.specs.Prefixes.{WantsMemory}
use Rattle.tn_nvt.specs.{Feeding.DecoderState, Spelling.spells, declared.items.Item.Item}
use Rattle.tn_nvt.specs.Feeding as nvt
use Rattle.tn_client.specs.{Calls.{End, IsFault}, declared.faults.ClientFault.ClientFault}
use Rattle.tn_client.specs.Steps.{says_got, end_after_items, says_items, items_shown, MayWantMemory}

-- A call that has such a cause is refused for it; one that has none is done, or refused for want of memory.
abbrev pub AnswersBy : {T : Type 0} → Option ClientFault → Result T ClientFault → Type 0
AnswersBy cause (Ok x) = cause ≡ None
AnswersBy cause (Err f) = IsFault cause f

-- A piece of the stream, however that was cut before: its items, one after another, are the end's steps.
pub record Feeds (old : End) (piece before after seen now : List ℕ) (new : End) : Type 0 where
  pub items : List Item
  pub reads : nvt.Advances old.decoder piece items new.decoder
  pub step : new ≡ record (end_after_items old items) { decoder = new.decoder }
  pub said : after ≡ before ++ spells (says_items old items)
  pub shown : now ≡ seen ++ items_shown items

-- The item is one that needs memory, and this is a prefix of its reply.
pub record IsRefused (old : End) (item : Item) (part : List Item) : Type 0 where
  pub rest : List Item
  pub whole : says_got old item ≡ part ++ rest
  pub grows : MayWantMemory old item

-- The first of the items that are left was refused; if none is left, the decoder needed memory.
abbrev pub IsStopCause : End → List Item → List Item → DecoderState → List ℕ → Type 0
IsStopCause end (item ∷ later) part here back = IsRefused end item part
IsStopCause end [] part here back = (part ≡ []) × WantsMemory here back

-- A prefix of a piece was read, and of its items some were done.
pub record StopsWithin (old : End) (piece before after seen now : List ℕ) : Type 0 where
  pub front : List ℕ
  pub back : List ℕ
  pub whole : piece ≡ front ++ back
  pub done : List Item
  pub left : List Item
  pub here : DecoderState
  pub reads : nvt.Advances old.decoder front (done ++ left) here
  pub part : List Item
  pub said : after ≡ before ++ spells (says_items old done ++ part)
  pub shown : now ≡ seen ++ items_shown done
  pub cause : (stream : List ℕ) (had : List Item) → nvt.LeadsTo stream had old.decoder
      → IsStopCause (end_after_items old done) left part here back

-- The end is as it was, and nothing was sent.
pub record SaysNothing (old : End) (before after : List ℕ) (new : End) : Type 0 where
  pub end : new ≡ old
  pub out : after ≡ before

-- The end is as it was, and nothing was sent or shown.
pub record Untouched (old : End) (before after seen now : List ℕ) (new : End) : Type 0 where
  pub end : new ≡ old
  pub out : after ≡ before
  pub screen : now ≡ seen

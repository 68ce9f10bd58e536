-- The effect of each call of a held decoder.
use Rattle.std.specs.Prelude.{◌≡◌, ◌≢◌, ◌↔◌, ◌⊎◌, ◌<◌, ℕ, List, [], ◌∷◌, ◌++◌, length, map, take, drop, None, MatchOption}
use Rattle.tn_nvt.specs.{Feeding.{LeadsTo, failed, Feeds, IsLetGo}, Sinks.{StopsAtSink, StopsForMemory}}
use Rattle.tn_nvt.specs.declared.items.Item.TheVariants.{Byte}
use Rattle.tn_c.specs.parts.{Items.{ReadStream, item_seen}, Waiting.{AddsItems, AddsNone, StartsWithData}}
use Rattle.tn_c.specs.declared.parts.{codes.Code.Code, decoder.ItemSeen.ItemSeen}
use Rattle.tn_c.specs.declared.parts.codes.Code.TheVariants as code

-- The call reads a piece.
pub record FeedCall (piece : List ℕ) (answer : Code) (before after : ReadStream) : Type 0 where
  pub codes : (answer ≡ code.Done) ⊎ ((answer ≡ code.Memory) ⊎ (answer ≡ code.Failed))
  pub ok : answer ≡ code.Done → Feeds before.decoder piece before.waiting after.waiting after.decoder
  pub memory : answer ≡ code.Memory
      → StopsAtSink AddsItems AddsNone before.decoder piece before.waiting after.waiting
      ⊎ StopsForMemory AddsItems before.decoder piece before.waiting after.waiting
  pub lets_go : IsLetGo before.decoder piece → answer ≡ code.Done
  pub refused : (answer ≡ code.Failed) ↔ (before.decoder ≡ failed)
  pub fails : answer ≢ code.Done → after.decoder ≡ failed
  pub failed_waiting : answer ≡ code.Failed → after.waiting ≡ before.waiting
  pub item : after.item ≡ before.item

-- The call takes the first item that waits.
pub record TakeCall (seen : ItemSeen) (before after : ReadStream) : Type 0 where
  pub decoder : after.decoder ≡ before.decoder
  pub item : MatchOption after.item (before.waiting ≡ []) (λ first. before.waiting ≡ first ∷ after.waiting)
  pub none : before.waiting ≡ [] → after.waiting ≡ []
  pub shown : seen ≡ item_seen after.item

-- Bytes of data that wait were moved to a buffer: some, if data stands first and a byte fits.
pub record TakeRunCall (old_buf new_buf : List ℕ) (count : ℕ) (before after : ReadStream) : Type 0 where
  pub run : before.waiting ≡ map Byte (take count new_buf) ++ after.waiting
  pub rest : drop count new_buf ≡ drop count old_buf
  pub some : 0 < length old_buf → StartsWithData before.waiting → 0 < count
  pub decoder : after.decoder ≡ before.decoder
  pub item : after.item ≡ before.item

-- The decoder has read nothing.
pub record IsFresh (held : ReadStream) : Type 0 where
  pub decoder : LeadsTo [] [] held.decoder
  pub waiting : held.waiting ≡ []
  pub item : held.item ≡ None

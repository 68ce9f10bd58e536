-- Bytes in flight.
use Rattle.std.specs.Prelude.{ℕ, List, [], ◌++◌}
use Rattle.tn_nvt.specs.{declared.items.Item.Item, Stream.Reading, Feeding.{DecoderState, LeadsTo}}

-- These bytes are in flight to this decoder, and whole items:
-- after some stream that it has read they are read as these.
pub record InFlight (decoder : DecoderState) (flight : List ℕ) (items : List Item) : Type 0 where
  pub stream : List ℕ
  pub had : List Item
  pub has_read : LeadsTo stream had decoder
  pub reads : Reading (stream ++ flight) (had ++ items) []

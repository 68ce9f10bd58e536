-- The lines that `tn decode` prints of one direction of a stream.
use Rattle.std.specs.{Prelude.{◌≡◌, ℕ, Option, List, [], ◌++◌}, Io.KnownBytes.{Appends, Consumes}}
use Rattle.tn_nvt.specs.{declared.items.Item.Item, Feeding.LeadsTo, Stream.Reading}
use Rattle.tn_net.specs.printing.{Lines.decoded, Printing.{Printing, Takes}}
use Rattle.tn_net.specs.declared.printing.printer.Prefix.TheVariants.{Empty}
use Rattle.tn_cli.specs.{Streams.AppendsPrefix, Unprinted.Watches, declared.decode.Decoding.Decoding}

-- the output is what is printed of the items of the stream's one reading
pub record IsDecodeOf (stream output : List ℕ) : Type 0 where
  pub items : List Item
  pub rest : List ℕ
  pub reading : Reading stream items rest
  pub printed : output ≡ decoded [] items

-- the whole output was appended, if the writer's content is known
abbrev pub Decodes : List ℕ → Option (List ℕ) → Option (List ℕ) → Type 0
Decodes stream old new = (output : List ℕ) × IsDecodeOf stream output × Appends old new output

-- a prefix of the output was appended
abbrev pub DecodesPrefix : List ℕ → Option (List ℕ) → Option (List ℕ) → Type 0
DecodesPrefix stream old new = (output : List ℕ) × IsDecodeOf stream output × AppendsPrefix old new output

-- These bytes were read, if the reader's bytes are known, and all that is printed of them was appended.
pub record DecodesRead (input rest old new : Option (List ℕ)) : Type 0 where
  pub stream : List ℕ
  pub read : Consumes input rest stream
  pub decodes : Decodes stream old new

-- These bytes were read, and a prefix was appended of what is printed of the first of them.
pub record DecodesSome (input rest old new : Option (List ℕ)) : Type 0 where
  pub stream : List ℕ
  pub more : List ℕ
  pub read : Consumes input rest (stream ++ more)
  pub decodes : DecodesPrefix stream old new

-- no lines, and no data that wait for more
abbrev pub nothing_printed : Printing
nothing_printed = record { prefix = Empty; text = []; held = [] }

-- All lines of the bytes that were read that are complete were written; the data of a line that is not are
-- held.
pub record HasPrinted (stream written : List ℕ) (decoding : Decoding) : Type 0 where
  pub items : List Item
  pub read : LeadsTo stream items decoding.decoder
  pub takes : Takes nothing_printed items (record (decoding.lines) { text = written })
  pub none : decoding.lines.text ≡ []
  pub watched : Watches stream decoding.watch

-- whatever was read and written before, this piece was read, and this text completes it
abbrev pub PrintsPiece : Decoding → List ℕ → List ℕ → Decoding → Type 0
PrintsPiece old piece text new =
    (stream written : List ℕ) → HasPrinted stream written old
    → HasPrinted (stream ++ piece) (written ++ text) new

-- whatever was read and written before, with this text all of it is printed
abbrev pub PrintsLast : Decoding → List ℕ → Type 0
PrintsLast decoding text =
    (stream written : List ℕ) → HasPrinted stream written decoding → IsDecodeOf stream (written ++ text)

-- the piece was read, and the text that completes it was appended
abbrev pub WritesPiece : Decoding → List ℕ → Decoding → Option (List ℕ) → Option (List ℕ) → Type 0
WritesPiece old piece new before after =
    (text : List ℕ) × PrintsPiece old piece text new × Appends before after text

-- the text was appended with which all is printed
abbrev pub WritesLast : Decoding → Option (List ℕ) → Option (List ℕ) → Type 0
WritesLast decoding before after = (text : List ℕ) × PrintsLast decoding text × Appends before after text

-- The first of the bytes that were read before and of this piece have lines of which no more than a beginning
-- was written.
pub record StopsWriting (stream written piece : List ℕ) (before after : Option (List ℕ)) : Type 0 where
  pub front : List ℕ
  pub back : List ℕ
  pub whole : stream ++ piece ≡ front ++ back
  pub gained : List ℕ
  pub left : List ℕ
  pub decodes : IsDecodeOf front ((written ++ gained) ++ left)
  pub appended : Appends before after gained

-- the writer stops at a piece after any bytes that were read and written before
abbrev pub StopsPiece : Decoding → List ℕ → Option (List ℕ) → Option (List ℕ) → Type 0
StopsPiece old piece before after =
    (stream written : List ℕ) → HasPrinted stream written old → StopsWriting stream written piece before after

-- these bytes were read, and this much of their lines was appended
pub record Decoded (input rest old new : Option (List ℕ)) (decoding : Decoding) : Type 0 where
  pub stream : List ℕ
  pub written : List ℕ
  pub read : Consumes input rest stream
  pub appended : Appends old new written
  pub printed : HasPrinted stream written decoding

-- The typed part of a client's stream: data, and the commands that stand for keys at the terminal (RFC 854,
-- RFC 1184, section 2).
use Rattle.std.specs.{Prelude.{◌≡◌, ℕ, Bool, true, false, ◌||◌, List, ◌∷◌, ◌++◌, ◌⊎◌}, List.list_any}
use Rattle.tn_codes.specs.declared.codes.Command.{Command}
use Rattle.tn_codes.specs.declared.codes.Command.TheVariants as command
use Rattle.tn_nvt.specs.declared.items.Item.{Item, TheVariants.{Byte, Newline, Cmd, Neg, Sub}}
use Rattle.tn_nvt.specs.Feeding.{DecoderState, failed, Advances, KeepsParameter}
use Rattle.tn_net.specs.declared.presence.Seen.{Seen}

-- the command stands for a key at the terminal
abbrev pub stands_for_key : Command → Bool
stands_for_key command.Eof = true
stands_for_key command.Susp = true
stands_for_key command.Abort = true
stands_for_key command.Brk = true
stands_for_key command.Ip = true
stands_for_key command.Ec = true
stands_for_key command.El = true
stands_for_key command.Eor = false
stands_for_key command.Nop = false
stands_for_key command.Dm = false
stands_for_key command.Ao = false
stands_for_key command.Ayt = false
stands_for_key command.Ga = false

-- the item is data, or a command that stands for a key
abbrev pub is_typed : Item → Bool
is_typed (Byte byte) = true
is_typed Newline = true
is_typed (Cmd command) = stands_for_key command
is_typed (Neg verb option) = false
is_typed (Sub option params) = false

-- one of these items is typed
abbrev pub are_typed : List Item → Bool
are_typed items = list_any is_typed items

-- it was also seen of these items whether one is typed
abbrev pub Sees : Seen → List Item → Seen → Type 0
Sees old items new = new.typed ≡ (old.typed || are_typed items)

-- every item is taken
abbrev pub LosesNone : Seen → List Item → Seen → Type 0
LosesNone old items new = ⊥

-- the piece was read, and one of the items that it completes is typed or none is
pub record Hears (old : DecoderState) (piece : List ℕ) (typed : Bool) (new : DecoderState) : Type 0 where
  pub items : List Item
  pub adds : Advances old piece items new
  pub told : typed ≡ are_typed items

-- within the piece comes a byte that needs memory
pub record NeedsMemory (old : DecoderState) (piece : List ℕ) : Type 0 where
  pub front : List ℕ
  pub byte : ℕ
  pub back : List ℕ
  pub whole : piece ≡ front ++ byte ∷ back
  pub items : List Item
  pub here : DecoderState
  pub adds : Advances old front items here
  pub wanted : KeepsParameter here byte

-- nothing more is read, so all counts as typed: memory ran out, or had done so before
pub record HearsNoMore (old : DecoderState) (piece : List ℕ) (typed : Bool) (new : DecoderState) : Type 0 where
  pub told : typed ≡ true
  pub fails : new ≡ failed
  pub cause : (old ≡ failed) ⊎ NeedsMemory old piece

-- the report about a piece
abbrev pub TellsOfPiece : DecoderState → List ℕ → Bool → DecoderState → Type 0
TellsOfPiece old piece typed new = Hears old piece typed new ⊎ HearsNoMore old piece typed new

-- Why a call of the client end is refused within a message: memory runs out for what the message leads to.
use Rattle.std.specs.Prelude.{◌≡◌, ◌≢◌, ℕ, ◌⊎◌, List, [], ◌∷◌, ◌++◌}
use Rattle.tn_client.specs.{Calls.ReadsList, Events.{Event, History, typed, got, resized, gets, items}}
use Rattle.tn_client.specs.{Replies.replies, Screen.shows, Terms.options}
use Rattle.tn_client.specs.declared.faults.ClientFault.{ClientFault, TheVariants.Memory}
use Rattle.tn_cores.specs.{client.Run.{Run, Reads, types}, Pieces.WantsMemoryWithin}
use Rattle.tn_cores.specs.declared.client.messages.Origin.{Origin, TheVariants.{Keys, Net}}
use Rattle.tn_cores.specs.declared.messages.Message.{Message, TheVariants.{Piece, Resized, Asked}}
use Rattle.tn_nvt.specs.declared.items.Item.{Item}

-- the event makes the client send or show something
abbrev pub SaysOrShows : History → Event → Type 0
SaysOrShows h e = (replies h e ≢ []) ⊎ (shows h e ≢ [])

-- an item needs memory: to send or to show something, or to read a list
abbrev pub MayWantMemory : History → Item → Type 0
MayWantMemory h item = (replies h (got item) ≢ []) ⊎ ((shows h (got item) ≢ []) ⊎ ReadsList (options h) item)

-- one of these keys sends or shows something, once those before it were typed
abbrev pub RefusesAtKey : History → List ℕ → Type 0
RefusesAtKey h piece =
    (front : List ℕ) × (key : ℕ) × (back : List ℕ) × (piece ≡ front ++ key ∷ back)
    × SaysOrShows (types h front) (typed key)

-- one of the piece's items sends or shows something, or brings a list, once those before it were done
abbrev pub RefusesAtItem : Run → List ℕ → Type 0
RefusesAtItem c piece =
    (done : List Item) × (item : Item) × (left : List Item)
    × Reads c piece (done ++ item ∷ left) × MayWantMemory (gets c.history done) item

-- a byte of the piece is a parameter that is kept
abbrev pub RefusesAtByte : Run → List ℕ → Type 0
RefusesAtByte c piece = WantsMemoryWithin c.stream (items c.history) piece

-- a piece, a size that is sent, or a command is refused for lack of memory, and nothing else is refused
abbrev pub IsRefusalCause : Run → Origin → Message → ClientFault → Type 0
IsRefusalCause c Keys (Piece piece) f = (f ≡ Memory) × RefusesAtKey c.history piece
IsRefusalCause c Net (Piece piece) f = (f ≡ Memory) × (RefusesAtItem c piece ⊎ RefusesAtByte c piece)
IsRefusalCause c _ (Resized size) f =
    (f ≡ Memory) × (replies c.history (resized size.width size.height) ≢ [])
IsRefusalCause c Keys (Asked control) f = f ≡ Memory
IsRefusalCause c _ _ f = ⊥

-- Options of the caller's own: the items of a stream that are theirs, and the bytes that spell the others for
-- the end.
use Rattle.std.specs.Prelude.{◌≡◌, ◌≢◌, ◌↔◌, ◌⊎◌, ◌<◌, ◌≤◌, ℕ, Bool, true, false, not, nat_eq, IsTrue, IsFalse}
use Rattle.std.specs.Prelude.{List, [], ◌∷◌, ◌++◌, length, filter, None, MatchOption, Vec, ◌==◌, ◌||◌}
use Rattle.std.specs.List.{list_any}
use Rattle.tn_codes.specs.{Codes.verb_code, declared.codes.Verb.Verb}
use Rattle.tn_codes.specs.OptionCodes as option_code
use Rattle.tn_nvt.specs.declared.items.Item.{Item, TheVariants.{Byte, Newline, Cmd, Neg, Sub}}
use Rattle.tn_nvt.specs.{Spelling.{spelling, spells, max_parameters}, Feeding.{LeadsTo, Advances, failed}}
use Rattle.tn_nvt.specs.{Room.LacksRoom, Sinks.{StopsAtSink, StopsForMemory}}
use Rattle.tn_c.specs.{parts.Items.item_seen, declared.parts.{codes.Code.Code, decoder.ItemSeen.ItemSeen}}
use Rattle.tn_c.specs.declared.parts.owned.{Owned.Owned, Sieve.Sieve}
use Rattle.tn_c.specs.declared.parts.codes.Code.TheVariants as code

-- the option is one that the ends negotiate themselves
abbrev pub is_ends : ℕ → Bool
is_ends option =
    ((option == option_code.echo || option == option_code.suppress_go_ahead) || option == option_code.naws)
    || option == option_code.linemode

-- the option is among these
abbrev pub has_option : List ℕ → ℕ → Bool
has_option options option = list_any (λ owned. nat_eq owned option) options

-- the item is an option message or a subnegotiation of one of these options
abbrev pub is_own : List ℕ → Item → Bool
is_own options (Byte byte) = false
is_own options Newline = false
is_own options (Cmd command) = false
is_own options (Neg verb option) = has_option options option
is_own options (Sub option params) = has_option options option

-- the items of these options
abbrev pub own_items : List ℕ → List Item → List Item
own_items options items = filter (is_own options) items

-- all other items, which are the end's
abbrev pub other_items : List ℕ → List Item → List Item
other_items options items = filter (λ item. not (is_own options item)) items

-- The sieve took these items: those of owned options wait, and the others are spelled.
pub record Sieves (old : Sieve) (items : List Item) (new : Sieve) : Type 0 where
  pub options : new.options.items ≡ old.options.items
  pub waiting : new.waiting.items ≡ old.waiting.items ++ own_items old.options.items items
  pub rest : new.rest.items ≡ old.rest.items ++ spells (other_items old.options.items items)

-- The sieve took none of these items.
pub record SievesNone (old : Sieve) (items : List Item) (new : Sieve) : Type 0 where
  pub options : new.options.items ≡ old.options.items
  pub waiting : new.waiting.items ≡ old.waiting.items
  pub rest : new.rest.items ≡ old.rest.items

-- No option is owned, and nothing was read.
pub record OwnsNone (owned : Owned) : Type 0 where
  pub options : owned.sieve.options.items ≡ []
  pub waiting : owned.sieve.waiting.items ≡ []
  pub decoder : LeadsTo [] [] owned.decoder
  pub item : owned.item ≡ None
  pub unfed : IsFalse owned.fed
  pub runs : IsFalse owned.failed

-- The call owns an option.
pub record OwnCall (option : ℕ) (answer : Code) (before after : Owned) : Type 0 where
  pub codes : (answer ≡ code.Done)
      ⊎ ((answer ≡ code.Memory) ⊎ ((answer ≡ code.Reserved) ⊎ (answer ≡ code.TooLate)))
  pub reserved : (answer ≡ code.Reserved) ↔ IsTrue (is_ends option)
  pub late : (answer ≡ code.TooLate) ↔ (IsFalse (is_ends option) × IsTrue before.fed)
  pub options : answer ≡ code.Done → after.sieve.options.items ≡ before.sieve.options.items ++ option ∷ []
  pub full : answer ≡ code.Memory → LacksRoom before.sieve.options 1
  pub err : answer ≢ code.Done → after.sieve.options.items ≡ before.sieve.options.items
  pub waiting : after.sieve.waiting.items ≡ before.sieve.waiting.items
  pub decoder : after.decoder ≡ before.decoder
  pub item : after.item ≡ before.item
  pub fed : after.fed ≡ before.fed
  pub failed : after.failed ≡ before.failed

-- the number of waiting items of owned options from which on no piece is read
abbrev pub most_items : ℕ
most_items = 64

-- The items of a piece were sifted: those of owned options wait after the others, and the rest is spelled.
pub record Sifts (piece : List ℕ) (before after : Owned) : Type 0 where
  pub items : List Item
  pub adds : Advances before.decoder piece items after.decoder
  pub waiting : after.sieve.waiting.items
      ≡ before.sieve.waiting.items ++ own_items before.sieve.options.items items
  pub rest : after.sieve.rest.items ≡ spells (other_items before.sieve.options.items items)
  pub failed : after.failed ≡ before.failed

-- Memory was refused to an item of the piece, or to a parameter: the sieve took what came before it.
pub record SiftsNoMore (piece : List ℕ) (before after : Owned) : Type 0 where
  pub empty : Sieve
  pub options : empty.options.items ≡ before.sieve.options.items
  pub waiting : empty.waiting.items ≡ before.sieve.waiting.items
  pub rest : empty.rest.items ≡ []
  pub stops : StopsAtSink Sieves SievesNone before.decoder piece empty after.sieve
      ⊎ StopsForMemory Sieves before.decoder piece empty after.sieve

-- A piece is sifted, or refused: before anything of it is read, if too many items wait.
pub record SiftCall (piece : List ℕ) (answer : Code) (before after : Owned) : Type 0 where
  pub codes : (answer ≡ code.Done)
      ⊎ ((answer ≡ code.Memory) ⊎ ((answer ≡ code.Failed) ⊎ (answer ≡ code.ItemsWait)))
  pub waits : (answer ≡ code.ItemsWait) ↔ (most_items ≤ length before.sieve.waiting.items)
  pub waits_stay : answer ≡ code.ItemsWait → after ≡ before
  pub ok : answer ≡ code.Done → Sifts piece before after
  pub memory : answer ≡ code.Memory → SiftsNoMore piece before after
  pub reads_no_more : answer ≢ code.ItemsWait → (answer ≡ code.Failed) ↔ (before.decoder ≡ failed)
  pub failed_waiting : answer ≡ code.Failed → after.sieve.waiting.items ≡ before.sieve.waiting.items
  pub fails : answer ≢ code.Done → answer ≢ code.ItemsWait → (after.decoder ≡ failed) × IsTrue after.failed
  pub fed : answer ≢ code.ItemsWait → IsTrue after.fed
  pub options : after.sieve.options.items ≡ before.sieve.options.items
  pub item : after.item ≡ before.item

-- No option is owned, and the end takes the piece.
pub record TakesWhole (piece : List ℕ) (before after : Owned) (Takes : List ℕ → Type 0) : Type 0 where
  pub none : before.sieve.options.items ≡ []
  pub takes : Takes piece
  pub owned : after ≡ record before { fed = true }

-- Options are owned, and nothing of the piece reaches the end, which has failed, or else the sieve refuses the
-- piece.
pub record HoldsUp (piece : List ℕ) (answer : Code) (before after : Owned) (has_failed : Bool)
    (Rests : Type 0) : Type 0 where
  pub owns : before.sieve.options.items ≢ []
  pub refused : answer ≢ code.Done
  pub rests : Rests
  pub cause : (IsTrue has_failed × (answer ≡ code.Failed) × (after ≡ before))
      ⊎ (IsFalse has_failed × SiftCall piece answer before after)

-- Options are owned, and the end takes what the piece spells without their items.
pub record TakesRest (piece : List ℕ) (before after : Owned) (has_failed : Bool) (Takes : List ℕ → Type 0)
    : Type 0 where
  pub owns : before.sieve.options.items ≢ []
  pub runs : IsFalse has_failed
  pub sifts : SiftCall piece code.Done before after
  pub takes : Takes after.sieve.rest.items

-- a piece comes to an end
abbrev pub Comes : List ℕ → Code → Owned → Owned → Bool → (List ℕ → Type 0) → Type 0 → Type 0
Comes piece answer before after has_failed Takes Rests =
    TakesWhole piece before after Takes
    ⊎ (HoldsUp piece answer before after has_failed Rests ⊎ TakesRest piece before after has_failed Takes)

-- These bytes came, and these passed to the end: all of them if no option is owned, and else the spelling of
-- their items without those of owned options.
pub record HasCome (came passed : List ℕ) (owned : Owned) : Type 0 where
  pub whole : owned.sieve.options.items ≡ [] → passed ≡ came
  pub sifted : owned.sieve.options.items ≢ [] → (read : List Item) × LeadsTo came read owned.decoder
      × (passed ≡ spells (other_items owned.sieve.options.items read))

-- The call takes the first item of owned options that waits.
pub record TakeOwnCall (seen : ItemSeen) (before after : Owned) : Type 0 where
  pub item : MatchOption after.item (before.sieve.waiting.items ≡ [])
      (λ first. before.sieve.waiting.items ≡ first ∷ after.sieve.waiting.items)
  pub none : before.sieve.waiting.items ≡ [] → after.sieve.waiting.items ≡ []
  pub shown : seen ≡ item_seen after.item
  pub options : after.sieve.options.items ≡ before.sieve.options.items
  pub decoder : after.decoder ≡ before.decoder
  pub fed : after.fed ≡ before.fed
  pub failed : after.failed ≡ before.failed

-- The spelling of an item was appended to what is to be sent, or memory was refused.
pub record PutsItem {Z : Type 0} (item : Item) (answer : Code) (old new : Vec ℕ Z) : Type 0 where
  pub codes : (answer ≡ code.Done) ⊎ (answer ≡ code.Memory)
  pub ok : answer ≡ code.Done → new.items ≡ old.items ++ spelling item
  pub err : answer ≡ code.Memory → new.items ≡ old.items
  pub full : answer ≡ code.Memory → LacksRoom old (length (spelling item))

-- An option message of an owned option was put, whose verb has this byte.
pub record PutsWord {Z : Type 0} (options : List ℕ) (option word : ℕ) (answer : Code) (old new : Vec ℕ Z)
    : Type 0 where
  pub known : (verb : Verb) → verb_code verb ≡ word → IsTrue (has_option options option)
      → PutsItem (Neg verb option) answer old new
  pub not_owned : (answer ≡ code.NotOwned) ↔ IsFalse (has_option options option)
  pub unknown : (answer ≡ code.NoCommand)
      ↔ (IsTrue (has_option options option) × ((verb : Verb) → verb_code verb ≢ word))
  pub unsaid : answer ≢ code.Done → new.items ≡ old.items

-- A subnegotiation of an owned option was put.
pub record PutsSub {Z : Type 0} (options : List ℕ) (option : ℕ) (params : List ℕ) (answer : Code)
    (old new : Vec ℕ Z) : Type 0 where
  pub short : IsTrue (has_option options option) → length params ≤ max_parameters
      → PutsItem (Sub option params) answer old new
  pub not_owned : (answer ≡ code.NotOwned) ↔ IsFalse (has_option options option)
  pub long : (answer ≡ code.TooLong) ↔ (IsTrue (has_option options option) × (max_parameters < length params))
  pub unsaid : answer ≢ code.Done → new.items ≡ old.items

-- An item that lacks memory sends or shows something.
use Rattle.std.proofs.Common.{◌≡◌, ◌≢◌, ◌⊎◌, inl, inr, ℕ, Bool, true, false, Option, List, [], ◌∷◌, ◌++◌, Vec, sym, subst, if◌then◌else◌}
use Rattle.tn_codes.specs.declared.codes.Command.TheVariants as command
use Rattle.tn_codes.specs.declared.masks.Mask.{Mask}
use Rattle.tn_discipline.specs.{HalfLine.{HalfLine, is_full, has_held, has_ahead, GivesText}, declared.keys.Role.Role}
use Rattle.tn_discipline.specs.declared.half_line.Effect.TheVariants as effect
use Rattle.tn_discipline.specs.declared.keys.Role.TheVariants as role
use Rattle.tn_discipline.specs.declared.reads.Entry.TheVariants as entry
use Rattle.tn_linemode.proofs.lemmas.Cutting.{cons_some}
use Rattle.tn_nvt.proofs.lemmas.Lacking.{lacks_bytes, lacks_items}
use Rattle.tn_nvt.specs.{Spelling.lf, declared.items.Item.{Item, TheVariants.{Byte, Newline, Cmd}}}
use Rattle.tn_client.specs.{Calls.End, Events.{Event, typed, entered}, Replies.{byte_items, edit_items, typed_items}}
use Rattle.tn_client.specs.Steps.{role_now, says_typed, shows_key, says, LacksMemoryFor, LacksMemoryToEnter, LacksMemoryBy, LacksRoomFor, SaysOrShows}

pub says_something : {Z : Type 0} (old : End) (e : Event) (out : Vec ℕ Z) → LacksRoomFor old e out → says old e ≢ []
says_something old e out lacks = lacks_items out (says old e) lacks

-- a key that gives a text sends a closing byte, a new line or EOF
some_sent : (bytes : List ℕ) (last : Item) (more : List Item) → (byte_items bytes ++ last ∷ []) ++ more ≢ []
some_sent [] last more = cons_some last more
some_sent (b ∷ bytes) last more = cons_some (Byte b) ((byte_items bytes ++ last ∷ []) ++ more)

kept_none : (full : Bool) (bytes : List ℕ) → (if full then effect.Dropped else effect.Kept) ≡ effect.Gives (entry.Text bytes) → ⊥
kept_none true bytes e = cc
kept_none false bytes e = cc

erased_none : (held ahead : Bool) (bytes : List ℕ)
    → (if held then effect.Erased else (if ahead then effect.ErasedAhead else effect.Nothing)) ≡ effect.Gives (entry.Text bytes) → ⊥
erased_none true ahead bytes e = cc
erased_none false true bytes e = cc
erased_none false false bytes e = cc

text_sent : (f : Option Mask) (l : HalfLine) (r : Role) → GivesText l r → edit_items f r l ≢ []
text_sent f l role.Nl text = some_sent l.held Newline []
text_sent f l (role.Eol byte) text = some_sent l.held (Byte byte) []
text_sent f l (role.Eol2 byte) text = some_sent l.held (Byte byte) []
text_sent f l role.Eof text = some_sent l.held (Cmd command.Eof) []
text_sent f l (role.Ordinary byte) (bytes, e) = absurd (kept_none (is_full l) bytes e)
text_sent f l role.Erase (bytes, e) = absurd (erased_none (has_held l) (has_ahead l) bytes e)
text_sent f l role.Kill (bytes, e) = absurd (cc)
text_sent f l (role.Signal sig) (bytes, e) = absurd (cc)
text_sent f l role.Ignored (bytes, e) = absurd (cc)

says_or_shows_as : {Y Z : Type 0} (old : End) (key : ℕ) (item : Item) (out : Vec ℕ Y) (screen : Vec ℕ Z) → LacksMemoryBy old key item out screen
    → (says_typed old key item ≢ []) ⊎ (shows_key old key ≢ [])
says_or_shows_as old key item out screen (inl said) = inl (lacks_items out (says_typed old key item) said)
says_or_shows_as old key item out screen (inr (inl shown)) = inr (lacks_bytes screen (shows_key old key) shown)
says_or_shows_as old key item out screen (inr (inr text)) =
    inl (subst (λ (b : Bool). typed_items b old.forward (role_now old key) old.line item ≢ []) (sym text.0)
    (text_sent old.forward old.line (role_now old key) text.1))

pub says_or_shows : {Y Z : Type 0} (old : End) (key : ℕ) (out : Vec ℕ Y) (screen : Vec ℕ Z) → LacksMemoryFor old key out screen
    → SaysOrShows old (typed key)
says_or_shows old key out screen lacks = says_or_shows_as old key (Byte key) out screen lacks

pub enters_or_shows : {Y Z : Type 0} (old : End) (out : Vec ℕ Y) (screen : Vec ℕ Z) → LacksMemoryToEnter old out screen → SaysOrShows old entered
enters_or_shows old out screen lacks = says_or_shows_as old lf Newline out screen lacks

-- The end to which each event leads from a history.
use Rattle.std.proofs.Common.{◌≡◌, ℕ, List, ◌++◌, take, map, refl, sym, ap, ◌∙◌, subst}
use Rattle.tn_discipline.specs.declared.echo.Symbol.{Symbol}
use Rattle.tn_linemode.proofs.lemmas.Folding as folding
use Rattle.tn_nvt.specs.declared.items.Item.{Item, TheVariants.{Byte, Newline, Cmd, Neg, Sub}}
use Rattle.tn_server.specs.{Answering.{Feeds, IsHalted}, Calls.{End, LeadsTo}, Replies.{replies, items_said, data_of}, Terms.payload_at}
use Rattle.tn_server.specs.Events.{Event, got, took, wrote, pulled, wished, char_set, echo_set, mask_set, History, next, gets}
use Rattle.tn_server.specs.Steps.{end_after_item, says_item, end_after, says, end_after_items, says_items}
use Rattle.tn_server.proofs.Calling.{stands_took, replies_took, stands_wrote, stands_pulled, stands_wish, replies_wish, stands_char, replies_char, stands_echo}
use Rattle.tn_server.proofs.{Calling.{replies_echo, stands_mask}, Standings.{end_by_terms, says_by_terms, stands_got, replies_got}, Wishing.{sub_got, sub_said}}
use Rattle.tn_server.proofs.Turning.{IsSound, sound, typed_got, quiet_says, words_got, words_said}

-- AN ITEM
item_got : (old : End) (item : Item) → IsSound old → end_by_terms old item ≡ end_after_item old item
item_got old (Byte byte) s = typed_got old (Byte byte) refl refl s
item_got old Newline s = typed_got old Newline refl refl s
item_got old (Cmd command) s = typed_got old (Cmd command) refl refl s
item_got old (Neg verb option) s = words_got old verb option s
item_got old (Sub option params) s = sub_got old option params (payload_at old.terms.options (Sub option params)) refl s

item_said : (old : End) (item : Item) → IsSound old → says_by_terms old item ≡ says_item old item
item_said old (Byte byte) s = quiet_says old (Byte byte) _ refl refl refl refl
item_said old Newline s = quiet_says old Newline _ refl refl refl refl
item_said old (Cmd command) s = quiet_says old (Cmd command) _ refl refl refl refl
item_said old (Neg verb option) s = words_said old verb option s
item_said old (Sub option params) s = sub_said old option params (payload_at old.terms.options (Sub option params)) refl s

pub stands_item : (h : History) (old : End) (item : Item) → LeadsTo h old → LeadsTo (next h (got item)) (end_after_item old item)
stands_item h old item s = subst (LeadsTo (next h (got item))) (item_got old item (sound h old s)) (stands_got h old item s)

pub replies_item : (h : History) (old : End) (item : Item) → LeadsTo h old → replies h (got item) ≡ says_item old item
replies_item h old item s = replies_got h old item s ∙ item_said old item (sound h old s)

-- ANY EVENT
pub stands : (h : History) (old : End) (e : Event) → LeadsTo h old → LeadsTo (next h e) (end_after old e)
stands h old (got item) s = stands_item h old item s
stands h old took s = stands_took h old old.terminal.entries refl s
stands h old (wrote bytes) s = stands_wrote h old bytes s
stands h old (pulled n) s = stands_pulled h old n s
stands h old (wished editing) s = stands_wish h old editing s
stands h old (char_set func value) s = stands_char h old func value s
stands h old (echo_set on) s = stands_echo h old on s
stands h old (mask_set mask) s = stands_mask h old mask s

pub says_as : (h : History) (old : End) (e : Event) → LeadsTo h old → replies h e ≡ says old e
says_as h old (got item) s = replies_item h old item s
says_as h old took s = replies_took h old old.terminal.entries refl s
says_as h old (pulled n) s = ap (λ (q : List Symbol). map data_of (take n q)) (sym s.queue)
says_as h old (wished editing) s = replies_wish h old editing s
says_as h old (char_set func value) s = replies_char h old func value s
says_as h old (echo_set on) s = replies_echo h old on s
says_as h old _ s = refl

-- ITEMS, one after another
pub stands_all : (h : History) (old : End) (items : List Item) → LeadsTo h old → LeadsTo (gets h items) (end_after_items old items)
stands_all = folding.stands_after (λ h item. next h (got item)) end_after_item LeadsTo stands_item

pub says_all : (h : History) (old : End) (items : List Item) → LeadsTo h old → items_said (gets h items) ≡ items_said h ++ says_items old items
says_all = folding.said_after (λ h item. next h (got item)) end_after_item LeadsTo stands_item says_item items_said
    (λ h old item s. ap (λ (xs : List Item). items_said h ++ xs) (replies_item h old item s))

-- a history leads to an end whatever its decoder is, and whether it has failed or its terminal is shut
pub stands_aside : (h : History) (old new : End) → new ≡ record old {
  decoder = new.decoder;
  terminal = record (old.terminal) { closed = new.terminal.closed };
  failed = new.failed;
} → LeadsTo h old → LeadsTo h new
stands_aside h old new is s =
    let here : LeadsTo h (record old {
      decoder = new.decoder;
      terminal = record (old.terminal) { closed = new.terminal.closed };
      failed = new.failed;
    }) = record {
      settings = s.settings;
      table = s.table;
      terms = s.terms;
      modes = s.modes;
      limit = s.limit;
      line = s.line;
      ahead = s.ahead;
      read = s.read;
      count = s.count;
      waits = s.waits;
      queue = s.queue;
      size = s.size;
      due = s.due;
      breaks = s.breaks;
    } in
    subst (LeadsTo h) (sym is) here

-- THE END AFTER A PIECE
pub stands_fed : (h : History) (old new : End) (piece before after : List ℕ) → (f : Feeds old piece before after new) → LeadsTo h old
    → LeadsTo (gets h f.items) new
stands_fed h old new piece before after f s =
    let end = end_after_items old f.items in
    let aside : LeadsTo (gets h f.items) (record end { decoder = new.decoder }) =
    stands_aside (gets h f.items) end (record end { decoder = new.decoder }) refl (stands_all h old f.items s) in
    subst (LeadsTo (gets h f.items)) (sym f.step) aside

pub stands_halted : (h : History) (old new : End) → IsHalted old new → LeadsTo h old → LeadsTo h new
stands_halted h old new is s = stands_aside h old new (is ∙ ap (λ b. record old {
  decoder = new.decoder;
  terminal = record (old.terminal) { closed = new.terminal.closed };
  failed = b;
}) (sym (ap (λ (e : End). e.failed) is))) s

-- Items one after another, and what neither an item nor a call changes.
use Rattle.std.proofs.Common.{◌≡◌, ℕ, Bool, Option, Some, None, List, [], ◌∷◌, ◌++◌, map, refl, ap, ◌∙◌}
use Rattle.tn_codes.specs.declared.payloads.Payload.{Payload, TheVariants.Mode}
use Rattle.tn_linemode.specs.Modes.{wish_of_mask}
use Rattle.tn_linemode.proofs.lemmas.Folding as folding
use Rattle.tn_nvt.specs.{Feeding.DecoderState, declared.items.Item.{Item, TheVariants.{Byte, Sub}}}
use Rattle.tn_server.specs.{Calls.End, Events.{Event, got, wished}, Steps.{says_item, end_after, end_after_items, says_items}, Terms.{payload_at, mask_for}}
use Rattle.tn_server.specs.Steps.{end_after_wish, says_wished, mask_wished, end_after_mode_by, says_mode_by, end_after_payload, says_sub, end_after_item}

pub after_both : (old : End) (xs ys : List Item) → end_after_items old (xs ++ ys) ≡ end_after_items (end_after_items old xs) ys
after_both = folding.after_both end_after_item

pub says_both : (old : End) (xs ys : List Item) → says_items old (xs ++ ys) ≡ says_items old xs ++ says_items (end_after_items old xs) ys
says_both = folding.said_both end_after_item says_item

-- bytes of data get no reply
pub says_plain : (old : End) (bytes : List ℕ) → says_items old (map Byte bytes) ≡ []
says_plain old [] = refl
says_plain old (b ∷ bs) = says_plain (end_after_item old (Byte b)) bs

-- THE DECODER, a failure and whether the terminal is shut are no part of what an event does
module _ (d : DecoderState) (failed closed : Bool) where
  abbrev pub aside : End → End
  aside old = record old { decoder = d; terminal = record (old.terminal) { closed = closed }; failed = failed }

  wish_aside : (old : End) (mask : Option ℕ) → end_after_wish (aside old) mask ≡ aside (end_after_wish old mask)
  wish_aside old None = refl
  wish_aside old (Some mask) = refl

  mode_aside : (old : End) (mask : ℕ) (wish : Option Bool) → end_after_mode_by (aside old) mask wish ≡ aside (end_after_mode_by old mask wish)
  mode_aside old mask None = refl
  mode_aside old mask (Some edit) = wish_aside old (mask_wished old edit)

  sub_aside : (old : End) (payload : Option Payload) → end_after_payload (aside old) payload ≡ aside (end_after_payload old payload)
  sub_aside old (Some (Mode mask)) = mode_aside old mask (wish_of_mask mask)
  sub_aside old _ = refl

  item_aside : (old : End) (item : Item) → end_after_item (aside old) item ≡ aside (end_after_item old item)
  item_aside old (Sub option params) = sub_aside old (payload_at old.terms.options (Sub option params))
  item_aside old _ = refl

  pub call_aside : (old : End) (e : Event) → end_after (aside old) e ≡ aside (end_after old e)
  call_aside old (got item) = item_aside old item
  call_aside old (wished editing) = wish_aside old (mask_for old.terminal.settings.flags editing)
  call_aside old _ = refl

  pub after_aside : (old : End) (items : List Item) → end_after_items (aside old) items ≡ aside (end_after_items old items)
  after_aside old [] = refl
  after_aside old (item ∷ items) = ap (λ (e : End). end_after_items e items) (item_aside old item) ∙ after_aside (end_after_item old item) items

  wished_aside : (old : End) (mask : Option ℕ) → says_wished (aside old) mask ≡ says_wished old mask
  wished_aside old None = refl
  wished_aside old (Some mask) = refl

  mode_says : (old : End) (wish : Option Bool) → says_mode_by (aside old) wish ≡ says_mode_by old wish
  mode_says old None = refl
  mode_says old (Some edit) = wished_aside old (mask_wished old edit)

  sub_says : (old : End) (payload : Option Payload) → says_sub (aside old) payload ≡ says_sub old payload
  sub_says old (Some (Mode mask)) = mode_says old (wish_of_mask mask)
  sub_says old _ = refl

  pub item_says : (old : End) (item : Item) → says_item (aside old) item ≡ says_item old item
  item_says old (Sub option params) = sub_says old (payload_at old.terms.options (Sub option params))
  item_says old _ = refl

  pub says_aside : (old : End) (items : List Item) → says_items (aside old) items ≡ says_items old items
  says_aside old [] = refl
  says_aside old (item ∷ items) =
      ap (λ (said : List Item). said ++ says_items (end_after_item (aside old) item) items) (item_says old item)
      ∙ ap (λ (e : End). says_item old item ++ says_items e items) (item_aside old item)
      ∙ ap (λ (said : List Item). says_item old item ++ said) (says_aside (end_after_item old item) items)

-- an event keeps the decoder, the failure and whether the terminal is shut
pub call_keeps : (old : End) (e : Event) → end_after old e ≡ aside old.decoder old.failed old.terminal.closed (end_after old e)
call_keeps old e = call_aside old.decoder old.failed old.terminal.closed old e

pub items_keep : (old : End) (items : List Item) → end_after_items old items ≡ aside old.decoder old.failed old.terminal.closed (end_after_items old items)
items_keep old items = after_aside old.decoder old.failed old.terminal.closed old items

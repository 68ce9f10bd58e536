-- Items one after another.
use Rattle.std.proofs.Common.{◌≡◌, ℕ, Bool, true, false, List, [], ◌∷◌, ◌++◌, map, refl, sym, ap, ◌∙◌, append_assoc}
use Rattle.tn_discipline.specs.HalfLine.{HalfLine}
use Rattle.tn_linemode.specs.Modes.{edits}
use Rattle.tn_nvt.specs.{Feeding.DecoderState, declared.items.Item.{Item, TheVariants.Byte}}
use Rattle.tn_linemode.proofs.lemmas.Folding as folding
use Rattle.tn_client.specs.{Calls.End, Replies.end_of_edit_items, Screen.item_shown}
use Rattle.tn_client.specs.Steps.{line_left, count_left, count_told, end_after_item, says_got, end_after_items, says_items, items_shown}

pub after_both : (old : End) (xs ys : List Item) → end_after_items old (xs ++ ys) ≡ end_after_items (end_after_items old xs) ys
after_both = folding.after_both end_after_item

pub says_both : (old : End) (xs ys : List Item) → says_items old (xs ++ ys) ≡ says_items old xs ++ says_items (end_after_items old xs) ys
says_both = folding.said_both end_after_item says_got

pub shown_both : (xs ys : List Item) → items_shown (xs ++ ys) ≡ items_shown xs ++ items_shown ys
shown_both [] ys = refl
shown_both (x ∷ xs) ys =
    ap (λ (text : List ℕ). item_shown x ++ text) (shown_both xs ys) ∙ sym (append_assoc (item_shown x) (items_shown xs) (items_shown ys))

-- THE DECODER is no part of what items do
pub after_beside : (old : End) (d : DecoderState) (items : List Item) → end_after_items (record old { decoder = d }) items
    ≡ record (end_after_items old items) { decoder = d }
after_beside old d [] = refl
after_beside old d (item ∷ items) = after_beside (end_after_item old item) d items

pub says_beside : (old : End) (d : DecoderState) (items : List Item) → says_items (record old { decoder = d }) items ≡ says_items old items
says_beside old d [] = refl
says_beside old d (item ∷ items) = ap (λ (said : List Item). says_got old item ++ said) (says_beside (end_after_item old item) d items)

-- PLAIN BYTES: they change nothing but the screen
ending_same : (b : Bool) (bytes : List ℕ) → end_of_edit_items b b bytes ≡ []
ending_same true bytes = refl
ending_same false bytes = refl

line_same : (b : Bool) (n : ℕ) (l : HalfLine) → line_left b b n l ≡ l
line_same true n l = refl
line_same false n l = refl

count_same : (b : Bool) (l : HalfLine) (n : ℕ) → count_left b b l n ≡ n
count_same true l n = refl
count_same false l n = refl

after_byte : (old : End) (byte : ℕ) → end_after_item old (Byte byte) ≡ old
after_byte old byte =
    ap (λ (l : HalfLine). record old {
      line = l;
      trapped = count_left (edits old.mode) (edits old.mode) old.line old.trapped;
      plain = count_left (edits old.mode) (edits old.mode) old.line old.plain;
    })
    (line_same (edits old.mode) (count_told old.mode old.trapped old.plain) old.line)
    ∙ ap (λ (n : ℕ). record old { trapped = n; plain = count_left (edits old.mode) (edits old.mode) old.line old.plain })
    (count_same (edits old.mode) old.line old.trapped)
    ∙ ap (λ (n : ℕ). record old { plain = n }) (count_same (edits old.mode) old.line old.plain)

says_byte : (old : End) (byte : ℕ) → says_got old (Byte byte) ≡ []
says_byte old byte = ap (λ (xs : List Item). xs ++ []) (ending_same (edits old.mode) old.line.held)

pub after_plain : (old : End) (bytes : List ℕ) → end_after_items old (map Byte bytes) ≡ old
after_plain old [] = refl
after_plain old (b ∷ bs) = ap (λ (e : End). end_after_items e (map Byte bs)) (after_byte old b) ∙ after_plain old bs

pub says_plain : (old : End) (bytes : List ℕ) → says_items old (map Byte bytes) ≡ []
says_plain old [] = refl
says_plain old (b ∷ bs) =
    ap (λ (xs : List Item). xs ++ says_items (end_after_item old (Byte b)) (map Byte bs)) (says_byte old b) ∙ says_plain (end_after_item old (Byte b)) bs

pub shown_plain : (bytes : List ℕ) → items_shown (map Byte bytes) ≡ bytes
shown_plain [] = refl
shown_plain (b ∷ bs) = ap (λ (text : List ℕ). b ∷ text) (shown_plain bs)

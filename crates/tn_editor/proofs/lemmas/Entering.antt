-- Lines that go once they end give the entries of a terminal with the editing keys.
use Rattle.std.proofs.Common.{◌≡◌, ◌≤◌, ℕ, suc, ◌+◌, ◌==◌, nat_le, Bool, true, false, not, List, [], ◌∷◌, ◌++◌, length, refl, sym, ap, ◌∙◌, subst}
use Rattle.std.proofs.Common.{if◌then◌else◌, arith, append-nil, append_assoc, length-append}
use Rattle.tn_discipline.specs.{Canon.Canon, Admitted.is_dropped, Limits.max_counted, Steps.{half_next, gain_next, half_all, gain_all}}
use Rattle.tn_discipline.specs.{Entries.{entries_of, half_of}, declared.{keys.Role.Role, reads.Entry.Entry}}
use Rattle.tn_discipline.specs.declared.keys.Role.TheVariants as role
use Rattle.tn_discipline.proofs.lemmas.Histories.{entries-all}
use Rattle.tn_editor.specs.{Changing.{Typed, under, typed_gains}, EditKeys.Terminal, Entering.{ordinary, goes_with, whole_lines}, Grouping.{with_byte, wanted}}
use Rattle.tn_editor.specs.Edited.{Editing, nothing_typed, with_characters, line_bytes, is_refused, has_room, is_kept, with_refused, edited_next, edited_gain}
use Rattle.tn_editor.specs.declared.edit_keys.EditRole.{EditRole, TheVariants.{Plain, EraseWord, Reprint}}
use Rattle.tn_editor.proofs.{Bytes.{Front, erased_front, joined_after, wanted_some, word_erased_front}, lemmas.Typing.{both_of, gain_all-append, half_all-append}}

-- BYTES OF A LINE
not_full : (n k m : ℕ) → n + suc k ≤ m → (n == m) ≡ false
not_full n k m room = grind arith

half_of_bytes : (limit : ℕ) (bytes half : List ℕ) → length half + length bytes ≤ max_counted limit → half_all limit half (ordinary bytes) ≡ half ++ bytes
half_of_bytes limit [] half room = sym (append-nil half)
half_of_bytes limit (b ∷ bytes) half room =
    ap (λ (full : Bool). half_all limit (if full then half else half ++ b ∷ []) (ordinary bytes)) (not_full (length half) (length bytes) (max_counted limit) room)
    ∙ half_of_bytes limit bytes (half ++ b ∷ []) (omega (arith, room, length-append half (b ∷ [])))
    ∙ append_assoc half (b ∷ []) bytes

none_by_test : (full : Bool) → let none : List Entry = [] in (if full then none else none) ≡ none
none_by_test true = refl
none_by_test false = refl

gain_of_bytes : (limit : ℕ) (bytes half : List ℕ) → gain_all limit half (ordinary bytes) ≡ []
gain_of_bytes limit [] half = refl
gain_of_bytes limit (b ∷ bytes) half =
    let next = half_next limit half (role.Ordinary b) in
    ap (λ (gain : List Entry). gain ++ gain_all limit next (ordinary bytes)) (none_by_test (is_dropped limit (length half) (role.Ordinary b)))
    ∙ gain_of_bytes limit bytes next

-- a line and one more key
module _ (limit : ℕ) (bytes : List ℕ) (room : length bytes ≤ max_counted limit) where
  typed_whole : half_all limit [] (ordinary bytes) ≡ bytes
  typed_whole = half_of_bytes limit bytes [] (omega (arith, room))

  line_gains : (r : Role) → gain_all limit [] (ordinary bytes ++ r ∷ []) ≡ gain_next limit bytes r
  line_gains r =
      gain_all-append limit (ordinary bytes) (r ∷ []) []
      ∙ ap (λ (gain : List Entry). gain ++ gain_all limit (half_all limit [] (ordinary bytes)) (r ∷ [])) (gain_of_bytes limit bytes [])
      ∙ ap (λ (half : List ℕ). gain_all limit half (r ∷ [])) typed_whole
      ∙ append-nil (gain_next limit bytes r)

  line_leaves : (r : Role) → half_all limit [] (ordinary bytes ++ r ∷ []) ≡ half_next limit bytes r
  line_leaves r =
      half_all-append limit (ordinary bytes) (r ∷ []) [] ∙ ap (λ (half : List ℕ). half_all limit half (r ∷ [])) typed_whole

-- ONE KEY
module _ (limit : ℕ) (e : Editing) (room : length (line_bytes e) ≤ max_counted limit) where
  key_gains : (r : EditRole) → gain_all limit [] (goes_with e r) ≡ edited_gain e r
  key_gains (Plain role.Nl) = line_gains limit (line_bytes e) room role.Nl
  key_gains (Plain (role.Eol byte)) = line_gains limit (line_bytes e) room (role.Eol byte)
  key_gains (Plain (role.Eol2 byte)) = line_gains limit (line_bytes e) room (role.Eol2 byte)
  key_gains (Plain role.Eof) = line_gains limit (line_bytes e) room role.Eof
  key_gains (Plain (role.Signal sig)) = refl
  key_gains (Plain (role.Ordinary byte)) = refl
  key_gains (Plain role.Erase) = refl
  key_gains (Plain role.Kill) = refl
  key_gains (Plain role.Ignored) = refl
  key_gains EraseWord = refl
  key_gains Reprint = refl

  key_leaves : (r : EditRole) → half_all limit [] (goes_with e r) ≡ []
  key_leaves (Plain role.Nl) = line_leaves limit (line_bytes e) room role.Nl
  key_leaves (Plain (role.Eol byte)) = line_leaves limit (line_bytes e) room (role.Eol byte)
  key_leaves (Plain (role.Eol2 byte)) = line_leaves limit (line_bytes e) room (role.Eol2 byte)
  key_leaves (Plain role.Eof) = line_leaves limit (line_bytes e) room role.Eof
  key_leaves (Plain (role.Signal sig)) = refl
  key_leaves (Plain (role.Ordinary byte)) = refl
  key_leaves (Plain role.Erase) = refl
  key_leaves (Plain role.Kill) = refl
  key_leaves (Plain role.Ignored) = refl
  key_leaves EraseWord = refl
  key_leaves Reprint = refl

-- THE LINE NEVER GROWS OVER ITS LIMIT
front_is_shorter : (whole front : List ℕ) → Front whole front → length front ≤ length whole
front_is_shorter whole front p = omega (arith, ap length p.is_whole, length-append front p.rest)

room_for_one : (n wanted m : ℕ) → nat_le (n + wanted) m ≡ true → 1 ≤ wanted → n + 1 ≤ m
room_for_one n wanted m room some = grind arith

module _ (t : Terminal) (e : Editing) (room : length (line_bytes e) ≤ max_counted t.canon.limit) where
  byte_fits : (byte : ℕ) (kept : Bool) → is_kept t e byte ≡ kept
      → length (line_bytes (if kept then with_characters e (with_byte t.keys.iutf8 e.characters byte)
      else record { ahead = e.ahead; characters = e.characters; refused = with_refused t e byte })) ≤ max_counted t.canon.limit
  byte_fits byte true is =
      let one = room_for_one (length (line_bytes e)) (wanted t.keys.iutf8 e.characters byte) (max_counted t.canon.limit)
      (both_of (not (is_refused t e byte)) (has_room t e byte) is) (wanted_some t.keys.iutf8 e.characters byte) in
      omega (arith, one, ap length (joined_after t.keys.iutf8 e.ahead e.characters byte), length-append (line_bytes e) (byte ∷ []))
  byte_fits byte false is = room

  empty_fits : 0 ≤ max_counted t.canon.limit
  empty_fits = omega arith

  fits : (r : EditRole) → length (line_bytes (edited_next t e r)) ≤ max_counted t.canon.limit
  fits (Plain (role.Ordinary byte)) = byte_fits byte (is_kept t e byte) refl
  fits (Plain role.Erase) = omega (arith, room, front_is_shorter _ _ (erased_front e.ahead e.characters))
  fits EraseWord = omega (arith, room, front_is_shorter _ _ (word_erased_front t.keys.words e.ahead e.characters))
  fits Reprint = room
  fits (Plain (role.Signal sig)) = room
  fits (Plain role.Ignored) = room
  fits (Plain role.Nl) = empty_fits
  fits (Plain (role.Eol byte)) = empty_fits
  fits (Plain (role.Eol2 byte)) = empty_fits
  fits (Plain role.Eof) = empty_fits
  fits (Plain role.Kill) = empty_fits

-- ALL KEYS
module _ (canon : Canon) where
  lines_gain : (typed : List Typed) (e : Editing) → length (line_bytes e) ≤ max_counted canon.limit
      → gain_all canon.limit [] (whole_lines canon e typed) ≡ typed_gains canon e typed
  lines_gain [] e room = refl
  lines_gain (key ∷ typed) e room =
      let next = edited_next (under canon key.keys) e key.role in
      let first = goes_with e key.role in
      let more = whole_lines canon next typed in
      gain_all-append canon.limit first more []
      ∙ ap (λ (gain : List Entry). gain ++ gain_all canon.limit (half_all canon.limit [] first) more) (key_gains canon.limit e room key.role)
      ∙ ap (λ (half : List ℕ). edited_gain e key.role ++ gain_all canon.limit half more) (key_leaves canon.limit e room key.role)
      ∙ ap (λ (gain : List Entry). edited_gain e key.role ++ gain) (lines_gain typed next (fits (under canon key.keys) e room key.role))

  pub same_entries_in_lines : (before : List Role) (typed : List Typed) → half_of canon.limit before ≡ []
      → entries_of canon.limit (before ++ whole_lines canon nothing_typed typed) ≡ entries_of canon.limit before ++ typed_gains canon nothing_typed typed
  same_entries_in_lines before typed empty =
      let more = whole_lines canon nothing_typed typed in
      let entries = entries_of canon.limit before in
      entries-all canon.limit before more
      ∙ ap (λ (half : List ℕ). entries ++ gain_all canon.limit half more) empty
      ∙ ap (λ (gain : List Entry). entries ++ gain) (lines_gain typed nothing_typed (omega arith))

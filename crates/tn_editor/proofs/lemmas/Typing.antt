-- The keys that typed keys become edit the line.
use Rattle.std.proofs.Common.{◌≡◌, ◌≤◌, ℕ, ◌+◌, ◌==◌, nat_le, Bool, true, false, not, ◌&&◌, ◌||◌, List, [], ◌∷◌, ◌++◌, length, map, replicate, refl, sym, ap, ◌∙◌}
use Rattle.std.proofs.Common.{if◌then◌else◌, arith, append-nil, append_assoc}
use Rattle.tn_discipline.specs.{Canon.{Canon, typed_entries, typed_half}, Keys.{role_of_key, roles_of, roles_from}, Steps.{front, half_next, gain_next, half_all, gain_all}}
use Rattle.tn_discipline.specs.{Characters.AreAllowed, Entries.{entries_of, half_of}, Limits.max_counted, declared.{keys.Role.Role, reads.Entry.Entry}}
use Rattle.tn_discipline.specs.declared.keys.Role.TheVariants as role
use Rattle.tn_discipline.proofs.lemmas.{Histories.{half-all, entries-all}, KeyRoles.{roles_of-one, roles_of-append}}
use Rattle.tn_editor.specs.{Grouping.{bytes_of, with_byte, wanted}, declared.edit_keys.EditRole.{EditRole, TheVariants.{Plain, EraseWord, Reprint}}}
use Rattle.tn_editor.specs.{EditKeys.{Terminal, edit_role, edit_role_of_key, edit_roles_of}, Changing.{Typed, under, typed_all, typed_gains, expanded_roles}}
use Rattle.tn_editor.specs.Edited.{Editing, after_half, nothing_typed, with_characters, line_bytes, without_last, word_erased, is_refused, has_room, is_kept}
use Rattle.tn_editor.specs.Edited.{with_refused, edited_next, edited_gain, edited_all, edited_gains, edited, edited_entries, edited_half}
use Rattle.tn_editor.specs.Expanding.{times, erases_newest, erases_word, is_dropped_there, expanded_key, expanded_from, expanded, played_times}
use Rattle.tn_editor.proofs.{Bytes.{joined_after, word_erased_front, erases_leave, erases_to, erases_give_nothing, wanted_some}, Keys.roles_of_expanded}

-- MORE ROLES
pub half_all-append : (limit : ℕ) (xs ys : List Role) (half : List ℕ) → half_all limit half (xs ++ ys) ≡ half_all limit (half_all limit half xs) ys
half_all-append limit [] ys half = refl
half_all-append limit (r ∷ xs) ys half = half_all-append limit xs ys (half_next limit half r)

pub gain_all-append : (limit : ℕ) (xs ys : List Role) (half : List ℕ)
    → gain_all limit half (xs ++ ys) ≡ gain_all limit half xs ++ gain_all limit (half_all limit half xs) ys
gain_all-append limit [] ys half = refl
gain_all-append limit (r ∷ xs) ys half =
    let next = half_next limit half r in
    ap (λ more. gain_next limit half r ++ more) (gain_all-append limit xs ys next)
    ∙ sym (append_assoc (gain_next limit half r) (gain_all limit next xs) (gain_all limit (half_all limit next xs) ys))

pub both_of : (a b : Bool) → (a && b) ≡ true → b ≡ true
both_of true b h = h
both_of false b h = cc

has_room_for_one : (n wanted m : ℕ) → nat_le (n + wanted) m ≡ true → 1 ≤ wanted → (n == m) ≡ false
has_room_for_one n wanted m room some = grind arith

module _ (t : Terminal) (e : Editing) where
  -- a byte that is kept by the editor is not dropped at the plain terminal
  kept_is_not_dropped : (byte : ℕ) → is_kept t e byte ≡ true → is_dropped_there t e ≡ false
  kept_is_not_dropped byte kept =
      has_room_for_one (length (line_bytes e)) (wanted t.keys.iutf8 e.characters byte) (max_counted t.canon.limit)
      (both_of (not (is_refused t e byte)) (has_room t e byte) kept) (wanted_some t.keys.iutf8 e.characters byte)

  byte_half : (byte : ℕ) (k d : Bool) → (k ≡ true → d ≡ false) → is_dropped_there t e ≡ d
      → half_all t.canon.limit (line_bytes e) (replicate (if k || d then 1 else 0) (role.Ordinary byte))
      ≡ line_bytes (if k then with_characters e (with_byte t.keys.iutf8 e.characters byte) else record { ahead = e.ahead; characters = e.characters; refused = with_refused t e byte })
  byte_half byte true true apart is = let no_way : true ≡ false = apart refl in cc
  byte_half byte true false apart is =
      ap (λ (b : Bool). if b then line_bytes e else line_bytes e ++ byte ∷ []) is ∙ sym (joined_after t.keys.iutf8 e.ahead e.characters byte)
  byte_half byte false true apart is = ap (λ (b : Bool). if b then line_bytes e else line_bytes e ++ byte ∷ []) is
  byte_half byte false false apart is = refl

  nothing_gained : (b : Bool) → let none : List Entry = [] in (if b then none else none) ≡ none
  nothing_gained true = refl
  nothing_gained false = refl

  byte_gain : (byte : ℕ) (b : Bool) → gain_all t.canon.limit (line_bytes e) (replicate (if b then 1 else 0) (role.Ordinary byte)) ≡ []
  byte_gain byte true = append-nil _ ∙ nothing_gained (is_dropped_there t e)
  byte_gain byte false = refl

  one_erased : (ahead : List ℕ) → front (ahead ++ []) ≡ front ahead ++ []
  one_erased ahead = ap front (append-nil ahead) ∙ sym (append-nil (front ahead))

  erased_newest : (ahead : List ℕ) (cs : List (List ℕ))
      → half_all t.canon.limit (ahead ++ bytes_of cs) (replicate (erases_newest cs) role.Erase) ≡ line_bytes (without_last ahead cs)
  erased_newest ahead [] = one_erased ahead
  erased_newest ahead (c ∷ before) =
      ap (λ bytes. half_all t.canon.limit bytes (replicate (length c) role.Erase)) (sym (append_assoc ahead (bytes_of before) c))
      ∙ erases_leave t.canon.limit (length c) (ahead ++ bytes_of before) c refl

  erased_word : half_all t.canon.limit (line_bytes e) (replicate (erases_word t e) role.Erase) ≡ line_bytes (word_erased t.keys.words e)
  erased_word =
      erases_to t.canon.limit (line_bytes e) (line_bytes (word_erased t.keys.words e)) (word_erased_front t.keys.words e.ahead e.characters)

  -- the keys that a key becomes have the effect of the key
  step_half : (r : EditRole) → half_all t.canon.limit (line_bytes e) (played_times r (times t e r)) ≡ line_bytes (edited_next t e r)
  step_half (Plain (role.Ordinary byte)) = byte_half byte (is_kept t e byte) (is_dropped_there t e) (kept_is_not_dropped byte) refl
  step_half (Plain role.Erase) = erased_newest e.ahead e.characters
  step_half EraseWord = erased_word
  step_half Reprint = refl
  step_half (Plain role.Ignored) = refl
  step_half (Plain role.Kill) = refl
  step_half (Plain role.Nl) = refl
  step_half (Plain role.Eof) = refl
  step_half (Plain (role.Eol byte)) = refl
  step_half (Plain (role.Eol2 byte)) = refl
  step_half (Plain (role.Signal sig)) = refl

  step_gain : (r : EditRole) → gain_all t.canon.limit (line_bytes e) (played_times r (times t e r)) ≡ edited_gain e r
  step_gain (Plain (role.Ordinary byte)) = byte_gain byte (is_kept t e byte || is_dropped_there t e)
  step_gain (Plain role.Erase) = erases_give_nothing t.canon.limit (erases_newest e.characters) (line_bytes e)
  step_gain EraseWord = erases_give_nothing t.canon.limit (erases_word t e) (line_bytes e)
  step_gain Reprint = refl
  step_gain (Plain role.Ignored) = refl
  step_gain (Plain role.Kill) = refl
  step_gain (Plain role.Nl) = refl
  step_gain (Plain role.Eof) = refl
  step_gain (Plain (role.Eol byte)) = refl
  step_gain (Plain (role.Eol2 byte)) = refl
  step_gain (Plain (role.Signal sig)) = refl

-- KEYS WHILE SETTINGS CHANGE
module _ (canon : Canon) where
  typed_halves : (typed : List Typed) (e : Editing)
      → half_all canon.limit (line_bytes e) (expanded_roles canon e typed) ≡ line_bytes (typed_all canon e typed)
  typed_halves [] e = refl
  typed_halves (key ∷ typed) e =
      let t = under canon key.keys in
      let next = edited_next t e key.role in
      let more = expanded_roles canon next typed in
      half_all-append canon.limit (played_times key.role (times t e key.role)) more (line_bytes e)
      ∙ ap (λ half. half_all canon.limit half more) (step_half t e key.role)
      ∙ typed_halves typed next

  all_gains : (typed : List Typed) (e : Editing)
      → gain_all canon.limit (line_bytes e) (expanded_roles canon e typed) ≡ typed_gains canon e typed
  all_gains [] e = refl
  all_gains (key ∷ typed) e =
      let t = under canon key.keys in
      let next = edited_next t e key.role in
      let first = played_times key.role (times t e key.role) in
      let more = expanded_roles canon next typed in
      gain_all-append canon.limit first more (line_bytes e)
      ∙ ap (λ gain. gain ++ gain_all canon.limit (half_all canon.limit (line_bytes e) first) more) (step_gain t e key.role)
      ∙ ap (λ half. edited_gain e key.role ++ gain_all canon.limit half more) (step_half t e key.role)
      ∙ ap (λ gain. edited_gain e key.role ++ gain) (all_gains typed next)

  -- the half-typed line of keys that come after what was typed before
  pub same_half_by_role : (before : List Role) (typed : List Typed)
      → let e = after_half (half_of canon.limit before) in
      half_of canon.limit (before ++ expanded_roles canon e typed) ≡ line_bytes (typed_all canon e typed)
  same_half_by_role before typed =
      let half = half_of canon.limit before in
      let more = expanded_roles canon (after_half half) typed in
      half-all canon.limit before more
      ∙ ap (λ h. half_all canon.limit h more) (sym (append-nil half))
      ∙ typed_halves typed (after_half half)

  pub same_entries_by_role : (before : List Role) (typed : List Typed)
      → let e = after_half (half_of canon.limit before) in
      entries_of canon.limit (before ++ expanded_roles canon e typed) ≡ entries_of canon.limit before ++ typed_gains canon e typed
  same_entries_by_role before typed =
      let half = half_of canon.limit before in
      let more = expanded_roles canon (after_half half) typed in
      let entries = entries_of canon.limit before in
      entries-all canon.limit before more
      ∙ ap (λ h. entries ++ gain_all canon.limit h more) (sym (append-nil half))
      ∙ ap (λ gain. entries ++ gain) (all_gains typed (after_half half))

-- ALL KEYS
module _ (t : Terminal) where
  abbrev of_edit : Role → EditRole
  of_edit r = edit_role t.canon.settings t.keys r

  left_by_key : (e : Editing) (r : Role) (roles : List Role)
      → edited_all t e (map of_edit (roles_from r ++ roles)) ≡ edited_all t (edited_next t e (of_edit r)) (map of_edit roles)
  left_by_key e role.Ignored roles = refl
  left_by_key e (role.Ordinary byte) roles = refl
  left_by_key e _ roles = refl

  given_by_key : (e : Editing) (r : Role) (roles : List Role)
      → edited_gains t e (map of_edit (roles_from r ++ roles)) ≡ edited_gain e (of_edit r) ++ edited_gains t (edited_next t e (of_edit r)) (map of_edit roles)
  given_by_key e role.Ignored roles = refl
  given_by_key e (role.Ordinary byte) roles = refl
  given_by_key e _ roles = refl

  key_first : (key : ℕ) (keys : List ℕ) → roles_of t.canon.settings (key ∷ keys) ≡ roles_from (role_of_key t.canon.settings key) ++ roles_of t.canon.settings keys
  key_first key keys =
      roles_of-append t.canon.settings (key ∷ []) keys
      ∙ ap (λ roles. roles ++ roles_of t.canon.settings keys) (sym (roles_of-one t.canon.settings key))

  pub all_by_key : (e : Editing) (key : ℕ) (keys : List ℕ)
      → edited_all t e (edit_roles_of t (key ∷ keys)) ≡ edited_all t (edited_next t e (edit_role_of_key t key)) (edit_roles_of t keys)
  all_by_key e key keys =
      ap (λ roles. edited_all t e (map of_edit roles)) (key_first key keys)
      ∙ left_by_key e (role_of_key t.canon.settings key) (roles_of t.canon.settings keys)

  -- one more key at the end
  edited_on : (keys : List ℕ) (key : ℕ) (e : Editing)
      → edited_all t e (edit_roles_of t (keys ++ key ∷ [])) ≡ edited_next t (edited_all t e (edit_roles_of t keys)) (edit_role_of_key t key)
  edited_on [] key e = all_by_key e key []
  edited_on (k ∷ keys) key e =
      all_by_key e k (keys ++ key ∷ [])
      ∙ edited_on keys key (edited_next t e (edit_role_of_key t k))
      ∙ ap (λ s. edited_next t s (edit_role_of_key t key)) (sym (all_by_key e k keys))

  expanded_on : (keys : List ℕ) (key : ℕ) (e : Editing)
      → expanded_from t e (keys ++ key ∷ []) ≡ expanded_from t e keys ++ expanded_key t (edited_all t e (edit_roles_of t keys)) key
  expanded_on [] key e = append-nil (expanded_key t e key)
  expanded_on (k ∷ keys) key e =
      let next = edited_next t e (edit_role_of_key t k) in
      ap (λ more. expanded_key t e k ++ more) (expanded_on keys key next)
      ∙ sym (append_assoc (expanded_key t e k) (expanded_from t next keys) (expanded_key t (edited_all t next (edit_roles_of t keys)) key))
      ∙ ap (λ s. expanded_from t e (k ∷ keys) ++ expanded_key t s key) (sym (all_by_key e k keys))

  pub edited_push : (keys : List ℕ) (key : ℕ) → edited t (keys ++ key ∷ []) ≡ edited_next t (edited t keys) (edit_role_of_key t key)
  edited_push keys key = edited_on keys key nothing_typed

  pub expanded_push : (keys : List ℕ) (key : ℕ) → expanded t (keys ++ key ∷ []) ≡ expanded t keys ++ expanded_key t (edited t keys) key
  expanded_push keys key = expanded_on keys key nothing_typed

  module _ (allowed : AreAllowed t.canon.settings.chars) where
    key_half : (e : Editing) (key : ℕ)
        → half_all t.canon.limit (line_bytes e) (roles_of t.canon.settings (expanded_key t e key)) ≡ line_bytes (edited_next t e (edit_role_of_key t key))
    key_half e key = ap (half_all t.canon.limit (line_bytes e)) (roles_of_expanded t allowed e key) ∙ step_half t e (edit_role_of_key t key)

    key_gain : (e : Editing) (key : ℕ)
        → gain_all t.canon.limit (line_bytes e) (roles_of t.canon.settings (expanded_key t e key)) ≡ edited_gain e (edit_role_of_key t key)
    key_gain e key = ap (gain_all t.canon.limit (line_bytes e)) (roles_of_expanded t allowed e key) ∙ step_gain t e (edit_role_of_key t key)

    halves : (keys : List ℕ) (e : Editing)
        → half_all t.canon.limit (line_bytes e) (roles_of t.canon.settings (expanded_from t e keys)) ≡ line_bytes (edited_all t e (edit_roles_of t keys))
    halves [] e = refl
    halves (key ∷ keys) e =
        let next = edited_next t e (edit_role_of_key t key) in
        let first = roles_of t.canon.settings (expanded_key t e key) in
        let more = roles_of t.canon.settings (expanded_from t next keys) in
        ap (half_all t.canon.limit (line_bytes e)) (roles_of-append t.canon.settings (expanded_key t e key) (expanded_from t next keys))
        ∙ half_all-append t.canon.limit first more (line_bytes e)
        ∙ ap (λ half. half_all t.canon.limit half more) (key_half e key)
        ∙ halves keys next
        ∙ ap line_bytes (sym (left_by_key e (role_of_key t.canon.settings key) (roles_of t.canon.settings keys)))
        ∙ ap (λ roles. line_bytes (edited_all t e (map of_edit roles))) (sym (key_first key keys))

    gains : (keys : List ℕ) (e : Editing)
        → gain_all t.canon.limit (line_bytes e) (roles_of t.canon.settings (expanded_from t e keys)) ≡ edited_gains t e (edit_roles_of t keys)
    gains [] e = refl
    gains (key ∷ keys) e =
        let next = edited_next t e (edit_role_of_key t key) in
        let first = roles_of t.canon.settings (expanded_key t e key) in
        let more = roles_of t.canon.settings (expanded_from t next keys) in
        ap (gain_all t.canon.limit (line_bytes e)) (roles_of-append t.canon.settings (expanded_key t e key) (expanded_from t next keys))
        ∙ gain_all-append t.canon.limit first more (line_bytes e)
        ∙ ap (λ gain. gain ++ gain_all t.canon.limit (half_all t.canon.limit (line_bytes e) first) more) (key_gain e key)
        ∙ ap (λ half. edited_gain e (edit_role_of_key t key) ++ gain_all t.canon.limit half more) (key_half e key)
        ∙ ap (λ gain. edited_gain e (edit_role_of_key t key) ++ gain) (gains keys next)
        ∙ sym (given_by_key e (role_of_key t.canon.settings key) (roles_of t.canon.settings keys))
        ∙ ap (λ roles. edited_gains t e (map of_edit roles)) (sym (key_first key keys))

    pub same_half : (keys : List ℕ) → typed_half t.canon (expanded t keys) ≡ edited_half t keys
    same_half keys = half-all t.canon.limit [] (roles_of t.canon.settings (expanded t keys)) ∙ halves keys nothing_typed

    pub same_entries : (keys : List ℕ) → typed_entries t.canon (expanded t keys) ≡ edited_entries t keys
    same_entries keys = entries-all t.canon.limit [] (roles_of t.canon.settings (expanded t keys)) ∙ gains keys nothing_typed

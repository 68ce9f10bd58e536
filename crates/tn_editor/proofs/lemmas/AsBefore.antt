-- Keys that become themselves.
use Rattle.std.proofs.Common.{◌≡◌, ◌≤◌, ℕ, suc, ◌+◌, ◌==◌, nat_le, nat_lt, Bool, true, false, not, ◌&&◌, ◌||◌, List, [], ◌∷◌, ◌++◌, length, replicate, refl}
use Rattle.std.proofs.{Common.{sym, ap, ◌∙◌, if◌then◌else◌, arith, length-append}, lemmas.List.Elements.{All-head, All-tail}}
use Rattle.std.specs.Prelude.{All}
use Rattle.tn_discipline.specs.Limits.{max_counted}
use Rattle.tn_discipline.specs.declared.keys.Role.TheVariants as role
use Rattle.tn_editor.specs.{Grouping.{announced, look, is_between, continues, newest, before_newest, bytes_of, wanted}, EditKeys.{Terminal, edit_role_of_key}}
use Rattle.tn_editor.specs.Edited.{Editing, no_character, nothing_typed, with_characters, line_bytes, without_last, is_refused, has_room, is_kept, edited_next}
use Rattle.tn_editor.specs.Expanding.{times, becomes, erases_newest, is_dropped_there, expanded_key, expanded_from, expanded, IsAsBefore}
use Rattle.tn_editor.proofs.Bytes.{erased_front}
use Rattle.tn_editor.specs.declared.{characters.Character.Character, edit_keys.EditRole.{EditRole, TheVariants.{Plain, EraseWord, Reprint}}}

-- no byte is one more of this character
abbrev pub IsWhole : Bool → Character → Type 0
IsWhole iutf8 c = (byte : ℕ) → continues iutf8 c byte ≡ false

-- each character has one byte
abbrev pub AreSingle : Bool → List (List ℕ) → Type 0
AreSingle iutf8 [] = Unit {0}
AreSingle iutf8 (c ∷ before) = (length c ≡ 1) × (announced iutf8 (look c).first ≡ 1) × AreSingle iutf8 before

pub record IsSimple (t : Terminal) (e : Editing) : Type 0 where
  pub single : AreSingle t.keys.iutf8 e.characters
  pub whole : IsWhole t.keys.iutf8 e.refused
  pub fits : length (line_bytes e) ≤ max_counted t.canon.limit

-- a byte that announces one byte has no more
one_is_whole : (iutf8 : Bool) (byte : ℕ) → announced iutf8 byte ≡ 1 → IsWhole iutf8 (record { first = byte; length = 1 })
one_is_whole iutf8 byte one more = by_tests (is_between 128 191 more) (announced iutf8 byte) one
  where
    by_tests : (a : Bool) (n : ℕ) → n ≡ 1 → (a && (nat_lt 0 1 && nat_lt 1 n)) ≡ false
    by_tests true n h = grind arith
    by_tests false n h = refl

none_is_whole : (iutf8 : Bool) → IsWhole iutf8 no_character
none_is_whole iutf8 byte = by_test (is_between 128 191 byte)
  where
    by_test : (a : Bool) → (a && false) ≡ false
    by_test true = refl
    by_test false = refl

newest_is_whole : (iutf8 : Bool) (cs : List (List ℕ)) → AreSingle iutf8 cs → IsWhole iutf8 (look (newest cs))
newest_is_whole iutf8 [] h = none_is_whole iutf8
newest_is_whole iutf8 ([] ∷ before) h = cc
newest_is_whole iutf8 ((b ∷ []) ∷ before) h = one_is_whole iutf8 b h.1
newest_is_whole iutf8 ((b ∷ c ∷ more) ∷ before) h = absurd (not_one (length more) h.0)
  where
    not_one : (n : ℕ) → suc (suc n) ≡ 1 → ⊥
    not_one n is = omega (arith, is)

last_is_single : (iutf8 : Bool) (ahead : List ℕ) (cs : List (List ℕ)) → AreSingle iutf8 cs → AreSingle iutf8 (without_last ahead cs).characters
last_is_single iutf8 ahead [] h = h
last_is_single iutf8 ahead (c ∷ before) h = h.2

last_is_whole : (iutf8 : Bool) (ahead : List ℕ) (cs : List (List ℕ)) → IsWhole iutf8 (without_last ahead cs).refused
last_is_whole iutf8 ahead [] = none_is_whole iutf8
last_is_whole iutf8 ahead (c ∷ before) = none_is_whole iutf8

last_fits : (ahead : List ℕ) (cs : List (List ℕ)) → length (line_bytes (without_last ahead cs)) ≤ length (ahead ++ bytes_of cs)
last_fits ahead cs =
    let p = erased_front ahead cs in
    let left = line_bytes (without_last ahead cs) in
    omega (arith, ap length p.is_whole, length-append left p.rest)

erased_once : (iutf8 : Bool) (cs : List (List ℕ)) → AreSingle iutf8 cs → erases_newest cs ≡ 1
erased_once iutf8 [] h = refl
erased_once iutf8 (c ∷ before) h = h.0

module _ (t : Terminal) (e : Editing) (simple : IsSimple t e) where
  is_one : (byte : ℕ) → announced t.keys.iutf8 byte ≡ 1 → wanted t.keys.iutf8 e.characters byte ≡ 1
  is_one byte one =
      ap (λ (b : Bool). if b then 1 else announced t.keys.iutf8 byte) (newest_is_whole t.keys.iutf8 e.characters simple.single byte) ∙ one

  kept_by_room : (byte : ℕ) → announced t.keys.iutf8 byte ≡ 1 → is_kept t e byte ≡ nat_le (length (line_bytes e) + 1) (max_counted t.canon.limit)
  kept_by_room byte one =
      ap (λ (b : Bool). not b && has_room t e byte) (simple.whole byte)
      ∙ ap (λ n. nat_le (length (line_bytes e) + n) (max_counted t.canon.limit)) (is_one byte one)

  one_or_full : (n m : ℕ) → n ≤ m → (nat_le (n + 1) m || n == m) ≡ true
  one_or_full n m h = grind arith

  byte_once : (byte : ℕ) → announced t.keys.iutf8 byte ≡ 1 → times t e (Plain (role.Ordinary byte)) ≡ 1
  byte_once byte one =
      ap (λ (b : Bool). if b || is_dropped_there t e then 1 else 0) (kept_by_room byte one)
      ∙ ap (λ (b : Bool). if b then 1 else 0) (one_or_full (length (line_bytes e)) (max_counted t.canon.limit) simple.fits)

  -- a key becomes itself
  once : (r : EditRole) → IsAsBefore t r → times t e r ≡ 1
  once (Plain (role.Ordinary byte)) h = byte_once byte h
  once (Plain role.Erase) h = erased_once t.keys.iutf8 e.characters simple.single
  once (Plain _) h = refl
  once EraseWord h = absurd h
  once Reprint h = absurd h

  itself : (r : EditRole) (key : ℕ) → IsAsBefore t r → becomes t.canon.settings.chars r key ≡ key
  itself (Plain r) key h = refl
  itself EraseWord key h = absurd h
  itself Reprint key h = absurd h

  pub becomes_itself : (key : ℕ) → IsAsBefore t (edit_role_of_key t key) → expanded_key t e key ≡ key ∷ []
  becomes_itself key h =
      let r = edit_role_of_key t key in
      ap (λ n. replicate n (becomes t.canon.settings.chars r key)) (once r h) ∙ ap (λ k. k ∷ []) (itself r key h)

  -- a byte that becomes itself leaves a line that is as simple
  byte_simple : (byte : ℕ) (kept refused joins : Bool) → announced t.keys.iutf8 byte ≡ 1 → joins ≡ false → refused ≡ false
      → (kept ≡ true → length (line_bytes e) + 1 ≤ max_counted t.canon.limit)
      → let joined = if joins then (newest e.characters ++ byte ∷ []) ∷ before_newest e.characters else (byte ∷ []) ∷ e.characters in
      let left : Character = if refused then record { first = e.refused.first; length = e.refused.length + 1 } else record { first = byte; length = 1 } in
      IsSimple t (if kept then with_characters e joined else record { ahead = e.ahead; characters = e.characters; refused = left })
  byte_simple byte true refused false one j r room =
      record {
        single = (refl, one, simple.single);
        whole = none_is_whole t.keys.iutf8;
        fits =
            omega (
              arith,
              room refl,
              length-append e.ahead (bytes_of e.characters),
              length-append e.ahead (bytes_of e.characters ++ byte ∷ []),
              length-append (bytes_of e.characters) (byte ∷ []),
            );
      }
  byte_simple byte false false false one j r room =
      record { single = simple.single; whole = one_is_whole t.keys.iutf8 byte one; fits = simple.fits }
  byte_simple byte kept true false one j r room = cc
  byte_simple byte kept refused true one j r room = cc

  room_of : (n m : ℕ) → nat_le (n + 1) m ≡ true → n + 1 ≤ m
  room_of n m h = grind arith

  empty_simple : IsSimple t nothing_typed
  empty_simple = record { single = tt; whole = none_is_whole t.keys.iutf8; fits = omega arith }

  pub still_simple : (r : EditRole) → IsAsBefore t r → IsSimple t (edited_next t e r)
  still_simple (Plain (role.Ordinary byte)) h =
      byte_simple byte (is_kept t e byte) (is_refused t e byte) (continues t.keys.iutf8 (look (newest e.characters)) byte) h
      (newest_is_whole t.keys.iutf8 e.characters simple.single byte) (simple.whole byte)
      (λ kept. room_of (length (line_bytes e)) (max_counted t.canon.limit) (sym (kept_by_room byte h) ∙ kept))
  still_simple (Plain role.Erase) h =
      record {
        single = last_is_single t.keys.iutf8 e.ahead e.characters simple.single;
        whole = last_is_whole t.keys.iutf8 e.ahead e.characters;
        fits = omega (arith, simple.fits, last_fits e.ahead e.characters);
      }
  still_simple (Plain (role.Signal sig)) h = simple
  still_simple (Plain role.Ignored) h = simple
  still_simple (Plain _) h = empty_simple
  still_simple EraseWord h = absurd h
  still_simple Reprint h = absurd h

all_themselves : (t : Terminal) (keys : List ℕ) (e : Editing) → IsSimple t e → All (λ key. IsAsBefore t (edit_role_of_key t key)) keys
    → expanded_from t e keys ≡ keys
all_themselves t [] e simple all = refl
all_themselves t (key ∷ keys) e simple all =
    let r = edit_role_of_key t key in
    let P : ℕ → Type 0 = λ k. IsAsBefore t (edit_role_of_key t k) in
    let first = All-head P key keys all in
    ap (λ front. front ++ expanded_from t (edited_next t e r) keys) (becomes_itself t e simple key first)
    ∙ ap (λ rest. key ∷ rest) (all_themselves t keys (edited_next t e r) (still_simple t e simple r first) (All-tail P key keys all))

pub themselves : (t : Terminal) (keys : List ℕ) → All (λ key. IsAsBefore t (edit_role_of_key t key)) keys → expanded t keys ≡ keys
themselves t keys all =
    all_themselves t keys nothing_typed (record { single = tt; whole = none_is_whole t.keys.iutf8; fits = omega arith }) all

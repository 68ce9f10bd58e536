-- A character is kept as a whole, or refused as a whole.
use Rattle.std.proofs.Common.{◌≡◌, ◌≤◌, ◌<◌, ℕ, ◌+◌, nat_le, nat_lt, Bool, true, false, not, ◌&&◌, inl, inr, IsTrue, IsFalse, List, [], ◌∷◌, ◌++◌, length, refl, sym, ap, ◌∙◌}
use Rattle.std.proofs.Common.{if◌then◌else◌, arith, append-nil, append_assoc, length-append}
use Rattle.tn_discipline.specs.Limits.{max_counted}
use Rattle.tn_editor.specs.{Grouping.{is_between, announced, look, continues, newest, before_newest, bytes_of, with_byte}, EditKeys.Terminal}
use Rattle.tn_editor.specs.Edited.{Editing, no_character, with_characters, line_bytes, is_refused, has_room, is_kept, with_refused, edited_all}
use Rattle.tn_editor.specs.{Whole.{bytes_typed, AreMore, IsCharacter, IsWholeOrNone}, declared.characters.Character.Character}

-- a byte that is no more of a character
begins_by_test : (a b c : Bool) → a ≡ false → (a && (b && c)) ≡ false
begins_by_test true b c h = absurd (not_false h)
  where
    not_false : true ≡ false → ⊥
    not_false e = cc
begins_by_test false b c h = refl

begins_one : (iutf8 : Bool) (c : Character) (byte : ℕ) → IsFalse (is_between 128 191 byte) → continues iutf8 c byte ≡ false
begins_one iutf8 c byte h =
    let outside : is_between 128 191 byte ≡ false = h in
    begins_by_test (is_between 128 191 byte) (nat_lt 0 c.length) (nat_lt c.length (announced iutf8 c.first)) outside

more_by_tests : (a : Bool) (n m : ℕ) → a ≡ true → 0 < n → n < m → (a && (nat_lt 0 n && nat_lt n m)) ≡ true
more_by_tests a n m h some less = grind arith

more_of_one : (iutf8 : Bool) (c : Character) (byte : ℕ) → IsTrue (is_between 128 191 byte) → 0 < c.length → c.length < announced iutf8 c.first
    → continues iutf8 c byte ≡ true
more_of_one iutf8 c byte h some less =
    let inside : is_between 128 191 byte ≡ true = h in
    more_by_tests (is_between 128 191 byte) c.length (announced iutf8 c.first) inside some less

room_by : (n m : ℕ) → n ≤ m → nat_le n m ≡ true
room_by n m h = grind arith

nothing_more : (a b : Bool) → (a && (false && b)) ≡ false
nothing_more true b = refl
nothing_more false b = refl

module _ (t : Terminal) (ahead : List ℕ) (before : List (List ℕ)) (first : ℕ) where
  none_more : (byte : ℕ) → continues t.keys.iutf8 no_character byte ≡ false
  none_more byte = nothing_more (is_between 128 191 byte) (nat_lt 0 (announced t.keys.iutf8 0))

  -- a line of these characters after the bytes ahead
  abbrev typed_after : List (List ℕ) → Editing
  typed_after characters = record { ahead = ahead; characters = characters; refused = no_character }

  -- the rest of a character that is refused
  rest_refused : (more : List ℕ) (n : ℕ) → AreMore more → 0 < n → n + length more ≤ announced t.keys.iutf8 first
      → (edited_all t (record { ahead = ahead; characters = before; refused = record { first = first; length = n } }) (bytes_typed more)).characters ≡ before
  rest_refused [] n are some fits = refl
  rest_refused (byte ∷ more) n are some fits =
      let c : Character = record { first = first; length = n } in
      let e : Editing = record { ahead = ahead; characters = before; refused = c } in
      let goes : is_refused t e byte ≡ true = more_of_one t.keys.iutf8 c byte are.0 some (omega (arith, fits)) in
      ap (λ (b : Bool). (edited_all t (if not b && has_room t e byte then with_characters e (with_byte t.keys.iutf8 before byte)
      else record { ahead = ahead; characters = before; refused = if b then record { first = first; length = n + 1 } else record { first = byte; length = 1 } }) (bytes_typed more)).characters) goes
      ∙ rest_refused more (n + 1) are.1 (omega arith) (omega (arith, fits))

  -- the rest of a character that is kept
  rest_kept : (more came : List ℕ) → AreMore more → length came + 1 + length more ≤ announced t.keys.iutf8 first
      → length (ahead ++ bytes_of before) + (length came + 1 + length more) ≤ max_counted t.canon.limit
      → (edited_all t (typed_after ((first ∷ came) ∷ before)) (bytes_typed more)).characters ≡ (first ∷ came ++ more) ∷ before
  rest_kept [] came are fits room = ap (λ bytes. (first ∷ bytes) ∷ before) (sym (append-nil came))
  rest_kept (byte ∷ more) came are fits room =
      let e = typed_after ((first ∷ came) ∷ before) in
      let joins : continues t.keys.iutf8 (look (first ∷ came)) byte ≡ true =
      more_of_one t.keys.iutf8 (look (first ∷ came)) byte are.0 (omega arith) (omega (arith, fits)) in
      let kept : is_kept t e byte ≡ true =
      ap (λ (b : Bool). not b && has_room t e byte) (none_more byte)
      ∙ ap (λ (b : Bool). nat_le (length (line_bytes e) + (if b then 1 else announced t.keys.iutf8 byte)) (max_counted t.canon.limit)) joins
      ∙ room_by (length (line_bytes e) + 1) (max_counted t.canon.limit)
      (omega (arith, room, length-append ahead (bytes_of before), length-append ahead (bytes_of before ++ first ∷ came), length-append (bytes_of before) (first ∷ came))) in
      ap (λ (b : Bool). (edited_all t (if b then with_characters e (with_byte t.keys.iutf8 e.characters byte)
      else record { ahead = e.ahead; characters = e.characters; refused = with_refused t e byte }) (bytes_typed more)).characters) kept
      ∙ ap (λ (b : Bool). (edited_all t (typed_after (if b then (first ∷ came ++ byte ∷ []) ∷ before else (byte ∷ []) ∷ (first ∷ came) ∷ before)) (bytes_typed more)).characters) joins
      ∙ rest_kept more (came ++ byte ∷ []) are.1 (omega (arith, fits, length-append came (byte ∷ []))) (omega (arith, room, length-append came (byte ∷ [])))
      ∙ ap (λ bytes. (first ∷ bytes) ∷ before) (append_assoc came (byte ∷ []) more)

room_from : (n m : ℕ) → nat_le n m ≡ true → n ≤ m
room_from n m h = grind arith

-- the state that a byte leaves, by these tests
abbrev after : Editing → ℕ → Bool → Bool → Bool → Editing
after e first kept refused joins =
    if kept then with_characters e (if joins then (newest e.characters ++ first ∷ []) ∷ before_newest e.characters else (first ∷ []) ∷ e.characters)
    else record {
      ahead = e.ahead;
      characters = e.characters;
      refused = if refused then record { first = e.refused.first; length = e.refused.length + 1 } else record { first = first; length = 1 };
    }

pub whole_or_none : (t : Terminal) (e : Editing) (first : ℕ) (more : List ℕ) → IsCharacter t first more
    → IsWholeOrNone e.characters (first ∷ more) (edited_all t e (bytes_typed (first ∷ more))).characters
whole_or_none t e first more is = by_room (nat_le (length (line_bytes e) + announced t.keys.iutf8 first) (max_counted t.canon.limit)) refl
  where
    begins : (c : Character) → continues t.keys.iutf8 c first ≡ false
    begins c = begins_one t.keys.iutf8 c first is.begins

    kept_is : is_kept t e first ≡ nat_le (length (line_bytes e) + announced t.keys.iutf8 first) (max_counted t.canon.limit)
    kept_is =
        ap (λ (b : Bool). not b && has_room t e first) (begins e.refused)
        ∙ ap (λ (b : Bool). nat_le (length (line_bytes e) + (if b then 1 else announced t.keys.iutf8 first)) (max_counted t.canon.limit)) (begins (look (newest e.characters)))

    by_room : (room : Bool) → nat_le (length (line_bytes e) + announced t.keys.iutf8 first) (max_counted t.canon.limit) ≡ room
        → IsWholeOrNone e.characters (first ∷ more) (edited_all t e (bytes_typed (first ∷ more))).characters
    by_room true h =
        let fits = room_from (length (line_bytes e) + announced t.keys.iutf8 first) (max_counted t.canon.limit) h in
        inl (ap (λ (k : Bool). (edited_all t (after e first k (is_refused t e first) (continues t.keys.iutf8 (look (newest e.characters)) first)) (bytes_typed more)).characters) (kept_is ∙ h)
        ∙ ap (λ (j : Bool). (edited_all t (after e first true (is_refused t e first) j) (bytes_typed more)).characters) (begins (look (newest e.characters)))
        ∙ rest_kept t e.ahead e.characters first more [] is.more_of_it (omega (arith, is.whole)) (omega (arith, is.whole, fits)))
    by_room false h =
        inr (ap (λ (k : Bool). (edited_all t (after e first k (is_refused t e first) (continues t.keys.iutf8 (look (newest e.characters)) first)) (bytes_typed more)).characters) (kept_is ∙ h)
        ∙ ap (λ (r : Bool). (edited_all t (after e first false r (continues t.keys.iutf8 (look (newest e.characters)) first)) (bytes_typed more)).characters) (begins e.refused)
        ∙ rest_refused t e.ahead e.characters first more 1 is.more_of_it (omega arith) (omega (arith, is.whole)))

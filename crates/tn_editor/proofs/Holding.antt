-- An editor holds enough of a half-typed line.
use Rattle.std.proofs.Common.{◌≡◌, ◌≤◌, ℕ, ◌+◌, ◌-◌, ◌==◌, nat_le, nat_lt, Bool, true, false, not, ◌&&◌, ◌||◌, List, [], ◌∷◌, ◌++◌, length, map, take, refl, sym}
use Rattle.std.proofs.{Common.{ap, ◌∙◌, subst, if◌then◌else◌, arith, length-append, length-take}, lemmas.List.take_at}
use Rattle.tn_discipline.specs.{Keys.role_of_key, Limits.max_counted, Steps.front, declared.termios.Settings.Settings}
use Rattle.tn_discipline.specs.declared.keys.Role.TheVariants as role
use Rattle.tn_editor.specs.Grouping.{look, is_between, announced, continues, newest, before_newest, bytes_of, with_byte, past, before_word}
use Rattle.tn_editor.specs.{EditKeys.{Terminal, edit_role, edit_role_of_key}, Edited.{is_kept, with_refused, typed_byte, edited_next}, Following.Holds}
use Rattle.tn_editor.specs.Edited.{Editing, no_character, after_half, with_characters, line_bytes, without_last, without_word, erased, word_erased, is_refused}
use Rattle.tn_editor.specs.{Expanding.{times, erases_newest}, declared.{characters.Character.Character, edit_keys.EditKeys.EditKeys}}
use Rattle.tn_editor.specs.EditedLines.{HeldLine, as_held, line_length, newest_look, rest_of, weigh, AreSome, begun, grown, joined, line_joined, is_parting}
use Rattle.tn_editor.specs.EditedLines.{line_erased, line_word_erased, left_of, room_for, is_taken, refused_next, line_next, times_typed, times_erased}
use Rattle.tn_editor.specs.declared.{edit_keys.{EditRole.TheVariants.{Plain, EraseWord}, Words.Words}, editor.Editor.Editor}
use Rattle.tn_editor.proofs.Bytes.{Front, bytes_joined, word_front}

look_length : (c : List ℕ) → (look c).length ≡ length c
look_length [] = refl
look_length (b ∷ more) = refl

looks_newest : (cs : List (List ℕ)) → newest_look (map look cs) ≡ look (newest cs)
looks_newest [] = refl
looks_newest (c ∷ before) = refl

looks_rest : (cs : List (List ℕ)) → rest_of (map look cs) ≡ map look (before_newest cs)
looks_rest [] = refl
looks_rest (c ∷ before) = refl

weigh_looks : (cs : List (List ℕ)) → weigh (map look cs) ≡ length (bytes_of cs)
weigh_looks [] = refl
weigh_looks (c ∷ before) = omega (arith, weigh_looks before, look_length c, length-append (bytes_of before) c)

past_by_test : (b : Bool) (c : List ℕ) (before after : List (List ℕ)) (looks : List Character) → looks ≡ map look after
    → (if b then looks else look c ∷ map look before) ≡ map look (if b then after else c ∷ before)
past_by_test true c before after looks h = h
past_by_test false c before after looks h = refl

past_looks : (test : Character → Bool) (cs : List (List ℕ)) → past test (map look cs) ≡ map look (past (λ c. test (look c)) cs)
past_looks test [] = refl
past_looks test (c ∷ before) = past_by_test (test (look c)) c before (past (λ c. test (look c)) before) (past test (map look before)) (past_looks test before)

word_looks : (w : Words) (cs : List (List ℕ)) → left_of w (map look cs) ≡ map look (before_word w cs)
word_looks w cs =
    ap (past (is_parting false w)) (past_looks (is_parting true w) cs)
    ∙ past_looks (is_parting false w) (past (λ c. is_parting true w (look c)) cs)

-- A BYTE
never : (a : Bool) (n : ℕ) → (a && (nat_lt 0 0 && nat_lt 0 n)) ≡ true → ⊥
never true n h = cc
never false n h = cc

grown_look : (iutf8 : Bool) (c : List ℕ) (byte : ℕ) → continues iutf8 (look c) byte ≡ true → grown (look c) ≡ look (c ++ byte ∷ [])
grown_look iutf8 [] byte h = absurd (never (is_between 128 191 byte) (announced iutf8 0) h)
grown_look iutf8 (b ∷ more) byte h = ap (λ n. record { first = b; length = n }) (omega (arith, length-append more (byte ∷ [])))

joined_by_test : (iutf8 b : Bool) (cs : List (List ℕ)) (byte : ℕ) → continues iutf8 (look (newest cs)) byte ≡ b
    → (if b then grown (look (newest cs)) ∷ map look (before_newest cs) else begun byte ∷ map look cs)
    ≡ map look (if b then (newest cs ++ byte ∷ []) ∷ before_newest cs else (byte ∷ []) ∷ cs)
joined_by_test iutf8 true cs byte h = ap (λ c. c ∷ map look (before_newest cs)) (grown_look iutf8 (newest cs) byte h)
joined_by_test iutf8 false cs byte h = refl

joined_looks : (iutf8 : Bool) (cs : List (List ℕ)) (byte : ℕ) → joined iutf8 (map look cs) byte ≡ map look (with_byte iutf8 cs byte)
joined_looks iutf8 cs byte =
    ap (λ c. if continues iutf8 c byte then grown c ∷ rest_of (map look cs) else begun byte ∷ map look cs) (looks_newest cs)
    ∙ ap (λ rest. if continues iutf8 (look (newest cs)) byte then grown (look (newest cs)) ∷ rest else begun byte ∷ map look cs) (looks_rest cs)
    ∙ joined_by_test iutf8 (continues iutf8 (look (newest cs)) byte) cs byte refl

-- A LINE
module _ (limit : ℕ) where
  held_with : (ahead n : ℕ) (held bytes : List ℕ) (cs ds : List Character) → ahead ≡ n → held ≡ bytes → cs ≡ ds
      → let one : HeldLine = record { ahead = ahead; held = held; characters = cs; limit = limit } in
      one ≡ record { ahead = n; held = bytes; characters = ds; limit = limit }
  held_with ahead n held bytes cs ds p q r =
      ap (λ (m : ℕ). record { ahead = m; held = held; characters = cs; limit = limit }) p
      ∙ ap (λ (bs : List ℕ). record { ahead = n; held = bs; characters = cs; limit = limit }) q
      ∙ ap (λ (xs : List Character). record { ahead = n; held = bytes; characters = xs; limit = limit }) r

  one_before : (ahead : List ℕ) → length ahead - 1 ≡ length (front ahead)
  one_before ahead = omega (arith, length-take (length ahead - 1) ahead)

  -- the bytes of these characters, cut out of the bytes of all
  cut_held : (whole left : List (List ℕ)) → Front (bytes_of whole) (bytes_of left) → take (weigh (map look left)) (bytes_of whole) ≡ bytes_of left
  cut_held whole left p =
      ap (take (weigh (map look left))) p.is_whole ∙ take_at (bytes_of left) p.rest (weigh (map look left)) (sym (weigh_looks left))

  held_last : (ahead : List ℕ) (cs : List (List ℕ)) (refused : Character)
      → line_erased (as_held limit (record { ahead = ahead; characters = cs; refused = refused })) ≡ as_held limit (without_last ahead cs)
  held_last ahead [] refused = held_with (length ahead - 1) (length (front ahead)) [] [] [] [] (one_before ahead) refl refl
  held_last ahead (c ∷ before) refused =
      held_with (length ahead) (length ahead) (take (weigh (map look before)) (bytes_of (c ∷ before))) (bytes_of before) (map look before) (map look before)
      refl (cut_held (c ∷ before) before (record { rest = c; is_whole = refl })) refl

  erased_held : (e : Editing) → line_erased (as_held limit e) ≡ as_held limit (erased e)
  erased_held e = held_last e.ahead e.characters e.refused

  held_word : (w : Words) (ahead : List ℕ) (cs : List (List ℕ)) (refused : Character)
      → line_word_erased w (as_held limit (record { ahead = ahead; characters = cs; refused = refused })) ≡ as_held limit (without_word w ahead cs)
  held_word w ahead [] refused = held_with (length ahead - 1) (length (front ahead)) [] [] [] [] (one_before ahead) refl refl
  held_word w ahead (c ∷ before) refused =
      let cs = c ∷ before in
      let left = left_of w (map look cs) in
      held_with (length ahead) (length ahead) (take (weigh left) (bytes_of cs)) (bytes_of (before_word w cs)) left (map look (before_word w cs)) refl
      (ap (λ ls. take (weigh ls) (bytes_of cs)) (word_looks w cs) ∙ cut_held cs (before_word w cs) (word_front w cs)) (word_looks w cs)

  word_held : (w : Words) (e : Editing) → line_word_erased w (as_held limit e) ≡ as_held limit (word_erased w e)
  word_held w e = held_word w e.ahead e.characters e.refused

  joined_held : (iutf8 : Bool) (e : Editing) (byte : ℕ)
      → line_joined iutf8 (as_held limit e) byte ≡ as_held limit (with_characters e (with_byte iutf8 e.characters byte))
  joined_held iutf8 e byte =
      let cs = e.characters in
      held_with (length e.ahead) (length e.ahead) (bytes_of cs ++ byte ∷ []) (bytes_of (with_byte iutf8 cs byte))
      (joined iutf8 (map look cs) byte) (map look (with_byte iutf8 cs byte)) refl (sym (bytes_joined iutf8 cs byte)) (joined_looks iutf8 cs byte)

length_held : (limit : ℕ) (e : Editing) → line_length (as_held limit e) ≡ length (line_bytes e)
length_held limit e = sym (length-append e.ahead (bytes_of e.characters))

-- ERASE AND WERASE
some_bytes : (c : List ℕ) → 1 ≤ (look c).length → times_erased (look c) ≡ length c
some_bytes [] h = absurd (omega (arith, h))
some_bytes (b ∷ more) h = by_length (length (b ∷ more)) h
  where
    by_length : (n : ℕ) → 1 ≤ n → (if n == 0 then 1 else n) ≡ n
    by_length n h = grind arith

erased_times : (cs : List (List ℕ)) → AreSome (map look cs) → times_erased (newest_look (map look cs)) ≡ erases_newest cs
erased_times [] h = refl
erased_times (c ∷ before) h = some_bytes c h.0

pub no_last : (ahead : List ℕ) (cs : List (List ℕ)) → no_character ≡ (without_last ahead cs).refused
no_last ahead [] = refl
no_last ahead (c ∷ before) = refl

pub no_word : (w : Words) (ahead : List ℕ) (cs : List (List ℕ)) → no_character ≡ (without_word w ahead cs).refused
no_word w ahead [] = refl
no_word w ahead (c ∷ before) = refl

module _ (t : Terminal) (e : Editing) (old : Editor) (s : Holds t e old) where
  pub erase_times : (n : ℕ) → AreSome old.line.characters → n ≡ times_erased (newest_look old.line.characters) → n ≡ times t e (Plain role.Erase)
  erase_times n some is =
      let line : old.line.characters ≡ map look e.characters = ap (λ (l : HeldLine). l.characters) s.line in
      is ∙ ap (λ cs. times_erased (newest_look cs)) line ∙ erased_times e.characters (subst AreSome line some)

  pub erase_line : line_erased old.line ≡ as_held t.canon.limit (erased e)
  erase_line = ap line_erased s.line ∙ erased_held t.canon.limit e

  pub word_left : line_word_erased old.keys.words old.line ≡ as_held t.canon.limit (word_erased t.keys.words e)
  word_left =
      ap (λ (keys : EditKeys). line_word_erased keys.words old.line) s.keys
      ∙ ap (line_word_erased t.keys.words) s.line
      ∙ word_held t.canon.limit t.keys.words e

  pub word_times : (after : HeldLine) (n m k : ℕ) → n ≡ line_length old.line → after ≡ line_word_erased old.keys.words old.line
      → m ≡ line_length after → k ≡ n - m → k ≡ times t e EraseWord
  word_times after n m k before left length_is is =
      is
      ∙ ap (λ x. x - m) (before ∙ ap line_length s.line ∙ length_held t.canon.limit e)
      ∙ ap (λ x. length (line_bytes e) - x)
      (length_is ∙ ap line_length (left ∙ word_left) ∙ length_held t.canon.limit (word_erased t.keys.words e))

  pub limit_is : old.line.limit ≡ t.canon.limit
  limit_is = ap (λ (l : HeldLine). l.limit) s.line

  -- a line of this many bytes ahead, and no character
  pub resumed_line : (half : List ℕ) (n : ℕ) → length half ≡ n
      → let one : HeldLine = record { ahead = n; held = []; characters = []; limit = old.line.limit } in one ≡ as_held t.canon.limit (after_half half)
  resumed_line half n is =
      ap (λ (l : ℕ). record { ahead = n; held = []; characters = []; limit = l }) limit_is
      ∙ ap (λ (m : ℕ). record { ahead = m; held = []; characters = []; limit = t.canon.limit }) (sym is)

-- A TYPED BYTE
module _ (t : Terminal) (e : Editing) (byte : ℕ) where
  -- the line as it is held
  abbrev line : HeldLine
  line = as_held t.canon.limit e

  taken_held : is_taken t.keys.iutf8 line e.refused byte ≡ is_kept t e byte
  taken_held =
      ap (λ n. not (is_refused t e byte) && nat_le (n + room_for t.keys.iutf8 (map look e.characters) byte) (max_counted t.canon.limit))
      (length_held t.canon.limit e)
      ∙ ap (λ c. not (is_refused t e byte) && nat_le (length (line_bytes e) + (if continues t.keys.iutf8 c byte then 1 else announced t.keys.iutf8 byte)) (max_counted t.canon.limit))
      (looks_newest e.characters)

  line_by_test : (k : Bool) → (if k then line_joined t.keys.iutf8 line byte else line)
      ≡ as_held t.canon.limit (if k then with_characters e (with_byte t.keys.iutf8 e.characters byte)
      else record { ahead = e.ahead; characters = e.characters; refused = with_refused t e byte })
  line_by_test true = joined_held t.canon.limit t.keys.iutf8 e byte
  line_by_test false = refl

  line_held : line_next t.keys.iutf8 line e.refused byte ≡ as_held t.canon.limit (typed_byte t e byte)
  line_held = ap (λ (k : Bool). if k then line_joined t.keys.iutf8 line byte else line) taken_held ∙ line_by_test (is_kept t e byte)

  refused_by_test : (k : Bool) → (if k then no_character else with_refused t e byte)
      ≡ (if k then with_characters e (with_byte t.keys.iutf8 e.characters byte)
      else record { ahead = e.ahead; characters = e.characters; refused = with_refused t e byte }).refused
  refused_by_test true = refl
  refused_by_test false = refl

  refused_held : refused_next t.keys.iutf8 line e.refused byte ≡ (typed_byte t e byte).refused
  refused_held = ap (λ (k : Bool). if k then no_character else with_refused t e byte) taken_held ∙ refused_by_test (is_kept t e byte)

  times_held : times_typed t.keys.iutf8 line e.refused byte ≡ times t e (Plain (role.Ordinary byte))
  times_held =
      ap (λ (k : Bool). if k || line_length line == max_counted t.canon.limit then 1 else 0) taken_held
      ∙ ap (λ n. if is_kept t e byte || n == max_counted t.canon.limit then 1 else 0) (length_held t.canon.limit e)

  module _ (old : Editor) (s : Holds t e old) where
    held_as : {X : Type 0} (f : Bool → HeldLine → Character → ℕ → X) → f old.keys.iutf8 old.line old.refused byte ≡ f t.keys.iutf8 line e.refused byte
    held_as f =
        ap (λ (keys : EditKeys). f keys.iutf8 old.line old.refused byte) s.keys
        ∙ ap (λ l. f t.keys.iutf8 l old.refused byte) s.line
        ∙ ap (λ c. f t.keys.iutf8 line c byte) s.refused

    pub byte_holds : (new : Editor) → new.roles ≡ old.roles → new.keys ≡ old.keys
        → new.line ≡ line_next old.keys.iutf8 old.line old.refused byte
        → new.refused ≡ refused_next old.keys.iutf8 old.line old.refused byte
        → Holds t (edited_next t e (Plain (role.Ordinary byte))) new
    byte_holds new roles keys line_is refused_is =
        record {
          settings = roles ∙ s.settings;
          keys = keys ∙ s.keys;
          line = line_is ∙ held_as line_next ∙ line_held;
          refused = refused_is ∙ held_as refused_next ∙ refused_held;
        }

    pub byte_times : (n : ℕ) → n ≡ times_typed old.keys.iutf8 old.line old.refused byte → n ≡ times t e (Plain (role.Ordinary byte))
    byte_times n is = is ∙ held_as times_typed ∙ times_held

-- A KEY
pub role_held : (t : Terminal) (e : Editing) (old : Editor) (key : ℕ) → Holds t e old
    → edit_role old.roles old.keys (role_of_key old.roles key) ≡ edit_role_of_key t key
role_held t e old key s =
    ap (λ (settings : Settings). edit_role settings old.keys (role_of_key settings key)) s.settings
    ∙ ap (λ (keys : EditKeys). edit_role t.canon.settings keys (role_of_key t.canon.settings key)) s.keys

-- An earlier line, typed again, is the line that it was.
use Rattle.std.proofs.Common.{◌≡◌, ℕ, nat_lt, Bool, true, false, not, ◌&&◌, ◌||◌, Option, Some, None, List, [], ◌∷◌, ◌++◌, replicate, refl, sym, ap, ◌∙◌, subst}
use Rattle.std.proofs.{Common.if◌then◌else◌, lemmas.List.Elements.{All-head, All-tail}}
use Rattle.std.specs.Prelude.{All, IfSome}
use Rattle.tn_codes.specs.declared.codes.Func.TheVariants as func
use Rattle.tn_discipline.specs.{Characters.AreAllowed, Keys.{role_or_ignored, role_of_mapped, role_of_key}, Steps.front, declared.termios.Settings.Settings}
use Rattle.tn_discipline.specs.declared.keys.Role.TheVariants as role
use Rattle.tn_discipline.proofs.lemmas.Functions.{is_set}
use Rattle.tn_editor.specs.{Grouping.{look, is_between, announced, continues, newest, before_newest, bytes_of, with_byte, past, parts_words}, EditKeys.Terminal}
use Rattle.tn_editor.specs.{EditKeys.{edit_role, edit_role_of_key, edit_roles_of}, Edited.{Editing, no_character, nothing_typed, with_characters, line_bytes}}
use Rattle.tn_editor.specs.Edited.{without_last, without_word, is_refused, has_room, is_kept, with_refused, edited_next, edited_all, edited, edited_half}
use Rattle.tn_editor.specs.{Expanding.{times, becomes, is_dropped_there, expanded_key, expanded_from}, Whole.bytes_typed, Recalling.{IsItself, recalling}}
use Rattle.tn_editor.specs.declared.edit_keys.{EditRole.{EditRole, TheVariants.{Plain, EraseWord, Reprint}}, Words.Words}
use Rattle.tn_editor.proofs.{Keys.{unset_by, mapped_to_itself, not_ten}, lemmas.Typing.{both_of, all_by_key}}

-- THE KILL CHARACTER
kill_of_mapped : (settings : Settings) (byte : ℕ) → AreAllowed settings.chars → settings.chars.kill ≡ Some byte → role_of_mapped settings byte ≡ role.Kill
kill_of_mapped settings byte allowed is =
    let free = allowed.unreserved func.El byte is in
    let eol = unset_by settings.chars.eol byte (λ h. cc (allowed.distinct func.El func.Forw1 byte is h)) in
    let eol2 = unset_by settings.chars.eol2 byte (λ h. cc (allowed.distinct func.El func.Forw2 byte is h)) in
    let eof = unset_by settings.chars.eof byte (λ h. cc (allowed.distinct func.El func.Eof byte is h)) in
    let erase = unset_by settings.chars.erase byte (λ h. cc (allowed.distinct func.El func.Ec byte is h)) in
    rw (not_ten byte free, eol, eol2, eof, erase, is_set settings.chars.kill byte is)

kill_role : (settings : Settings) (byte : ℕ) → AreAllowed settings.chars → settings.chars.kill ≡ Some byte → role_of_key settings byte ≡ role.Kill
kill_role settings byte allowed is =
    ap (role_or_ignored settings) (mapped_to_itself settings.flags byte (allowed.unreserved func.El byte is)) ∙ kill_of_mapped settings byte allowed is

nothing_more : (a b : Bool) → (a && (false && b)) ≡ false
nothing_more true b = refl
nothing_more false b = refl

module _ (t : Terminal) where
  -- a line of these characters, and no byte ahead
  abbrev typed : List (List ℕ) → Editing
  typed cs = record { ahead = []; characters = cs; refused = no_character }

  -- each of these bytes is kept, one after another
  abbrev AllKept : Editing → List ℕ → Type 0
  AllKept e [] = Unit {0}
  AllKept e (byte ∷ more) = (is_kept t e byte ≡ true) × AllKept (edited_next t e (Plain (role.Ordinary byte))) more

  -- the bytes are kept, and leave this
  record Comes (e : Editing) (bytes : List ℕ) (after : Editing) : Type 0 where
    pub kept : AllKept e bytes
    pub leaves : edited_all t e (bytes_typed bytes) ≡ after

  kept_both : (xs ys : List ℕ) (e : Editing) → AllKept e xs → AllKept (edited_all t e (bytes_typed xs)) ys → AllKept e (xs ++ ys)
  kept_both [] ys e h k = k
  kept_both (x ∷ xs) ys e h k = (h.0, kept_both xs ys (edited_next t e (Plain (role.Ordinary x))) h.1 k)

  leaves_both : (xs ys : List ℕ) (e : Editing)
      → edited_all t e (bytes_typed (xs ++ ys)) ≡ edited_all t (edited_all t e (bytes_typed xs)) (bytes_typed ys)
  leaves_both [] ys e = refl
  leaves_both (x ∷ xs) ys e = leaves_both xs ys (edited_next t e (Plain (role.Ordinary x)))

  comes_both : (xs ys : List ℕ) (e mid after : Editing) → Comes e xs mid → Comes mid ys after → Comes e (xs ++ ys) after
  comes_both xs ys e mid after p q =
      record {
        kept = kept_both xs ys e p.kept (subst (λ (m : Editing). AllKept m ys) (sym p.leaves) q.kept);
        leaves = leaves_both xs ys e ∙ ap (λ (m : Editing). edited_all t m (bytes_typed ys)) p.leaves ∙ q.leaves;
      }

  -- each character comes of its bytes, after those before it
  abbrev AreTyped : List (List ℕ) → Type 0
  AreTyped [] = Unit {0}
  AreTyped (c ∷ before) = Comes (typed before) c (typed (c ∷ before)) × AreTyped before

  all_come : (cs : List (List ℕ)) → AreTyped cs → Comes nothing_typed (bytes_of cs) (typed cs)
  all_come [] h = record { kept = tt; leaves = refl }
  all_come (c ∷ before) h = comes_both (bytes_of before) c nothing_typed (typed before) (typed (c ∷ before)) (all_come before h.1) h.0

  -- ONE MORE KEY
  none_refused : (byte : ℕ) → continues t.keys.iutf8 no_character byte ≡ false
  none_refused byte = nothing_more (is_between 128 191 byte) (nat_lt 0 (announced t.keys.iutf8 0))

  byte_comes : (cs : List (List ℕ)) (byte : ℕ) → has_room t (typed cs) byte ≡ true → Comes (typed cs) (byte ∷ []) (typed (with_byte t.keys.iutf8 cs byte))
  byte_comes cs byte room =
      let kept : is_kept t (typed cs) byte ≡ true =
      ap (λ (b : Bool). not b && has_room t (typed cs) byte) (none_refused byte) ∙ room in
      record {
        kept = (kept, tt);
        leaves =
            ap (λ (k : Bool). if k then typed (with_byte t.keys.iutf8 cs byte) else record { ahead = []; characters = cs; refused = with_refused t (typed cs) byte })
            kept;
      }

  typed_more : (j : Bool) (cs : List (List ℕ)) (byte : ℕ) → continues t.keys.iutf8 (look (newest cs)) byte ≡ j
      → Comes (typed cs) (byte ∷ []) (typed (if j then (newest cs ++ byte ∷ []) ∷ before_newest cs else (byte ∷ []) ∷ cs))
      → AreTyped cs → AreTyped (if j then (newest cs ++ byte ∷ []) ∷ before_newest cs else (byte ∷ []) ∷ cs)
  typed_more false cs byte is one h = (one, h)
  typed_more true [] byte is one h = let none : false ≡ true = sym (none_refused byte) ∙ is in cc
  typed_more true (c ∷ before) byte is one h =
      (comes_both c (byte ∷ []) (typed before) (typed (c ∷ before)) (typed ((c ++ byte ∷ []) ∷ before)) h.0 one, h.1)

  abbrev IsTyped : Editing → Type 0
  IsTyped e = (e.ahead ≡ []) × AreTyped e.characters

  byte_typed : (e : Editing) (byte : ℕ) (k : Bool) → is_kept t e byte ≡ k → IsTyped e
      → IsTyped (if k then with_characters e (with_byte t.keys.iutf8 e.characters byte)
      else record { ahead = e.ahead; characters = e.characters; refused = with_refused t e byte })
  byte_typed e byte false is h = h
  byte_typed e byte true is h =
      let cs = e.characters in
      let room : has_room t (typed cs) byte ≡ true =
      ap (λ ahead. has_room t (record { ahead = ahead; characters = cs; refused = no_character }) byte) (sym h.0)
      ∙ both_of (not (is_refused t e byte)) (has_room t e byte) is in
      (h.0, typed_more (continues t.keys.iutf8 (look (newest cs)) byte) cs byte refl (byte_comes cs byte room) h.1)

  last_typed : (ahead : List ℕ) (cs : List (List ℕ)) → ahead ≡ [] → AreTyped cs → IsTyped (without_last ahead cs)
  last_typed ahead [] none h = (ap front none, tt)
  last_typed ahead (c ∷ before) none h = (none, h.1)

  past_by_test : (b : Bool) (c : List ℕ) (before after : List (List ℕ)) → AreTyped (c ∷ before) → AreTyped after → AreTyped (if b then after else c ∷ before)
  past_by_test true c before after h k = k
  past_by_test false c before after h k = h

  past_typed : (test : List ℕ → Bool) (cs : List (List ℕ)) → AreTyped cs → AreTyped (past test cs)
  past_typed test [] h = h
  past_typed test (c ∷ before) h = past_by_test (test c) c before (past test before) h (past_typed test before h.1)

  word_typed : (w : Words) (ahead : List ℕ) (cs : List (List ℕ)) → ahead ≡ [] → AreTyped cs → IsTyped (without_word w ahead cs)
  word_typed w ahead [] none h = (ap front none, tt)
  word_typed w ahead (c ∷ before) none h =
      let parted = past (λ d. parts_words w (look d)) (c ∷ before) in
      (none, past_typed (λ d. not (parts_words w (look d))) parted (past_typed (λ d. parts_words w (look d)) (c ∷ before) h))

  next_typed : (e : Editing) (r : EditRole) → IsTyped e → IsTyped (edited_next t e r)
  next_typed e (Plain (role.Ordinary byte)) h = byte_typed e byte (is_kept t e byte) refl h
  next_typed e (Plain role.Erase) h = last_typed e.ahead e.characters h.0 h.1
  next_typed e EraseWord h = word_typed t.keys.words e.ahead e.characters h.0 h.1
  next_typed e Reprint h = h
  next_typed e (Plain (role.Signal sig)) h = h
  next_typed e (Plain role.Ignored) h = h
  next_typed e (Plain _) h = (refl, tt)

  all_typed : (roles : List EditRole) (e : Editing) → IsTyped e → IsTyped (edited_all t e roles)
  all_typed [] e h = h
  all_typed (r ∷ roles) e h = all_typed roles (edited_next t e r) (next_typed e r h)

  -- the bytes of the line, typed on an empty one
  line_comes : (keys : List ℕ) → Comes nothing_typed (edited_half t keys) (typed (edited t keys).characters)
  line_comes keys =
      let h = all_typed (edit_roles_of t keys) nothing_typed (refl, tt) in
      subst (λ bytes. Comes nothing_typed bytes (typed (edited t keys).characters))
      (ap (λ ahead. ahead ++ bytes_of (edited t keys).characters) (sym h.0)) (all_come (edited t keys).characters h.1)

  -- KEYS THAT ARE THEMSELVES
  itself_left : (keys : List ℕ) (e : Editing) → All (IsItself t) keys → edited_all t e (edit_roles_of t keys) ≡ edited_all t e (bytes_typed keys)
  itself_left [] e all = refl
  itself_left (key ∷ keys) e all =
      let next = edited_next t e (Plain (role.Ordinary key)) in
      all_by_key t e key keys
      ∙ ap (λ (r : EditRole). edited_all t (edited_next t e r) (edit_roles_of t keys)) (All-head (IsItself t) key keys all)
      ∙ itself_left keys next (All-tail (IsItself t) key keys all)

  itself_once : (e : Editing) (key : ℕ) → IsItself t key → is_kept t e key ≡ true → expanded_key t e key ≡ key ∷ []
  itself_once e key is kept =
      ap (λ (r : EditRole). replicate (times t e r) (becomes t.canon.settings.chars r key)) is
      ∙ ap (λ (k : Bool). replicate (if k || is_dropped_there t e then 1 else 0) key) kept

  itself_expanded : (keys : List ℕ) (e : Editing) → All (IsItself t) keys → AllKept e keys → expanded_from t e keys ≡ keys
  itself_expanded [] e all kept = refl
  itself_expanded (key ∷ keys) e all kept =
      let is = All-head (IsItself t) key keys all in
      let next = edited_next t e (Plain (role.Ordinary key)) in
      ap (λ front. front ++ expanded_from t (edited_next t e (edit_role_of_key t key)) keys) (itself_once e key is kept.0)
      ∙ ap (λ (r : EditRole). key ∷ expanded_from t (edited_next t e r) keys) is
      ∙ ap (λ rest. key ∷ rest) (itself_expanded keys next (All-tail (IsItself t) key keys all) kept.1)

  module _ (kill : ℕ) (allowed : AreAllowed t.canon.settings.chars) (set : t.canon.settings.chars.kill ≡ Some kill) where
    kills : edit_role_of_key t kill ≡ Plain role.Kill
    kills = ap (edit_role t.canon.settings t.keys) (kill_role t.canon.settings kill allowed set)

    pub half_comes_back : (e : Editing) (keys : List ℕ) → All (IsItself t) (edited_half t keys)
        → line_bytes (edited_all t e (edit_roles_of t (recalling kill (edited_half t keys)))) ≡ edited_half t keys
    half_comes_back e keys all =
        let line = edited_half t keys in
        let h = all_typed (edit_roles_of t keys) nothing_typed (refl, tt) in
        ap line_bytes (all_by_key t e kill line
        ∙ ap (λ (r : EditRole). edited_all t (edited_next t e r) (edit_roles_of t line)) kills
        ∙ itself_left line nothing_typed all ∙ (line_comes keys).leaves)
        ∙ ap (λ ahead. ahead ++ bytes_of (edited t keys).characters) (sym h.0)

    pub keys_come_back : (e : Editing) (keys : List ℕ) → All (IsItself t) (edited_half t keys)
        → expanded_from t e (recalling kill (edited_half t keys)) ≡ recalling kill (edited_half t keys)
    keys_come_back e keys all =
        let line = edited_half t keys in
        ap (λ (r : EditRole). replicate (times t e r) (becomes t.canon.settings.chars r kill) ++ expanded_from t (edited_next t e r) line) kills
        ∙ ap (λ rest. kill ∷ rest) (itself_expanded line nothing_typed all (line_comes keys).kept)

pub always : (found : Option ℕ) (P : Type 0) → P → IfSome found (λ _. P)
always None P p = tt
always (Some byte) P p = p

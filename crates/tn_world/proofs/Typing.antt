-- The effect of a key with EDIT on the half-typed line at both ends.
use Rattle.std.proofs.Common.{◌≡◌, ◌≤◌, ◌<◌, ℕ, ◌+◌, ◌-◌, ◌==◌, nat_lt, Bool, true, false, not, ◌&&◌, Option, Some, None, List, [], ◌∷◌, ◌++◌, length, take}
use Rattle.std.proofs.{Common.{refl, sym, ap, ◌∙◌, if◌then◌else◌, arith, append-nil, append_assoc, length-append, length-take}, Math.Seq.take-append-add}
use Rattle.tn_discipline.specs.{declared.{reads.Entry.Entry, termios.Settings.Settings}, Canon.Canon, Limits.max_counted, Steps.{front, half_next, gain_next}}
use Rattle.tn_discipline.specs.{Characters.{is_set_to, Characters}, Keys.{mapped_key, signal_of, role_by_signal, role_or_ignored, role_of_key, literal_role}}
use Rattle.tn_discipline.specs.{declared.{reads.Sig.{Sig, TheVariants.Int}, keys.Role.Role}, HalfLine.{HalfLine, is_full, has_held, has_ahead}}
use Rattle.tn_discipline.specs.declared.keys.Role.TheVariants as role
use Rattle.tn_codes.specs.declared.{codes.Command.TheVariants.Eof, masks.Mask.Mask}
use Rattle.tn_nvt.specs.declared.items.Item.{Item, TheVariants.{Byte, Newline, Cmd}}
use Rattle.tn_client.specs.{Lines.is_forward, Replies.{byte_items, command_of, command_items, sent_ahead_items, edit_items}, Steps.{line_sent, line_typed}}
use Rattle.tn_world.proofs.{Machine.{read, read_all}, Reading.{ordinary-append, ordinary-take, read-bytes, read-bytes_then}}
use Rattle.tn_world.specs.relation.Relation.{AreOrdinary, server_at}

-- a role of a byte that would close or be kept is that of the byte as it is
abbrev pub IsLiteral : Characters → Role → Type 0
IsLiteral chars (role.Ordinary b) = literal_role chars b ≡ role.Ordinary b
IsLiteral chars (role.Eol b) = literal_role chars b ≡ role.Eol b
IsLiteral chars (role.Eol2 b) = literal_role chars b ≡ role.Eol2 b
IsLiteral chars role.Ignored = Unit
IsLiteral chars role.Nl = Unit
IsLiteral chars role.Eof = Unit
IsLiteral chars (role.Signal sig) = Unit
IsLiteral chars role.Erase = Unit
IsLiteral chars role.Kill = Unit

by_signal : (chars : Characters) (b : ℕ) (isig : Bool) (sig : Option Sig) → literal_role chars b ≡ role.Ordinary b → IsLiteral chars (role_by_signal isig sig b)
by_signal chars b true (Some sig) h = tt
by_signal chars b true None h = h
by_signal chars b false sig h = h

-- the byte as it is, by the tests for a line feed, EOL and EOL2
abbrev as_it_is : ℕ → Bool → Bool → Bool → Role
as_it_is b t u x = if t then role.Nl else (if u then role.Eol b else (if x then role.Eol2 b else role.Ordinary b))

as_tested : (chars : Characters) (b : ℕ) (t u x : Bool) → (b == 10) ≡ t → is_set_to chars.eol b ≡ u → is_set_to chars.eol2 b ≡ x
    → literal_role chars b ≡ as_it_is b t u x
as_tested chars b t u x p q r =
    ap (λ (t : Bool). as_it_is b t (is_set_to chars.eol b) (is_set_to chars.eol2 b)) p
    ∙ ap (λ (u : Bool). as_it_is b t u (is_set_to chars.eol2 b)) q ∙ ap (as_it_is b t u) r

by_tests : (chars : Characters) (b : ℕ) (isig : Bool) (sig : Option Sig) (t u x v w k : Bool) → literal_role chars b ≡ as_it_is b t u x
    → IsLiteral chars (if t then role.Nl else (if u then role.Eol b
    else (if x then role.Eol2 b else (if v then role.Eof else (if w then role.Erase else (if k then role.Kill else role_by_signal isig sig b))))))
by_tests chars b isig sig true u x v w k is = tt
by_tests chars b isig sig false true x v w k is = is
by_tests chars b isig sig false false true v w k is = is
by_tests chars b isig sig false false false true w k is = tt
by_tests chars b isig sig false false false false true k is = tt
by_tests chars b isig sig false false false false false true is = tt
by_tests chars b isig sig false false false false false false is = by_signal chars b isig sig is

by_mapped : (s : Settings) (mapped : Option ℕ) → IsLiteral s.chars (role_or_ignored s mapped)
by_mapped s None = tt
by_mapped s (Some b) =
    by_tests s.chars b s.flags.isig (signal_of s.chars b) (b == 10) (is_set_to s.chars.eol b) (is_set_to s.chars.eol2 b) (is_set_to s.chars.eof b)
    (is_set_to s.chars.erase b) (is_set_to s.chars.kill b)
    (as_tested s.chars b (b == 10) (is_set_to s.chars.eol b) (is_set_to s.chars.eol2 b) refl refl refl)

pub literal_key : (s : Settings) (key : ℕ) → IsLiteral s.chars (role_of_key s key)
literal_key s key = by_mapped s (mapped_key s.flags key)

-- After a key with this role the server's half-typed line, once it has read what is sent, is that of a local
-- terminal up to what the client holds, and the client knows its length.
pub record Follows (s : Canon) (l : Bool) (h : List ℕ) (w : List Entry) (held : List ℕ) (r : Role) (new : HalfLine) (said : List Item) : Type 0 where
  pub half : List ℕ
  pub reads : read_all s (server_at l true h w) said ≡ server_at l true half (w ++ gain_next s.limit (h ++ held) r)
  pub line : half_next s.limit (h ++ held) r ≡ half ++ new.held
  pub ahead : length half ≡ new.ahead
  pub plain : AreOrdinary s.settings.chars new.held

empty_of : (xs : List ℕ) → length xs ≡ 0 → xs ≡ []
empty_of [] h = refl
empty_of (x ∷ xs) h = absurd (omega arith)

below : (most n : ℕ) → n ≤ most → (n == most) ≡ false → n < most
below most n h e = grind arith

room : (most : ℕ) (h held : List ℕ) (b : ℕ) → length (h ++ held) ≤ most → (length (h ++ held) == most) ≡ false → length h + length (held ++ b ∷ []) ≤ most
room most h held b fits test = omega (arith, below most (length (h ++ held)) fits test, length-append h held, length-append held (b ∷ []))

front-append : (h held : List ℕ) → 0 < length held → front (h ++ held) ≡ h ++ front held
front-append h held some =
    let e : length (h ++ held) - 1 ≡ length h + (length held - 1) = omega (arith, length-append h held) in
    ap (λ n. take n (h ++ held)) e ∙ take-append-add h held (length held - 1)

some_of : (n : ℕ) → nat_lt 0 n ≡ true → 0 < n
some_of n h = grind arith

none_of : (n : ℕ) → nat_lt 0 n ≡ false → n ≡ 0
none_of n h = grind arith

-- a server with this half-typed line and these entries, and a client that holds these bytes and knows how
-- many are ahead
module _ (s : Canon) (l : Bool) (h : List ℕ) (w : List Entry) (held : List ℕ) (ahead : ℕ) (plain : AreOrdinary s.settings.chars held)
    (count : length h ≡ ahead) (fits : length (h ++ held) ≤ max_counted s.limit) where
  abbrev old : HalfLine
  old = record { held = held; ahead = ahead; limit = s.limit }

  full : (t : Bool) → is_full old ≡ t → (length (h ++ held) == max_counted s.limit) ≡ t
  full t test = ap (λ n. n == max_counted s.limit) (length-append h held ∙ ap (λ n. n + length held) count) ∙ test

  -- an ordinary byte, by whether the line is full and whether the byte is in the forward mask
  ordinary-follows : (b : ℕ) (t f : Bool) → is_full old ≡ t → literal_role s.settings.chars b ≡ role.Ordinary b
      → Follows s l h w held (role.Ordinary b) (line_sent (not t && f) (if t then old else record old { held = held ++ b ∷ [] }))
      (sent_ahead_items (not t && f) (if t then old else record old { held = held ++ b ∷ [] }))
  ordinary-follows b true f test literal =
      record {
        half = h;
        reads = ap (λ x. server_at l true h x) (sym (ap (λ (t : Bool). w ++ (if t then [] else [])) (full true test) ∙ append-nil w));
        line = ap (λ (t : Bool). if t then h ++ held else (h ++ held) ++ b ∷ []) (full true test);
        ahead = count;
        plain = plain;
      }
  ordinary-follows b false true test literal =
      let more : AreOrdinary s.settings.chars (held ++ b ∷ []) = ordinary-append s.settings.chars held (b ∷ []) plain (literal, tt) in
      record {
        half = h ++ (held ++ b ∷ []);
        reads =
            read-bytes s l h w (held ++ b ∷ []) more (room (max_counted s.limit) h held b fits (full false test))
            ∙ ap (λ x. server_at l true (h ++ (held ++ b ∷ [])) x) (sym (ap (λ (t : Bool). w ++ (if t then [] else [])) (full false test) ∙ append-nil w));
        line = ap (λ (t : Bool). if t then h ++ held else (h ++ held) ++ b ∷ []) (full false test) ∙ append_assoc h held (b ∷ [])
            ∙ sym (append-nil (h ++ (held ++ b ∷ [])));
        ahead = length-append h (held ++ b ∷ []) ∙ ap (λ n. n + length (held ++ b ∷ [])) count;
        plain = tt;
      }
  ordinary-follows b false false test literal =
      record {
        half = h;
        reads = ap (λ x. server_at l true h x) (sym (ap (λ (t : Bool). w ++ (if t then [] else [])) (full false test) ∙ append-nil w));
        line = ap (λ (t : Bool). if t then h ++ held else (h ++ held) ++ b ∷ []) (full false test) ∙ append_assoc h held (b ∷ []);
        ahead = count;
        plain = ordinary-append s.settings.chars held (b ∷ []) plain (literal, tt);
      }

  erase-follows : (t f : Bool) → has_held old ≡ t → has_ahead old ≡ f
      → Follows s l h w held role.Erase (if t then record old { held = front held } else record old { held = []; ahead = ahead - 1 })
      ((if not t && f then command_items (command_of role.Erase) else []) ++ [])
  erase-follows true f some further =
      record {
        half = h;
        reads = ap (λ x. server_at l true h x) (sym (append-nil w));
        line = front-append h held (some_of (length held) some);
        ahead = count;
        plain = ordinary-take s.settings.chars (length held - 1) held plain;
      }
  erase-follows false true none further =
      let nothing : held ≡ [] = empty_of held (none_of (length held) none) in
      record {
        half = front h;
        reads = refl;
        line = ap (λ held. front (h ++ held)) nothing ∙ ap front (append-nil h) ∙ sym (append-nil (front h));
        ahead = omega (arith, length-take (length h - 1) h, count);
        plain = tt;
      }
  erase-follows false false none nowhere =
      let nothing : held ≡ [] = empty_of held (none_of (length held) none) in
      let start : h ≡ [] = empty_of h (count ∙ none_of ahead nowhere) in
      let both : h ++ held ≡ [] = ap (λ held. h ++ held) nothing ∙ append-nil h ∙ start in
      record {
        half = h;
        reads = ap (λ x. server_at l true h x) (sym (append-nil w));
        line = ap front both ∙ sym start ∙ sym (append-nil h);
        ahead = omega (arith, count, none_of ahead nowhere);
        plain = tt;
      }

  kill-follows : (t : Bool) → has_ahead old ≡ t
      → Follows s l h w held role.Kill (record { held = []; ahead = 0; limit = s.limit }) ((if t then command_items (command_of role.Kill) else []) ++ [])
  kill-follows true some = record { half = []; reads = refl; line = refl; ahead = refl; plain = tt }
  kill-follows false nowhere =
      record {
        half = [];
        reads = ap (λ x. server_at l true x w) (empty_of h (count ∙ none_of ahead nowhere)) ∙ ap (λ x. server_at l true [] x) (sym (append-nil w));
        line = refl;
        ahead = refl;
        plain = tt;
      }

  signal-follows : (sig : Sig) → Follows s l h w held (role.Signal sig) old (command_items (command_of (role.Signal sig)) ++ [])
  signal-follows Int = record { half = h; reads = refl; line = refl; ahead = count; plain = plain }
  signal-follows _ = record { half = h; reads = refl; line = refl; ahead = count; plain = plain }

  -- the item that closes a line
  closed : (item : Item) → read_all s (server_at l true h w) ((byte_items held ++ item ∷ []) ++ []) ≡ read s (server_at l true (h ++ held) w) item
  closed item =
      ap (read_all s (server_at l true h w)) (append-nil (byte_items held ++ item ∷ []))
      ∙ read-bytes_then s l h w held item plain (omega (arith, fits, length-append h held))

  closed_by : (b : ℕ) (r : Role) → literal_role s.settings.chars b ≡ r → read_all s (server_at l true h w) ((byte_items held ++ Byte b ∷ []) ++ [])
      ≡ server_at l true (half_next s.limit (h ++ held) r) (w ++ gain_next s.limit (h ++ held) r)
  closed_by b r literal = closed (Byte b) ∙ ap (λ r. server_at l true (half_next s.limit (h ++ held) r) (w ++ gain_next s.limit (h ++ held) r)) literal

  pub key-follows : (forward : Option Mask) (r : Role) → IsLiteral s.settings.chars r
      → Follows s l h w held r (line_typed true forward old r) (edit_items forward r old)
  key-follows forward (role.Ordinary b) literal = ordinary-follows b (is_full old) (is_forward forward b) refl literal
  key-follows forward role.Nl literal = record { half = []; reads = closed Newline; line = refl; ahead = refl; plain = tt }
  key-follows forward (role.Eol b) literal =
      record { half = []; reads = closed_by b (role.Eol b) literal; line = refl; ahead = refl; plain = tt }
  key-follows forward (role.Eol2 b) literal =
      record { half = []; reads = closed_by b (role.Eol2 b) literal; line = refl; ahead = refl; plain = tt }
  key-follows forward role.Eof literal = record { half = []; reads = closed (Cmd Eof); line = refl; ahead = refl; plain = tt }
  key-follows forward (role.Signal sig) literal = signal-follows sig
  key-follows forward role.Erase literal = erase-follows (has_held old) (has_ahead old) refl refl
  key-follows forward role.Kill literal = kill-follows (has_ahead old) refl
  key-follows forward role.Ignored literal =
      record { half = h; reads = ap (λ x. server_at l true h x) (sym (append-nil w)); line = refl; ahead = count; plain = plain }

-- How a server takes clients of other makers.
use Rattle.std.proofs.Common.{◌≡◌, ℕ, ◌+◌, ◌≤◌, ◌<◌, ◌==◌, Bool, true, false, not, nat_le, Option, Some, None, List, [], ◌∷◌, ◌++◌, map, length, refl, sym, ap}
use Rattle.std.proofs.{Common.{◌∙◌, if◌then◌else◌, append-nil, append_assoc, arith, ◌&&◌, subst}, lemmas.{Bool.Decides.nat_tests, List.length-append, Nat.and_assoc}}
use Rattle.std.proofs.lemmas.List.Elements.{All-head, All-tail, All-pop}
use Rattle.std.specs.Prelude.{All}
use Rattle.tn_codes.specs.{PayloadOf.payload_of, declared.payloads.Payload.Payload}
use Rattle.tn_codes.specs.declared.payloads.Payload.TheVariants as payload
use Rattle.tn_discipline.proofs.lemmas.{Histories.{half-next, entries-next}, KeyRoles.{roles_of-one, roles_of-append}}
use Rattle.tn_discipline.specs.{Canon.{Canon, typed_entries, typed_half}, Characters.Characters, Entries.{entries_of, half_of, line_of}, Limits.max_counted}
use Rattle.tn_discipline.specs.{Keys.{roles_of, role_of_key, roles_from, literal_role}, declared.{keys.Role.Role, reads.Entry.{Entry, TheVariants.Text}}}
use Rattle.tn_discipline.specs.{declared.termios.{Flags.Flags, Settings.Settings}, HalfLine.HalfLine}
use Rattle.tn_discipline.specs.declared.keys.Role.TheVariants as role
use Rattle.tn_linemode.specs.Modes.{edits, is_acknowledged, mode_of}
use Rattle.tn_nvt.specs.declared.items.Item.{Item, TheVariants.{Byte, Newline, Cmd, Neg, Sub}}
use Rattle.tn_option.specs.{Options.{Options, new_options, options_after_wish, state_of, is_yes}, QMethod.{cell, wish_for}, declared.q_method.QState.QState}
use Rattle.tn_option.specs.declared.q_method.{Side.TheVariants.Them, QState.TheVariants.{No, Yes, WantNoEmpty, WantNoOpposite, WantYesEmpty, WantYesOpposite}}
use Rattle.tn_pty.specs.Terminal.{queue_with}
use Rattle.tn_server.specs.{Events.{got, wished, char_set, echo_set, History, begun, next, items, gets, limit, opening_settings}, Screen.{queue, byte_shows}}
use Rattle.tn_server.specs.OtherClients.{AreOrdinary, AreOrdinaryBy, AcknowledgesNoEdit, KeepsCharacters, StaysRemote, opening_canon, roles_of_items, keys_of}
use Rattle.tn_server.specs.{OtherClients.{IsNoCommand, line_items, IsText, IsLine, text_items}, Lines.{role_of_byte, role_at, roles, entries, half, line}}
use Rattle.tn_server.specs.declared.{openings.Opening.{Opening, TheVariants.{Keys, Lines}}, wishes.Editing.Editing}
use Rattle.tn_server.specs.Terms.{opening_options, options_with_echo, terms_by, wish_after, asks_echo, mask_told, wants_echo, asked_mask_of, Terms, terms}
use Rattle.tn_server.specs.Terms.{linemode, options, flags, chars, settings, mode, mask_after, chars_after, changes, payload_at, echoes}
use Rattle.tn_server.proofs.{Turning.fitted_nothing, lemmas.{Histories.{gets-push, gets-append, limit-gets}, Terms.{differ_self, terms_stay}}}

-- THE MODE stays without EDIT
pub edits-mode_of : (mask : ℕ) → edits (mode_of mask) ≡ edits mask
edits-mode_of mask = ap (λ (n : ℕ). not (n == 0)) (and_assoc 1 mask 3)

acknowledged : (b : Bool) (m mask : ℕ) → is_acknowledged mask ≡ b → edits m ≡ false → (is_acknowledged mask ≡ true → edits mask ≡ false)
    → edits (if b then mode_of mask else m) ≡ false
acknowledged true m mask is before none = edits-mode_of mask ∙ none is
acknowledged false m mask is before none = before

no_edit : (p : Option Payload) (changed : Bool) (m : ℕ) → edits m ≡ false → AcknowledgesNoEdit p → edits (mask_after changed m p) ≡ false
no_edit p true m before none = refl
no_edit None false m before none = before
no_edit (Some (payload.Mode mask)) false m before none = acknowledged (is_acknowledged mask) m mask refl before none
no_edit (Some p) false m before none = before

under_no_edit : (on : Bool) (p : Option Payload) → AcknowledgesNoEdit p → AcknowledgesNoEdit (if on then p else None)
under_no_edit true p none = none
under_no_edit false p none = tt

under_keeps : (c : Characters) (on : Bool) (p : Option Payload) → KeepsCharacters c p → KeepsCharacters c (if on then p else None)
under_keeps c true p keeps = keeps
under_keeps c false p keeps = tt

chars_kept : (c : Characters) (p : Option Payload) → KeepsCharacters c p → chars_after c p ≡ c
chars_kept c (Some (payload.Slc triples)) keeps = keeps
chars_kept c _ keeps = refl

pub stays_remote : (h : History) → StaysRemote h → edits (mode h) ≡ false
stays_remote (begun o canon) s = refl
stays_remote (next h (got (Sub option params))) s =
    no_edit (payload_at (options h) (Sub option params)) (changes (options h) (options (next h (got (Sub option params))))) (mode h) (stays_remote h s.0)
    (under_no_edit (is_yes (state_of (options h) Them option) && nat_le (length params) 512) (payload_of option params) s.1.0)
stays_remote (next h (got (Byte b))) s = no_edit None (changes (options h) (options (next h (got (Byte b))))) (mode h) (stays_remote h s.0) tt
stays_remote (next h (got Newline)) s = no_edit None (changes (options h) (options (next h (got Newline)))) (mode h) (stays_remote h s.0) tt
stays_remote (next h (got (Cmd c))) s = no_edit None (changes (options h) (options (next h (got (Cmd c))))) (mode h) (stays_remote h s.0) tt
stays_remote (next h (got (Neg v o))) s = no_edit None (changes (options h) (options (next h (got (Neg v o))))) (mode h) (stays_remote h s.0) tt
stays_remote (next h (char_set f v)) s = absurd s.1
stays_remote (next h _) s = stays_remote h s.0

pub same_chars : (h : History) → StaysRemote h → chars h ≡ (opening_settings h).chars
same_chars (begun o canon) s = refl
same_chars (next h (got (Sub option params))) s =
    let c = (opening_settings h).chars in
    ap (λ (x : Characters). chars_after x (payload_at (options h) (Sub option params))) (same_chars h s.0)
    ∙ chars_kept c (payload_at (options h) (Sub option params)) (under_keeps c (is_yes (state_of (options h) Them option) && nat_le (length params) 512)
    (payload_of option params) s.1.1)
same_chars (next h (char_set f v)) s = absurd s.1
same_chars (next h _) s = same_chars h s.0

-- no flag but ECHO changes
pub same_flags : (h : History) → flags h ≡ record ((opening_settings h).flags) { echo = (flags h).echo }
same_flags (begun o canon) = refl
same_flags (next h (echo_set on)) = ap (λ (f : Flags). record f { echo = on }) (same_flags h)
same_flags (next h _) = same_flags h

-- THE ROLES: of an item that comes
echo_is_no_matter : (s : Settings) (echo : Bool) (item : Item) →
    role_at (record { flags = record (s.flags) { echo = echo }; chars = s.chars }) false item ≡ role_at s false item
echo_is_no_matter s echo (Byte b) = refl
echo_is_no_matter s echo _ = refl

role_then : (h : History) → StaysRemote h → (item : Item) → role_at (settings h) (edits (mode h)) item ≡ role_at (opening_settings h) false item
role_then h s item =
    let o = opening_settings h in
    ap (λ (b : Bool). role_at (settings h) b item) (stays_remote h s)
    ∙ ap (λ (c : Characters). role_at (record { flags = flags h; chars = c }) false item) (same_chars h s)
    ∙ ap (λ (f : Flags). role_at (record { flags = f; chars = o.chars }) false item) (same_flags h)
    ∙ echo_is_no_matter o (flags h).echo item

roles_of_items-push : (s : Settings) (xs : List Item) (item : Item)
    → roles_of_items s (xs ++ item ∷ []) ≡ roles_of_items s xs ++ roles_from (role_at s false item)
roles_of_items-push s [] item = append-nil (roles_from (role_at s false item))
roles_of_items-push s (x ∷ xs) item =
    ap (λ rs. roles_from (role_at s false x) ++ rs) (roles_of_items-push s xs item)
    ∙ sym (append_assoc (roles_from (role_at s false x)) (roles_of_items s xs) (roles_from (role_at s false item)))

pub remote_roles : (h : History) → StaysRemote h → roles h ≡ roles_of_items (opening_settings h) (items h)
remote_roles (begun o canon) s = refl
remote_roles (next h (got item)) s =
    let o = opening_settings h in
    ap (λ rs. rs ++ roles_from (role_at (settings h) (edits (mode h)) item)) (remote_roles h s.0)
    ∙ ap (λ (r : Role). roles_of_items o (items h) ++ roles_from r) (role_then h s.0 item)
    ∙ sym (roles_of_items-push o (items h) item)
remote_roles (next h (char_set f v)) s = absurd s.1
remote_roles (next h _) s = remote_roles h s.0

-- the roles are those of one key and of the keys after it
one_more_key : (s : Settings) (key : ℕ) (keys : List ℕ) (rs : List Role) → rs ≡ roles_of s keys → roles_from (role_of_key s key) ++ rs ≡ roles_of s (key ∷ keys)
one_more_key s key keys rs is =
    ap (λ xs. xs ++ rs) (roles_of-one s key) ∙ ap (λ xs. roles_of s (key ∷ []) ++ xs) is ∙ sym (roles_of-append s (key ∷ []) keys)

pub roles_of_keys : (s : Settings) (xs : List Item) → All IsNoCommand xs → roles_of_items s xs ≡ roles_of s (keys_of xs)
roles_of_keys s [] none = refl
roles_of_keys s (Byte b ∷ xs) none = one_more_key s b (keys_of xs) (roles_of_items s xs) (roles_of_keys s xs (All-tail IsNoCommand (Byte b) xs none))
roles_of_keys s (Newline ∷ xs) none = one_more_key s 10 (keys_of xs) (roles_of_items s xs) (roles_of_keys s xs (All-tail IsNoCommand Newline xs none))
roles_of_keys s (Cmd c ∷ xs) none = absurd (All-head IsNoCommand (Cmd c) xs none)
roles_of_keys s (Neg v o ∷ xs) none = roles_of_keys s xs (All-tail IsNoCommand (Neg v o) xs none)
roles_of_keys s (Sub o p ∷ xs) none = roles_of_keys s xs (All-tail IsNoCommand (Sub o p) xs none)

pub remote_entries : (h : History) → StaysRemote h → entries h ≡ entries_of (limit h) (roles_of_items (opening_settings h) (items h))
remote_entries h s = ap (λ rs. entries_of (limit h) rs) (remote_roles h s)

pub remote_half : (h : History) → StaysRemote h → half h ≡ half_of (limit h) (roles_of_items (opening_settings h) (items h))
remote_half h s = ap (λ rs. half_of (limit h) rs) (remote_roles h s)

pub remote_typed : (h : History) → StaysRemote h → All IsNoCommand (items h) → entries h ≡ typed_entries (opening_canon h) (keys_of (items h))
remote_typed h s none = remote_entries h s ∙ ap (λ rs. entries_of (limit h) rs) (roles_of_keys (opening_settings h) (items h) none)

pub remote_typed_half : (h : History) → StaysRemote h → All IsNoCommand (items h) → half h ≡ typed_half (opening_canon h) (keys_of (items h))
remote_typed_half h s none = remote_half h s ∙ ap (λ rs. half_of (limit h) rs) (roles_of_keys (opening_settings h) (items h) none)

-- A LINE THAT IS SENT WHOLE
same_terms : (h : History) (b : ℕ) → terms (next h (got (Byte b))) ≡ terms h
same_terms h b = terms_stay (flags h) (terms h) None refl

same_mode : (h : History) (b : ℕ) → mode (next h (got (Byte b))) ≡ mode h
same_mode h b =
    ap (λ (t : Terms). mask_after (changes (options h) t.options) (mode h) None) (same_terms h b)
    ∙ ap (λ (x : Bool). mask_after x (mode h) None) (differ_self (linemode (options h)))

newline_terms : (h : History) → terms (next h (got Newline)) ≡ terms h
newline_terms h = terms_stay (flags h) (terms h) None refl

newline_mode : (h : History) → mode (next h (got Newline)) ≡ mode h
newline_mode h =
    ap (λ (t : Terms). mask_after (changes (options h) t.options) (mode h) None) (newline_terms h)
    ∙ ap (λ (x : Bool). mask_after x (mode h) None) (differ_self (linemode (options h)))

record Typed (h : History) (bytes : List ℕ) : Type 0 where
  pub half_is : half (gets h (map Byte bytes)) ≡ half h ++ bytes
  pub entries_are : entries (gets h (map Byte bytes)) ≡ entries h
  pub mode_is : mode (gets h (map Byte bytes)) ≡ mode h
  pub settings_are : settings (gets h (map Byte bytes)) ≡ settings h

not_full : (n m : ℕ) → n < m → (n == m) ≡ false
not_full n m h = grind (arith, nat_tests)

-- an ordinary byte that has room
half_kept : (full : Bool) (half : List ℕ) (b : ℕ) → full ≡ false → (if full then half else half ++ b ∷ []) ≡ half ++ b ∷ []
half_kept true half b is = absurd (cc)
half_kept false half b is = refl

none_gained : (full : Bool) → (if full then [] else let none : List Entry = [] in none) ≡ []
none_gained true = refl
none_gained false = refl

-- the bytes of this line have their own roles, by whether the client edits
abbrev by_edit : History → Bool → ℕ → Role
by_edit h edit = role_of_byte (settings h) edit

one_role : (h : History) (edit : Bool) (b : ℕ) → edits (mode h) ≡ edit → by_edit h edit b ≡ role.Ordinary b
    → roles (next h (got (Byte b))) ≡ roles h ++ role.Ordinary b ∷ []
one_role h edit b is ordinary =
    ap (λ (r : Role). roles h ++ roles_from r) (ap (λ (e : Bool). role_of_byte (settings h) e b) is ∙ ordinary)

one_half : (h : History) (edit : Bool) (b : ℕ) → edits (mode h) ≡ edit → by_edit h edit b ≡ role.Ordinary b → length (half h) < max_counted (limit h)
    → half (next h (got (Byte b))) ≡ half h ++ b ∷ []
one_half h edit b is ordinary room =
    ap (λ rs. half_of (limit h) rs) (one_role h edit b is ordinary)
    ∙ half-next (limit h) (roles h) (role.Ordinary b)
    ∙ half_kept (length (half h) == max_counted (limit h)) (half h) b (not_full (length (half h)) (max_counted (limit h)) room)

one_entries : (h : History) (edit : Bool) (b : ℕ) → edits (mode h) ≡ edit → by_edit h edit b ≡ role.Ordinary b → entries (next h (got (Byte b))) ≡ entries h
one_entries h edit b is ordinary =
    ap (λ rs. entries_of (limit h) rs) (one_role h edit b is ordinary)
    ∙ entries-next (limit h) (roles h) (role.Ordinary b)
    ∙ ap (λ es. entries h ++ es) (none_gained (length (half h) == max_counted (limit h)))
    ∙ append-nil (entries h)

typed : (bytes : List ℕ) (h : History) (edit : Bool) → edits (mode h) ≡ edit → AreOrdinaryBy (by_edit h edit) bytes
    → length (half h) + length bytes ≤ max_counted (limit h) → Typed h bytes
typed [] h edit is ordinary room = record { half_is = sym (append-nil (half h)); entries_are = refl; mode_is = refl; settings_are = refl }
typed (b ∷ bytes) h edit is ordinary room =
    let more = next h (got (Byte b)) in
    let here : half more ≡ half h ++ b ∷ [] = one_half h edit b is ordinary.0 (omega arith) in
    let longer : length (half more) ≡ length (half h) + 1 = ap length here ∙ length-append (half h) (b ∷ []) in
    let rest = typed bytes more edit (ap edits (same_mode h b) ∙ is) ordinary.1 (omega arith) in
    record {
      half_is = rest.half_is ∙ ap (λ xs. xs ++ bytes) here ∙ append_assoc (half h) (b ∷ []) bytes;
      entries_are = rest.entries_are ∙ one_entries h edit b is ordinary.0;
      mode_is = rest.mode_is ∙ same_mode h b;
      settings_are = rest.settings_are;
    }

closes : (h : History) (edit : Bool) → edits (mode h) ≡ edit → by_edit h edit 10 ≡ role.Nl → roles (next h (got Newline)) ≡ roles h ++ role.Nl ∷ []
closes h edit is closing =
    ap (λ (r : Role). roles h ++ roles_from r) (ap (λ (e : Bool). role_of_byte (settings h) e 10) is ∙ closing)

text_of : (bytes : List ℕ) → line_of (bytes ++ 10 ∷ []) ≡ Text (bytes ++ 10 ∷ [])
text_of [] = refl
text_of (b ∷ bytes) = refl

-- a line that came to a terminal with no line begun
record Whole (h : History) (bytes : List ℕ) : Type 0 where
  pub half_is : half (gets h (line_items bytes)) ≡ []
  pub entries_are : entries (gets h (line_items bytes)) ≡ entries h ++ Text (bytes ++ 10 ∷ []) ∷ []
  pub mode_is : mode (gets h (line_items bytes)) ≡ mode h
  pub settings_are : settings (gets h (line_items bytes)) ≡ settings h

whole : (h : History) (bytes : List ℕ) (edit : Bool) → edits (mode h) ≡ edit → half h ≡ [] → AreOrdinaryBy (by_edit h edit) bytes
    → by_edit h edit 10 ≡ role.Nl → length bytes ≤ max_counted (limit h) → Whole h bytes
whole h bytes edit is none ordinary closing fits =
    let zero_long : length (half h) ≡ 0 = ap length none in
    let all = typed bytes h edit is ordinary (omega arith) in
    let k = gets h (map Byte bytes) in
    let last : gets h (line_items bytes) ≡ next k (got Newline) = gets-push h (map Byte bytes) Newline in
    let nl = closes k edit (ap edits all.mode_is ∙ is) (ap (λ (s : Settings). role_of_byte s edit 10) all.settings_are ∙ closing) in
    record {
      half_is = ap half last ∙ ap (λ rs. half_of (limit k) rs) nl ∙ half-next (limit k) (roles k) role.Nl;
      entries_are =
          ap entries last
          ∙ ap (λ rs. entries_of (limit k) rs) nl
          ∙ entries-next (limit k) (roles k) role.Nl
          ∙ ap (λ xs. entries k ++ line_of (xs ++ 10 ∷ []) ∷ []) (all.half_is ∙ ap (λ xs. xs ++ bytes) none)
          ∙ ap (λ (e : Entry). entries k ++ e ∷ []) (text_of bytes)
          ∙ ap (λ es. es ++ Text (bytes ++ 10 ∷ []) ∷ []) all.entries_are;
      mode_is = ap mode last ∙ newline_mode k ∙ all.mode_is;
      settings_are = ap settings last ∙ all.settings_are;
    }

module _ (h : History) (bytes : List ℕ) (edit : edits (mode h) ≡ true) (none : half h ≡ []) (ordinary : AreOrdinary (chars h) bytes)
    (fits : length bytes ≤ max_counted (limit h)) where
  sent_whole : Whole h bytes
  sent_whole = whole h bytes true edit none ordinary refl fits

  pub whole_half : half (gets h (line_items bytes)) ≡ []
  whole_half = sent_whole.half_is

  pub whole_entries : entries (gets h (line_items bytes)) ≡ entries h ++ Text (bytes ++ 10 ∷ []) ∷ []
  whole_entries = sent_whole.entries_are

-- A CLIENT THAT NEGOTIATES NOTHING
abbrev line_entry : List ℕ → Entry
line_entry line = Text (line ++ 10 ∷ [])

key_of_newline : (s : Settings) → s.flags.inlcr ≡ false → role_of_key s 10 ≡ role.Nl
key_of_newline s none = rw none refl

lines_from : (canon : Canon) (lines : List (List ℕ)) (h : History) → settings h ≡ canon.settings → limit h ≡ canon.limit → edits (mode h) ≡ false
    → half h ≡ [] → role_of_key canon.settings 10 ≡ role.Nl → All (IsLine canon) lines
    → entries (gets h (text_items lines)) ≡ entries h ++ map line_entry lines
lines_from canon [] h s l is none closing all = sym (append-nil (entries h))
lines_from canon (line ∷ lines) h s l is none closing all =
    let first = All-head (IsLine canon) line lines all in
    let here = whole h line false is none (subst (λ (x : Settings). AreOrdinaryBy (role_of_key x) line) (sym s) first.0)
    (ap (λ (x : Settings). role_of_key x 10) s ∙ closing) (subst (λ (n : ℕ). length line ≤ max_counted n) (sym l) first.1) in
    let k = gets h (line_items line) in
    let rest = lines_from canon lines k (here.settings_are ∙ s) (limit-gets h (line_items line) ∙ l) (ap edits here.mode_is ∙ is) here.half_is closing
    (All-tail (IsLine canon) line lines all) in
    ap entries (gets-append h (line_items line) (text_items lines))
    ∙ rest
    ∙ ap (λ es. es ++ map line_entry lines) here.entries_are
    ∙ append_assoc (entries h) (line_entry line ∷ []) (map line_entry lines)

pub plain_lines : (o : Opening) (canon : Canon) (lines : List (List ℕ)) → canon.settings.flags.inlcr ≡ false → All (IsLine canon) lines
    → entries (gets (begun o canon) (text_items lines)) ≡ map line_entry lines
plain_lines o canon lines none all = lines_from canon lines (begun o canon) refl refl refl refl (key_of_newline canon.settings none) all

-- no text is shown while ECHO is off
byte_unshown : (edit : Bool) (s : Settings) (line : HalfLine) (b : ℕ) → byte_shows s edit false line b ≡ []
byte_unshown true s line b = refl
byte_unshown false s line b = refl

shown_none : (h : History) (b : ℕ) → echoes (options h) ≡ false
    → queue_with (queue h) (byte_shows (settings h) (edits (mode h)) (echoes (options h)) (line h) b) ≡ queue h
shown_none h b off =
    ap (λ (on : Bool). queue_with (queue h) (byte_shows (settings h) (edits (mode h)) on (line h) b)) off
    ∙ ap (queue_with (queue h)) (byte_unshown (edits (mode h)) (settings h) (line h) b)
    ∙ fitted_nothing (queue h)

pub text_unechoed : (h : History) (item : Item) → echoes (options h) ≡ false → IsText item → queue (next h (got item)) ≡ queue h
text_unechoed h (Byte b) off is = shown_none h b off
text_unechoed h Newline off is = shown_none h 10 off
text_unechoed h _ off is = absurd is

-- a request leaves ECHO off until the client answers
asked_off : (a wanted : Bool) (q : QState) → is_yes q ≡ false → is_yes (cell a (wish_for wanted) q).0 ≡ false
unfolding cell
asked_off a true Yes e = absurd (cc)
asked_off a false Yes e = absurd (cc)
asked_off a true No e = refl
asked_off a true WantNoEmpty e = refl
asked_off a true WantNoOpposite e = refl
asked_off a true WantYesEmpty e = refl
asked_off a true WantYesOpposite e = refl
asked_off a false No e = refl
asked_off a false WantNoEmpty e = refl
asked_off a false WantNoOpposite e = refl
asked_off a false WantYesEmpty e = refl
asked_off a false WantYesOpposite e = refl

echo_off : (due wanted : Bool) (o : Options) → echoes o ≡ false → echoes (options_with_echo due wanted o) ≡ false
unfolding options_after_wish state_of
echo_off true wanted o e = asked_off o.us.echo.agreed wanted o.us.echo.state e
echo_off false wanted o e = e

opened_off : (o : Opening) → echoes (opening_options o) ≡ false
unfolding new_options options_after_wish state_of cell
opened_off Keys = refl
opened_off Lines = refl

-- the terms by a request or a flag
by_off : (f : Flags) (t : Terms) (ed : Option Editing) (set : Bool) → echoes t.options ≡ false → echoes (terms_by f t t.options ed set).options ≡ false
by_off f t ed set e =
    let wish = wish_after f t.wish ed in
    echo_off (asks_echo t.options t.options (mask_told t t.options wish) set) (wants_echo t.opening t.options (asked_mask_of t.options wish) f) t.options e

got_off : (h : History) (item : Item) → IsText item → echoes (options h) ≡ false → echoes (options (next h (got item))) ≡ false
got_off h (Byte b) is e = ap (λ (t : Terms). echoes t.options) (same_terms h b) ∙ e
got_off h Newline is e = ap (λ (t : Terms). echoes t.options) (newline_terms h) ∙ e
got_off h _ is e = absurd is

pub never_echoes : (h : History) → All IsText (items h) → echoes (options h) ≡ false
never_echoes (begun o canon) all = opened_off o
never_echoes (next h (got item)) all =
    let both = All-pop IsText (items h ++ item ∷ []) (items h) (Some item) refl all in
    got_off h item both.1 (never_echoes h both.0)
never_echoes (next h (wished editing)) all = by_off (flags h) (terms h) (Some editing) false (never_echoes h all)
never_echoes (next h (echo_set on)) all = by_off (flags (next h (echo_set on))) (terms h) None true (never_echoes h all)
never_echoes (next h _) all = never_echoes h all

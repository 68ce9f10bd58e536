-- Histories whose ends can't be told apart.
use Rattle.std.proofs.Common.{◌≡◌, ℕ, zero, suc, ◌+◌, nat_lt, Bool, true, false, ◌||◌, Option, Some, None, List, [], ◌∷◌, ◌++◌, length, take, map, ◌∙◌, subst}
use Rattle.std.proofs.{Common.{append-nil, append_assoc, length-append, if◌then◌else◌, arith, refl, sym, ap}, lemmas.{Bool.lt-ltb, List.{drop_all, length-map}}}
use Rattle.std.specs.List.{concat, flat_map}
use Rattle.tn_discipline.specs.{Characters.Characters, Entries.{entries_of, half_of}, Keys.{roles_from, mapped_key, role_or_ignored}}
use Rattle.tn_discipline.specs.declared.termios.Flags.{Flags}
use Rattle.tn_linemode.specs.{Modes.edits, Words.{payload_under, differ}}
use Rattle.tn_nvt.specs.declared.items.Item.{Item, TheVariants.{Byte, Newline, Neg, Sub}}
use Rattle.tn_option.specs.Options.{Options, options_after_cause, options_after_wish, options_after_word, known_option, place, with_place, state_of}
use Rattle.tn_option.specs.{Options.{state_or_no, is_yes}, QMethod.{cell, side_of, cause_of}, declared.{known.Known.Known, negotiation.Places.Places}}
use Rattle.tn_option.specs.declared.q_method.{OptionEvent.OptionEvent, QState.QState, Side.{Side, TheVariants.{Us, Them}}}
use Rattle.tn_pty.specs.Terminal.{queue_with}
use Rattle.tn_server.proofs.lemmas.Histories.{gets-push}
use Rattle.tn_server.specs.{Course.in_parts, Events.{History, next, got, took, wrote, pulled, echo_set, items, gets, limit, opening_settings}}
use Rattle.tn_server.specs.{Lines.{roles, role_at, role_of_byte, entries, taken_count}, Replies.{items_said, items_at, list_replies, data_of}}
use Rattle.tn_server.specs.{Screen.{queue, shows, due}, declared.wishes.Editing.Editing}
use Rattle.tn_server.specs.Terms.{Terms, terms, terms_after, terms_by, options, options_after, flags, chars, chars_after, settings, mode, mask_after}
use Rattle.tn_server.specs.Terms.{asked_mask_of, asks_echo, echoes, linemode, mask_told, options_with_echo, payload_at, wants_echo, wish_after, wish_at}
use Rattle.tn_cores.specs.server.Run.{flushed_history}

-- EQUAL LINES

-- the flags, but for ECHO, which has no part in the lines
abbrev unechoed : Flags → Flags
unechoed f = record f { echo = false }

pub record SameLines (h k : History) : Type 0 where
  pub roles_are : roles h ≡ roles k
  pub limit_is : limit h ≡ limit k
  pub them_are : (options h).them ≡ (options k).them
  pub flags_are : unechoed (flags h) ≡ unechoed (flags k)
  pub chars_are : chars h ≡ chars k
  pub mode_is : mode h ≡ mode k

pub lines_self : (h : History) → SameLines h h
lines_self h = record { roles_are = refl; limit_is = refl; them_are = refl; flags_are = refl; chars_are = refl; mode_is = refl }

-- the server's message for ECHO leaves the client's options as they are
echo_keeps_them : (due wanted : Bool) (o : Options) → (options_with_echo due wanted o).them ≡ o.them
unfolding options_after_wish
echo_keeps_them true wanted o = refl
echo_keeps_them false wanted o = refl

terms_keep_them : (f : Flags) (t : Terms) (o : Options) (ed : Option Editing) (set : Bool) → (terms_by f t o ed set).options.them ≡ o.them
terms_keep_them f t o ed set =
    let wish = wish_after f t.wish ed in echo_keeps_them (asks_echo t.options o (mask_told t o wish) set) (wants_echo t.opening o (asked_mask_of o wish) f) o

caused_them : (o p : Options) (side : Side) (cause : OptionEvent) (option : Option Known) → o.them ≡ p.them
    → (options_after_cause o side cause option).them ≡ (options_after_cause p side cause option).them
caused_them o p side cause None e = e
caused_them o p Us cause (Some option) e = e
caused_them o p Them cause (Some option) e =
    ap (λ (t : Places). with_place t option (record (place t option) { state = (cell (place t option).agreed cause (place t option).state).0 })) e

heard_them : (o p : Options) (x : Item) → o.them ≡ p.them → (options_after o (got x)).them ≡ (options_after p (got x)).them
unfolding options_after_word
heard_them o p (Neg verb option) e = caused_them o p (side_of verb) (cause_of verb) (known_option option) e
heard_them o p _ e = e

state_them : (o p : Options) (option : Option Known) → o.them ≡ p.them → state_or_no o Them option ≡ state_or_no p Them option
state_them o p None e = refl
state_them o p (Some option) e = ap (λ (t : Places). (place t option).state) e

payload_them : (o p : Options) (x : Item) → o.them ≡ p.them → payload_at o x ≡ payload_at p x
unfolding state_of
payload_them o p (Sub option params) e = ap (λ (q : QState). payload_under (is_yes q) option params) (state_them o p (known_option option) e)
payload_them o p _ e = refl

linemode_them : (o p : Options) → o.them ≡ p.them → linemode o ≡ linemode p
unfolding state_of
linemode_them o p e = ap is_yes (state_them o p (known_option 34) e)

-- nor do roles go by ECHO
role_mapped : (f : Flags) (c : Characters) (byte : Option ℕ) → role_or_ignored (record { flags = f; chars = c }) byte
    ≡ role_or_ignored (record { flags = unechoed f; chars = c }) byte
role_mapped f c None = refl
role_mapped f c (Some byte) = refl

role_byte : (f : Flags) (c : Characters) (edit : Bool) (byte : ℕ) → role_of_byte (record { flags = f; chars = c }) edit byte
    ≡ role_of_byte (record { flags = unechoed f; chars = c }) edit byte
role_byte f c true byte = refl
role_byte f c false byte = role_mapped f c (mapped_key f byte)

role_unechoed : (f : Flags) (c : Characters) (edit : Bool) (x : Item) → role_at (record { flags = f; chars = c }) edit x
    ≡ role_at (record { flags = unechoed f; chars = c }) edit x
role_unechoed f c edit (Byte byte) = role_byte f c edit byte
role_unechoed f c edit Newline = role_byte f c edit 10
role_unechoed f c edit _ = refl

pub lines_got : (h k : History) (x : Item) → SameLines h k → SameLines (next h (got x)) (next k (got x))
lines_got h k x s =
    let turned : (g : History) → (options (next g (got x))).them ≡ (options_after (options g) (got x)).them =
    λ g. terms_keep_them (flags g) (terms g) (options_after (options g) (got x)) (wish_at (options g) (got x)) false in
    let them : (options (next h (got x))).them ≡ (options (next k (got x))).them =
    turned h ∙ heard_them (options h) (options k) x s.them_are ∙ sym (turned k) in
    let payload = payload_them (options h) (options k) x s.them_are in
    let was = linemode_them (options h) (options k) s.them_are in
    let on = linemode_them (options (next h (got x))) (options (next k (got x))) them in
    let alike : role_at (record { flags = unechoed (flags h); chars = chars h }) (edits (mode h)) x
    ≡ role_at (record { flags = unechoed (flags k); chars = chars k }) (edits (mode k)) x =
    λ i. role_at (record { flags = s.flags_are i; chars = s.chars_are i }) (edits (s.mode_is i)) x in
    let role = role_unechoed (flags h) (chars h) (edits (mode h)) x ∙ alike ∙ sym (role_unechoed (flags k) (chars k) (edits (mode k)) x) in
    record {
      roles_are = λ i. s.roles_are i ++ roles_from (role i);
      limit_is = s.limit_is;
      them_are = them;
      flags_are = s.flags_are;
      chars_are = λ i. chars_after (s.chars_are i) (payload i);
      mode_is = λ i. mask_after (differ (was i) (on i)) (s.mode_is i) (payload i);
    }

-- the owner's calls leave the lines as they are
pub lines_took : (h k : History) → SameLines h k → SameLines (next h took) k
lines_took h k s = record {
  roles_are = s.roles_are;
  limit_is = s.limit_is;
  them_are = s.them_are;
  flags_are = s.flags_are;
  chars_are = s.chars_are;
  mode_is = s.mode_is;
}

pub lines_wrote : (h k : History) (part : List ℕ) → SameLines h k → SameLines (next h (wrote part)) k
lines_wrote h k part s = record {
  roles_are = s.roles_are;
  limit_is = s.limit_is;
  them_are = s.them_are;
  flags_are = s.flags_are;
  chars_are = s.chars_are;
  mode_is = s.mode_is;
}

pub lines_pulled : (h k : History) (n : ℕ) → SameLines h k → SameLines (next h (pulled n)) k
lines_pulled h k n s = record {
  roles_are = s.roles_are;
  limit_is = s.limit_is;
  them_are = s.them_are;
  flags_are = s.flags_are;
  chars_are = s.chars_are;
  mode_is = s.mode_is;
}

pub lines_echo : (h k : History) (on : Bool) → SameLines h k → SameLines (next h (echo_set on)) k
lines_echo h k on s = record {
  roles_are = s.roles_are;
  limit_is = s.limit_is;
  them_are = terms_keep_them (flags (next h (echo_set on))) (terms h) (options h) None true ∙ s.them_are;
  flags_are = s.flags_are;
  chars_are = s.chars_are;
  mode_is = s.mode_is;
}

pub lines_flushed : (h k : History) → SameLines h k → SameLines (flushed_history h) k
lines_flushed h k s = lines_pulled h k (length (queue h)) s

pub lines_parts : (h k : History) (parts : List (List ℕ)) → SameLines h k → SameLines (in_parts h parts) k
lines_parts h k [] s = s
lines_parts h k (part ∷ parts) s = lines_parts (flushed_history (next h (wrote part))) k parts (lines_flushed (next h (wrote part)) k (lines_wrote h k part s))

pub same_entries : (h k : History) → SameLines h k → entries h ≡ entries k
same_entries h k s = λ i. entries_of (s.limit_is i) (s.roles_are i)

-- the lines are those of the items
abbrev pub OfItems : History → History → Type 0
OfItems first h = SameLines h (gets first (items h))

pub of_items_got : (first h : History) (x : Item) → OfItems first h → OfItems first (next h (got x))
of_items_got first h x s =
    let P : History → Type 0 = λ k. SameLines (next h (got x)) k in
    subst P (sym (gets-push first (items h) x)) (lines_got h (gets first (items h)) x s)

pub of_items_gets : (first h : History) (xs : List Item) → OfItems first h → OfItems first (gets h xs)
of_items_gets first h [] s = s
of_items_gets first h (x ∷ xs) s = of_items_gets first (next h (got x)) xs (of_items_got first h x s)

-- parts bring no items
pub items_parts : (h : History) (parts : List (List ℕ)) → items (in_parts h parts) ≡ items h
items_parts h [] = refl
items_parts h (part ∷ parts) = items_parts (flushed_history (next h (wrote part))) parts

-- ALL THAT AN END DOES

-- the two histories differ at most in the parts in which texts were written
pub record Alike (h k : History) : Type 0 where
  pub lines : SameLines h k
  pub terms_are : terms h ≡ terms k
  pub flags_are : flags h ≡ flags k
  pub taken : taken_count h ≡ taken_count k
  pub queues : queue h ≡ queue k
  pub dues : due h ≡ due k
  pub items_are : items h ≡ items k
  pub said : items_said h ≡ items_said k
  pub opened : opening_settings h ≡ opening_settings k

-- the settings of alike histories
settings_by : (h k : History) → Alike h k → settings h ≡ settings k
settings_by h k a = λ i. record { flags = a.flags_are i; chars = a.lines.chars_are i }

pub alike_got : (h k : History) (x : Item) → Alike h k → Alike (next h (got x)) (next k (got x))
alike_got h k x a =
    let s = a.lines in
    record {
      lines = lines_got h k x s;
      terms_are = λ i. terms_after (a.flags_are i) (a.terms_are i) (got x);
      flags_are = a.flags_are;
      taken = a.taken;
      queues = λ i. queue_with (a.queues i) (shows (settings_by h k a i) (edits (s.mode_is i)) (echoes (a.terms_are i).options)
          (record { held = half_of (s.limit_is i) (s.roles_are i); ahead = 0; limit = s.limit_is i }) x);
      dues = a.dues;
      items_are = ap (λ (xs : List Item). xs ++ x ∷ []) a.items_are;
      said = λ i. a.said i ++ (items_at (a.flags_are i) (s.chars_are i) (a.terms_are i) (got x)
          ++ list_replies (s.chars_are i) (payload_at (a.terms_are i).options x));
      opened = a.opened;
    }

pub alike_gets : (h k : History) (xs : List Item) → Alike h k → Alike (gets h xs) (gets k xs)
alike_gets h k [] a = a
alike_gets h k (x ∷ xs) a = alike_gets (next h (got x)) (next k (got x)) xs (alike_got h k x a)

pub none_left : (h : History) → queue (flushed_history h) ≡ []
none_left h = drop_all (length (queue h)) (queue h) (omega arith)

-- GA is due if more was sent
or_more : (a b c : Bool) (m n : ℕ) → b ≡ (a || nat_lt 0 m) → c ≡ (b || nat_lt 0 n) → c ≡ (a || nat_lt 0 (m + n))
or_more true b c m n e f = f ∙ ap (λ (u : Bool). u || nat_lt 0 n) e
or_more false b c zero n e f = f ∙ ap (λ (u : Bool). u || nat_lt 0 n) e ∙ ap (λ (k : ℕ). nat_lt 0 k) (let same : n ≡ 0 + n = omega arith in same)
or_more false b c (suc m) n e f = f ∙ ap (λ (u : Bool). u || nat_lt 0 n) (e ∙ lt-ltb 0 (suc m) (omega arith)) ∙ sym (lt-ltb 0 (suc m + n) (omega arith))

record SaysMore (h k : History) : Type 0 where
  more : List Item
  said : items_said k ≡ items_said h ++ more
  dues : due k ≡ (due h || nat_lt 0 (length more))

says_parts : (h : History) (parts : List (List ℕ)) → SaysMore h (in_parts h parts)
says_parts h [] = record { more = []; said = sym (append-nil (items_said h)); dues = or_none (due h) }
  where
    or_none : (b : Bool) → b ≡ (b || false)
    or_none true = refl
    or_none false = refl
says_parts h (part ∷ parts) =
    let here = next h (wrote part) in
    let q = queue here in
    let first = map data_of (take (length q) q) in
    let on = says_parts (flushed_history here) parts in
    let size : length first ≡ length (take (length q) q) = length-map (take (length q) q) data_of in
    record {
      more = first ++ on.more;
      said = on.said ∙ ap (λ (xs : List Item). (xs ++ first) ++ on.more) (append-nil (items_said h)) ∙ append_assoc (items_said h) first on.more;
      dues =
          or_more (due h) (due (flushed_history here)) (due (in_parts h (part ∷ parts))) (length first) (length on.more)
          (ap (λ (n : ℕ). due h || nat_lt 0 n) (sym size)) on.dues
          ∙ ap (λ (n : ℕ). due h || nat_lt 0 n) (sym (length-append first on.more));
    }

flat_concat : (parts : List (List ℕ)) → flat_map (λ part. part) parts ≡ concat parts
flat_concat [] = refl
flat_concat (part ∷ parts) = ap (λ (bs : List ℕ). part ++ bs) (flat_concat parts)

taken_parts : (h : History) (parts : List (List ℕ)) → taken_count (in_parts h parts) ≡ taken_count h
taken_parts h [] = refl
taken_parts h (part ∷ parts) = taken_parts (flushed_history (next h (wrote part))) parts

terms_parts : (h : History) (parts : List (List ℕ)) → terms (in_parts h parts) ≡ terms h
terms_parts h [] = refl
terms_parts h (part ∷ parts) = terms_parts (flushed_history (next h (wrote part))) parts

pub flags_parts : (h : History) (parts : List (List ℕ)) → flags (in_parts h parts) ≡ flags h
flags_parts h [] = refl
flags_parts h (part ∷ parts) = flags_parts (flushed_history (next h (wrote part))) parts

opened_parts : (h : History) (parts : List (List ℕ)) → opening_settings (in_parts h parts) ≡ opening_settings h
opened_parts h [] = refl
opened_parts h (part ∷ parts) = opened_parts (flushed_history (next h (wrote part))) parts

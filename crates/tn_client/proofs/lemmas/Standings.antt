-- The end to which an event leads from a history.
use Rattle.std.proofs.Common.{◌≡◌, ℕ, Bool, true, false, min, Option, List, [], ◌∷◌, ◌++◌, length, refl, sym, ap, ◌∙◌, if◌then◌else◌, subst, append-nil}
use Rattle.std.proofs.Common.{append_assoc}
use Rattle.tn_codes.specs.declared.masks.Mask.{Mask}
use Rattle.tn_discipline.specs.{Admitted.{count_after, count_of}, Characters.Characters, Entries.half_of, Keys.{role_of_key, roles_from}}
use Rattle.tn_discipline.specs.{HalfLine.{HalfLine, empty_line, line_length, line_after}, declared.keys.Role.Role}
use Rattle.tn_discipline.specs.Advancing as discipline
use Rattle.tn_discipline.proofs.lemmas.Lines.{advances, released_keeps, resumed_leads, after_least, length_at, count_at, count_more}
use Rattle.tn_linemode.specs.Modes.{edits, traps}
use Rattle.tn_nvt.specs.{declared.items.Item.{Item, TheVariants.{Byte, Newline}}, Feeding.DecoderState, Spelling.lf}
use Rattle.tn_option.specs.Options.{Options}
use Rattle.tn_client.specs.{Answering.Feeds, Steps.{count_told, end_after_item, says_got, end_after, says, displays, end_after_items, says_items, items_shown}}
use Rattle.tn_client.specs.{Events.{Event, typed, got, resized, History, next, gets, entered}, Lines.{line_limit, half_line, sends_ahead}, Calls.{End, LeadsTo}}
use Rattle.tn_client.specs.Lines.{is_sent_ahead, ahead, count_under, line, settings_by, key_settings, role_of_typed, role_at, roles_under, edited_roles}
use Rattle.tn_client.specs.Terms.{options, mode, forward, chars, size, options_after, mode_at, forward_at, chars_by, payload_at, is_echoed, tells_size}
use Rattle.tn_client.specs.{Replies.{replies, typed_items, item_replies, resize_items, items_said}, Screen.{shows, key_shown, item_shown, text_shown}}
use Rattle.tn_client.specs.Steps.{role_now, is_sent_now, line_sent, line_typed, count_typed, end_after_key, says_typed, shows_key, line_left, count_left}
use Rattle.tn_linemode.proofs.lemmas.Folding as folding
use Rattle.tn_client.proofs.lemmas.Histories.{unedited, unedited-ahead, edited-typed, edited-stays, edited-begins, under-typed, under-ends, under-stays}
use Rattle.tn_client.proofs.lemmas.{Histories.{count-none, count-is, ahead-typed, ahead-stays, ahead-begins}, Ends.line_is}

-- no role leaves an empty line
leaves_none : (limit : ℕ) → discipline.LeadsTo [] (empty_line limit)
leaves_none limit = record { sent = []; count = refl; bytes = refl }

-- A KEY
same_role : (m n : ℕ) (c d : Characters) (key : ℕ) → m ≡ n → c ≡ d → role_of_typed m c key ≡ role_of_typed n d key
same_role m n c d key a b = ap (λ (x : ℕ). role_of_typed x c key) a ∙ ap (λ (x : Characters). role_of_typed n x key) b

pub role_is : (h : History) (old : End) (key : ℕ) → LeadsTo h old → role_now old key ≡ role_at h key
role_is h old key s = same_role old.mode (mode h) old.table (chars h) key s.mode s.table

-- the bytes that are sent ahead stay in the half-typed line
sent_leaves : (sends : Bool) (roles : List Role) (l : HalfLine) → discipline.LeadsTo roles l → discipline.LeadsTo roles (line_sent sends l)
sent_leaves true roles l leads = released_keeps l roles leads
sent_leaves false roles l leads = leads

typed_leaves : (h : History) (old : End) (key : ℕ) (b : Bool) → edits (mode h) ≡ b → LeadsTo h old
    → discipline.LeadsTo (edited_roles (next h (typed key))) (line_typed b old.forward old.line (role_now old key))
typed_leaves h old key true e s =
    let l = old.line in
    let r = role_now old key in
    subst (λ (rs : List Role). discipline.LeadsTo rs (line_typed true old.forward l r))
    (ap (λ (x : Role). edited_roles h ++ roles_from x) (role_is h old key s) ∙ sym (edited-typed h key e))
    (sent_leaves (is_sent_now old.forward l r) (edited_roles h ++ roles_from r) (line_after l r) ((advances l r).half (edited_roles h) s.line))
typed_leaves h old key false e s = subst (λ (rs : List Role). discipline.LeadsTo rs old.line) (unedited h e ∙ sym (unedited (next h (typed key)) e)) s.line

-- the count of a half-typed line that the server edits
typed_count : (isig : Bool) (h : History) (old : End) (key count : ℕ) (b : Bool) → edits (mode h) ≡ b → LeadsTo h old → count ≡ count_under isig h
    → count_typed b isig old count key ≡ count_under isig (next h (typed key))
typed_count isig h old key count true e s is = is ∙ count-none isig h e ∙ sym (count-none isig (next h (typed key)) e)
typed_count isig h old key count false e s is =
    let n = length (half_of (line_limit h) (roles_under isig h)) in
    let told : Characters → List Role = λ c. roles_from (role_of_key (settings_by isig c) key) in
    ap (λ (m : ℕ). count_after old.line.limit m (told old.table)) (is ∙ count-is isig h e)
    ∙ ap (λ (c : Characters). count_after old.line.limit n (told c)) s.table
    ∙ ap (λ (m : ℕ). count_after m n (told (chars h))) s.limit
    ∙ sym (count_more (line_limit h) (roles_under isig h) (role_of_key (settings_by isig (chars h)) key))
    ∙ ap (λ (rs : List Role). length (half_of (line_limit h) rs)) (sym (under-typed isig h key e))
    ∙ sym (count-is isig (next h (typed key)) e)

sent_least : (sends : Bool) (l : HalfLine) (r : Role) → (line_sent sends (line_after l r)).ahead
    ≡ (if sends then line_length (line_after l r) else min (line_length (line_after l r)) l.ahead)
sent_least true l r = refl
sent_least false l r = after_least l r

-- the line is as long as the half-typed line of the history
long_typed : (h : History) (old : End) (key : ℕ) → edits (mode h) ≡ true → LeadsTo h old
    → line_length (line_after old.line (role_now old key)) ≡ length (half_line (next h (typed key)))
long_typed h old key e s =
    let r = role_now old key in
    let roles = edited_roles h ++ roles_from r in
    let leaves = advances old.line r in
    sym (length_at roles (line_after old.line r) (leaves.half (edited_roles h) s.line))
    ∙ ap (λ (n : ℕ). length (half_of n roles)) (leaves.limit ∙ s.limit)
    ∙ ap (λ (x : Role). length (half_of (line_limit h) (edited_roles h ++ roles_from x))) (role_is h old key s)
    ∙ ap (λ (rs : List Role). length (half_of (line_limit h) rs)) (sym (edited-typed h key e))

-- the key sends what it sends in the history
sent_typed : (h : History) (old : End) (key : ℕ) → LeadsTo h old → is_sent_now old.forward old.line (role_now old key) ≡ is_sent_ahead h key
sent_typed h old key s =
    let l = old.line in
    ap (λ (n : ℕ). sends_ahead old.forward l.limit n (role_now old key)) (sym (count_at (edited_roles h) l s.line))
    ∙ ap (λ (n : ℕ). sends_ahead old.forward n (count_of n (edited_roles h)) (role_now old key)) s.limit
    ∙ ap (λ (f : Option Mask). sends_ahead f (line_limit h) (count_of (line_limit h) (edited_roles h)) (role_now old key)) s.forward
    ∙ ap (λ (r : Role). sends_ahead (forward h) (line_limit h) (count_of (line_limit h) (edited_roles h)) r) (role_is h old key s)

typed_ahead : (h : History) (old : End) (key : ℕ) (b : Bool) → edits (mode h) ≡ b → LeadsTo h old
    → (line_typed b old.forward old.line (role_now old key)).ahead ≡ ahead (next h (typed key))
typed_ahead h old key true e s =
    let l = old.line in
    let r = role_now old key in
    let n = length (half_line (next h (typed key))) in
    sent_least (is_sent_now old.forward l r) l r
    ∙ ap (λ (m : ℕ). if is_sent_now old.forward l r then m else min m l.ahead) (long_typed h old key e s)
    ∙ ap (λ (b : Bool). if b then n else min n l.ahead) (sent_typed h old key s)
    ∙ ap (λ (m : ℕ). if is_sent_ahead h key then n else min n m) s.ahead
    ∙ sym (ahead-typed h key e)
typed_ahead h old key false e s = s.ahead ∙ unedited-ahead h e ∙ sym (unedited-ahead (next h (typed key)) e)

sent_limit : (sends : Bool) (l : HalfLine) → (line_sent sends l).limit ≡ l.limit
sent_limit true l = refl
sent_limit false l = refl

pub typed_limit : (b : Bool) (f : Option Mask) (l : HalfLine) (r : Role) → (line_typed b f l r).limit ≡ l.limit
typed_limit true f l r = sent_limit (is_sent_now f l r) (line_after l r) ∙ (advances l r).limit
typed_limit false f l r = refl

pub stands_typed : (h : History) (old : End) (key : ℕ) → LeadsTo h old → LeadsTo (next h (typed key)) (end_after_key old key)
stands_typed h old key s =
    let edit = ap edits s.mode in
    record {
      options = s.options;
      mode = s.mode;
      forward = s.forward;
      table = s.table;
      line = typed_leaves h old key (edits old.mode) (sym edit) s;
      ahead = typed_ahead h old key (edits old.mode) (sym edit) s;
      limit = typed_limit (edits old.mode) old.forward old.line (role_now old key) ∙ s.limit;
      trapped = typed_count true h old key old.trapped (edits old.mode) (sym edit) s s.trapped;
      plain = typed_count false h old key old.plain (edits old.mode) (sym edit) s s.plain;
      size = s.size;
    }

stands_entered : (h : History) (old : End) → LeadsTo h old → LeadsTo (next h entered) (end_after_key old lf)
stands_entered h old s =
    let after = stands_typed h old lf s in
    record {
      options = after.options;
      mode = after.mode;
      forward = after.forward;
      table = after.table;
      line = after.line;
      ahead = after.ahead;
      limit = after.limit;
      trapped = after.trapped;
      plain = after.plain;
      size = after.size;
    }

pub replies_typed : (h : History) (old : End) (key : ℕ) (item : Item) → LeadsTo h old
    → typed_items (edits (mode h)) (forward h) (role_at h key) (line h) item ≡ says_typed old key item
replies_typed h old key item s =
    ap (λ (b : Bool). typed_items b (forward h) (role_at h key) (line h) item) (sym (ap edits s.mode))
    ∙ ap (λ (f : Option Mask). typed_items (edits old.mode) f (role_at h key) (line h) item) (sym s.forward)
    ∙ ap (λ (r : Role). typed_items (edits old.mode) old.forward r (line h) item) (sym (role_is h old key s))
    ∙ ap (λ (l : HalfLine). typed_items (edits old.mode) old.forward (role_now old key) l item) (sym (line_is h old s))

pub shows_typed : (h : History) (old : End) (key : ℕ) → LeadsTo h old → shows h (typed key) ≡ shows_key old key
shows_typed h old key s =
    ap (λ (o : Options). key_shown (is_echoed o) (edits (mode h)) (key_settings (mode h) (chars h)) (role_at h key) (line h) key) (sym s.options)
    ∙ ap (λ (m : ℕ). key_shown (is_echoed old.options) (edits m) (key_settings m (chars h)) (role_of_typed m (chars h) key) (line h) key) (sym s.mode)
    ∙ ap (λ (c : Characters). key_shown (is_echoed old.options) (edits old.mode) (key_settings old.mode c) (role_of_typed old.mode c key) (line h) key)
    (sym s.table)
    ∙ ap (λ (l : HalfLine). key_shown (is_echoed old.options) (edits old.mode) (key_settings old.mode old.table) (role_now old key) l key)
    (sym (line_is h old s))

-- AN ITEM
-- the number of bytes ahead when EDIT begins
told_count : (h : History) (old : End) (isig : Bool) → edits (mode h) ≡ false → LeadsTo h old
    → (if isig then old.trapped else old.plain) ≡ length (half_of (line_limit h) (roles_under isig h))
told_count h old true e s = s.trapped ∙ count-is true h e
told_count h old false e s = s.plain ∙ count-is false h e

begun_count : (h : History) (old : End) (item : Item) (mask : ℕ) → mask ≡ mode (next h (got item)) → edits (mode h) ≡ false
    → edits (mode (next h (got item))) ≡ true → LeadsTo h old → count_told mask old.trapped old.plain ≡ length (half_line (next h (got item)))
begun_count h old item mask is e f s =
    ap (λ (m : ℕ). count_told m old.trapped old.plain) is
    ∙ told_count h old (traps (mode (next h (got item)))) e s
    ∙ ap (λ (rs : List Role). length (half_of (line_limit h) rs)) (sym (edited-begins h item e f))

left_leaves : (h : History) (old : End) (item : Item) (mask : ℕ) (before after : Bool) → mask ≡ mode (next h (got item)) → edits (mode h) ≡ before
    → edits (mode (next h (got item))) ≡ after → LeadsTo h old →
    discipline.LeadsTo (edited_roles (next h (got item))) (line_left before after (count_told mask old.trapped old.plain) old.line)
left_leaves h old item mask true true is e f s = subst (λ (rs : List Role). discipline.LeadsTo rs old.line) (sym (edited-stays h item e f)) s.line
left_leaves h old item mask true false is e f s = subst (λ (rs : List Role). discipline.LeadsTo rs (empty_line old.line.limit))
    (sym (unedited (next h (got item)) f)) (leaves_none old.line.limit)
left_leaves h old item mask false true is e f s =
    resumed_leads old.line.limit (count_told mask old.trapped old.plain) (edited_roles (next h (got item)))
    (ap (λ (n : ℕ). length (half_of n (edited_roles (next h (got item))))) s.limit ∙ sym (begun_count h old item mask is e f s))
left_leaves h old item mask false false is e f s = subst (λ (rs : List Role). discipline.LeadsTo rs old.line)
    (unedited h e ∙ sym (unedited (next h (got item)) f)) s.line

left_ahead : (h : History) (old : End) (item : Item) (mask : ℕ) (before after : Bool) → mask ≡ mode (next h (got item)) → edits (mode h) ≡ before
    → edits (mode (next h (got item))) ≡ after → LeadsTo h old →
    (line_left before after (count_told mask old.trapped old.plain) old.line).ahead ≡ ahead (next h (got item))
left_ahead h old item mask true true is e f s = s.ahead ∙ sym (ahead-stays h item e f)
left_ahead h old item mask true false is e f s = sym (unedited-ahead (next h (got item)) f)
left_ahead h old item mask false true is e f s = begun_count h old item mask is e f s ∙ sym (ahead-begins h item e f)
left_ahead h old item mask false false is e f s = s.ahead ∙ unedited-ahead h e ∙ sym (unedited-ahead (next h (got item)) f)

left_count : (isig : Bool) (h : History) (old : End) (item : Item) (count : ℕ) (before after : Bool) → edits (mode h) ≡ before
    → edits (mode (next h (got item))) ≡ after → LeadsTo h old → count ≡ count_under isig h
    → count_left before after old.line count ≡ count_under isig (next h (got item))
left_count isig h old item count true true e f s is = is ∙ count-none isig h e ∙ sym (count-none isig (next h (got item)) f)
left_count isig h old item count true false e f s is =
    sym (length_at (edited_roles h) old.line s.line)
    ∙ ap (λ (n : ℕ). length (half_of n (edited_roles h))) s.limit
    ∙ ap (λ (rs : List Role). length (half_of (line_limit h) rs)) (sym (under-ends isig h item e))
    ∙ sym (count-is isig (next h (got item)) f)
left_count isig h old item count false true e f s is = sym (count-none isig (next h (got item)) f)
left_count isig h old item count false false e f s is =
    is ∙ count-is isig h e
    ∙ ap (λ (rs : List Role). length (half_of (line_limit h) rs)) (sym (under-stays isig h item f))
    ∙ sym (count-is isig (next h (got item)) f)

pub left_limit : (before after : Bool) (n : ℕ) (l : HalfLine) → (line_left before after n l).limit ≡ l.limit
left_limit true true n l = refl
left_limit true false n l = refl
left_limit false true n l = refl
left_limit false false n l = refl

same_mode : (o p : Options) (m n : ℕ) (item : Item) → o ≡ p → m ≡ n → mode_at o m item ≡ mode_at p n item
same_mode o p m n item a b = ap (λ (x : Options). mode_at x m item) a ∙ ap (λ (x : ℕ). mode_at p x item) b

same_chars : (o p : Options) (c d : Characters) (item : Item) → o ≡ p → c ≡ d → chars_by c (payload_at o item) ≡ chars_by d (payload_at p item)
same_chars o p c d item a b =
    ap (λ (x : Options). chars_by c (payload_at x item)) a ∙ ap (λ (x : Characters). chars_by x (payload_at p item)) b

pub stands_got : (h : History) (old : End) (item : Item) → LeadsTo h old → LeadsTo (next h (got item)) (end_after_item old item)
stands_got h old item s =
    let edit = ap edits s.mode in
    let is_mode = same_mode _ _ _ _ item s.options s.mode in
    let later = ap edits is_mode in
    let mask = mode_at old.options old.mode item in
    let before = edits old.mode in
    let after = edits mask in
    record {
      options = ap (λ (o : Options). options_after o item) s.options;
      mode = is_mode;
      forward = ap (λ (o : Options). forward_at o old.forward item) s.options ∙ ap (λ (f : Option Mask). forward_at (options h) f item) s.forward;
      table = same_chars _ _ _ _ item s.options s.table;
      line = left_leaves h old item mask before after is_mode (sym edit) (sym later) s;
      ahead = left_ahead h old item mask before after is_mode (sym edit) (sym later) s;
      limit = left_limit before after (count_told mask old.trapped old.plain) old.line ∙ s.limit;
      trapped = left_count true h old item old.trapped before after (sym edit) (sym later) s s.trapped;
      plain = left_count false h old item old.plain before after (sym edit) (sym later) s s.plain;
      size = s.size;
    }

pub replies_got : (h : History) (old : End) (item : Item) → LeadsTo h old → replies h (got item) ≡ says_got old item
replies_got h old item s =
    ap (λ (o : Options). item_replies o (mode h) (chars h) (size h) (line h) item) (sym s.options)
    ∙ ap (λ (m : ℕ). item_replies old.options m (chars h) (size h) (line h) item) (sym s.mode)
    ∙ ap (λ (c : Characters). item_replies old.options old.mode c (size h) (line h) item) (sym s.table)
    ∙ ap (λ (z : ℕ × ℕ). item_replies old.options old.mode old.table z (line h) item) (sym s.size)
    ∙ ap (λ (l : HalfLine). item_replies old.options old.mode old.table (old.width, old.height) l item) (sym (line_is h old s))

-- ANY EVENT
same_size : (h : History) (old : End) (width height : ℕ) → LeadsTo h old → replies h (resized width height) ≡ says old (resized width height)
same_size h old width height s =
    ap (λ (o : Options). resize_items (tells_size o) (size h) (width, height)) (sym s.options)
    ∙ ap (λ (z : ℕ × ℕ). resize_items (tells_size old.options) z (width, height)) (sym s.size)

pub stands : (h : History) (old : End) (e : Event) → LeadsTo h old → LeadsTo (next h e) (end_after old e)
stands h old (typed key) s = stands_typed h old key s
stands h old entered s = stands_entered h old s
stands h old (got item) s = stands_got h old item s
stands h old (resized width height) s =
    record {
      options = s.options;
      mode = s.mode;
      forward = s.forward;
      table = s.table;
      line = s.line;
      ahead = s.ahead;
      limit = s.limit;
      trapped = s.trapped;
      plain = s.plain;
      size = refl;
    }
stands h old _ s =
    record {
      options = s.options;
      mode = s.mode;
      forward = s.forward;
      table = s.table;
      line = s.line;
      ahead = s.ahead;
      limit = s.limit;
      trapped = s.trapped;
      plain = s.plain;
      size = s.size;
    }

pub says_as : (h : History) (old : End) (e : Event) → LeadsTo h old → replies h e ≡ says old e
says_as h old (typed key) s = replies_typed h old key (Byte key) s
says_as h old entered s = replies_typed h old lf Newline s
says_as h old (got item) s = replies_got h old item s
says_as h old (resized width height) s = same_size h old width height s
says_as h old _ s = refl

pub displays_as : (h : History) (old : End) (e : Event) → LeadsTo h old → shows h e ≡ displays old e
displays_as h old (typed key) s = shows_typed h old key s
displays_as h old entered s = shows_typed h old lf s
displays_as h old _ s = refl

-- ITEMS, one after another
pub stands_all : (h : History) (old : End) (items : List Item) → LeadsTo h old → LeadsTo (gets h items) (end_after_items old items)
stands_all = folding.stands_after (λ h item. next h (got item)) end_after_item LeadsTo stands_got

pub says_all : (h : History) (old : End) (items : List Item) → LeadsTo h old → items_said (gets h items) ≡ items_said h ++ says_items old items
says_all = folding.said_after (λ h item. next h (got item)) end_after_item LeadsTo stands_got says_got items_said
    (λ h old item s. ap (λ (xs : List Item). items_said h ++ xs) (replies_got h old item s))

pub shows_all : (h : History) (items : List Item) → text_shown (gets h items) ≡ text_shown h ++ items_shown items
shows_all h [] = sym (append-nil (text_shown h))
shows_all h (item ∷ items) = shows_all (next h (got item)) items ∙ append_assoc (text_shown h) (item_shown item) (items_shown items)

-- a history determines neither the decoder nor a failure
pub stands_decoder : (h : History) (old : End) (d : DecoderState) → LeadsTo h old → LeadsTo h (record old { decoder = d })
stands_decoder h old d s =
    record {
      options = s.options;
      mode = s.mode;
      forward = s.forward;
      table = s.table;
      line = s.line;
      ahead = s.ahead;
      limit = s.limit;
      trapped = s.trapped;
      plain = s.plain;
      size = s.size;
    }

-- THE END AFTER A PIECE
pub stands_fed : (h : History) (old new : End) (piece before after seen now : List ℕ) → (f : Feeds old piece before after seen now new)
    → LeadsTo h old → LeadsTo (gets h f.items) new
stands_fed h old new piece before after seen now f s =
    subst (LeadsTo (gets h f.items)) (sym f.step) (stands_decoder (gets h f.items) (end_after_items old f.items) new.decoder (stands_all h old f.items s))

-- which fails no end
pub fed_failed : (old new : End) (piece before after seen now : List ℕ) → Feeds old piece before after seen now new → new.failed ≡ old.failed
fed_failed old new piece before after seen now f = ap (λ (e : End). e.failed) f.step ∙ folding.kept_all end_after_item (λ (e : End). e.failed) (λ e item. refl) old f.items

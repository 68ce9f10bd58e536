-- Facts that hold of every history.
use Rattle.std.proofs.Common.{◌≡◌, ◌≤◌, ℕ, min, ◌==◌, Bool, true, false, not, ◌&&◌, Option, None, List, [], ◌∷◌, ◌++◌, length, take, drop, refl, sym, ap, ◌∙◌}
use Rattle.std.proofs.{Common.{if◌then◌else◌, append-nil, append_assoc, arith}, lemmas.List.take-append-drop}
use Rattle.tn_codes.specs.declared.{masks.Mask.Mask, payloads.Payload.Payload}
use Rattle.tn_discipline.specs.{Entries.half_of, Keys.{role_of_key, roles_from}, declared.keys.Role.Role}
use Rattle.tn_linemode.specs.{Modes.{edits, traps}, Words.{payload_under, differ}}
use Rattle.tn_nvt.specs.{declared.items.Item.{Item, TheVariants.{Neg, Sub}}, Spelling.lf}
use Rattle.tn_option.specs.Options.{Options, options_after_word}
use Rattle.tn_client.specs.{Events.{History, begun, next, typed, got, items, keys, gets, entered}, Terms.{options, mode, forward, chars, linemode, payload_at}}
use Rattle.tn_client.specs.{Terms.{mode_by, forward_by}, Lines.{settings_by, role_at, role_under, isig_told, roles_under, line_limit, edited_roles, half_line}}
use Rattle.tn_client.specs.Lines.{is_sent_ahead, lengths_with, lengths_kept, lengths_since_sent, least, ahead, held_bytes, count_under}

pub items-gets : (h : History) (more : List Item) → items (gets h more) ≡ items h ++ more
items-gets h [] = sym (append-nil (items h))
items-gets h (x ∷ xs) = items-gets (next h (got x)) xs ∙ append_assoc (items h) (x ∷ []) xs

pub keys-gets : (h : History) (more : List Item) → keys (gets h more) ≡ keys h
keys-gets h [] = refl
keys-gets h (x ∷ xs) = keys-gets (next h (got x)) xs

pub gets-append : (h : History) (front back : List Item) → gets h (front ++ back) ≡ gets (gets h front) back
gets-append h [] back = refl
gets-append h (x ∷ xs) back = gets-append (next h (got x)) xs back

-- WITHOUT EDIT the client holds nothing of a line
pub unedited : (h : History) → edits (mode h) ≡ false → edited_roles h ≡ []
unedited h e = ap (λ (b : Bool). if b then roles_under (traps (mode h)) h else []) e

some_or_none : {A : Type 0} (a : Bool) (rs : List A) → a ≡ false → (if a then rs else []) ≡ []
some_or_none true rs e = cc
some_or_none false rs e = refl

kept_or_none : (edit after : Bool) (n : ℕ) (ns : List ℕ) → after ≡ false → lengths_kept edit after n ns ≡ []
kept_or_none edit true n ns e = cc
kept_or_none true false n ns e = refl
kept_or_none false false n ns e = refl

unsent : (h : History) → edits (mode h) ≡ false → lengths_since_sent h ≡ []
unsent (begun width height limit) e = refl
unsent (next h (typed key)) e = some_or_none (edits (mode h)) _ e
unsent (next h entered) e = some_or_none (edits (mode h)) _ e
unsent (next h (got item)) e = kept_or_none (edits (mode h)) (edits (mode (next h (got item)))) _ (lengths_since_sent h) e
unsent (next h _) e = unsent h e

pub unedited-ahead : (h : History) → edits (mode h) ≡ false → ahead h ≡ 0
unedited-ahead h e = ap least (unsent h e)

-- THE ROLES OF A HALF-TYPED LINE, whichever end edits it
-- with EDIT it is known by which ISIG the keys were typed before
told_by_test : (a b : Bool) (edit after : Bool) (mask : ℕ) → edit ≡ false → after ≡ true
    → (if not edit && after then traps mask else a) ≡ (if not edit && after then traps mask else b)
told_by_test a b true after mask e f = cc
told_by_test a b false true mask e f = refl
told_by_test a b false false mask e f = cc

told_true : (isig edit : Bool) (mask : ℕ) → edit ≡ true → isig_told isig edit mask ≡ isig
told_true isig true mask e = refl
told_true isig false mask e = cc

told_off : (isig edit : Bool) (mask : ℕ) → edits mask ≡ false → isig_told isig edit mask ≡ isig
told_off isig true mask e = refl
told_off isig false mask e = ap (λ (b : Bool). if b then traps mask else isig) e

told_on : (isig : Bool) (mask : ℕ) → edits mask ≡ true → isig_told isig false mask ≡ traps mask
told_on isig mask e = ap (λ (b : Bool). if b then traps mask else isig) e

role_same : (isig : Bool) (h : History) (key : ℕ) → edits (mode h) ≡ true → role_under isig h key ≡ role_at h key
role_same isig h key e = ap (λ (b : Bool). if b then role_at h key else role_of_key (settings_by isig (chars h)) key) e

pub same_roles : (a b : Bool) (h : History) → edits (mode h) ≡ true → roles_under a h ≡ roles_under b h
same_roles a b (begun width height limit) e = refl
same_roles a b (next h (typed key)) e =
    ap (λ (rs : List Role). rs ++ roles_from (role_under a h key)) (same_roles a b h e)
    ∙ ap (λ (r : Role). roles_under b h ++ roles_from r) (role_same a h key e ∙ sym (role_same b h key e))
same_roles a b (next h entered) e =
    ap (λ (rs : List Role). rs ++ roles_from (role_under a h lf)) (same_roles a b h e)
    ∙ ap (λ (r : Role). roles_under b h ++ roles_from r) (role_same a h lf e ∙ sym (role_same b h lf e))
same_roles a b (next h (got item)) e = by_test (edits (mode h)) refl (λ f. same_roles a b h f)
  where
    by_test : (edit : Bool) → edits (mode h) ≡ edit → (edits (mode h) ≡ true → roles_under a h ≡ roles_under b h)
        → roles_under a (next h (got item)) ≡ roles_under b (next h (got item))
    by_test true f before =
        ap (λ (x : Bool). roles_under x h) (told_true a (edits (mode h)) (mode (next h (got item))) f)
        ∙ before f
        ∙ sym (ap (λ (x : Bool). roles_under x h) (told_true b (edits (mode h)) (mode (next h (got item))) f))
    by_test false f before = ap (λ (x : Bool). roles_under x h) (told_by_test a b (edits (mode h)) (edits (mode (next h (got item))))
        (mode (next h (got item))) f e)
same_roles a b (next h _) e = same_roles a b h e

pub edited-is : (h : History) → edits (mode h) ≡ true → edited_roles h ≡ roles_under (traps (mode h)) h
edited-is h e = ap (λ (b : Bool). if b then roles_under (traps (mode h)) h else []) e

-- a key with EDIT
pub edited-typed : (h : History) (key : ℕ) → edits (mode h) ≡ true → edited_roles (next h (typed key)) ≡ edited_roles h ++ roles_from (role_at h key)
edited-typed h key e =
    edited-is (next h (typed key)) e
    ∙ ap (λ (r : Role). roles_under (traps (mode h)) h ++ roles_from r) (role_same (traps (mode h)) h key e)
    ∙ ap (λ (rs : List Role). rs ++ roles_from (role_at h key)) (sym (edited-is h e))

-- a key without EDIT
pub under-typed : (isig : Bool) (h : History) (key : ℕ) → edits (mode h) ≡ false
    → roles_under isig (next h (typed key)) ≡ roles_under isig h ++ roles_from (role_of_key (settings_by isig (chars h)) key)
under-typed isig h key e =
    ap (λ (b : Bool). roles_under isig h ++ roles_from (if b then role_at h key else role_of_key (settings_by isig (chars h)) key)) e

-- an item by which EDIT stays, ends, begins, or stays away
pub edited-stays : (h : History) (item : Item) → edits (mode h) ≡ true → edits (mode (next h (got item))) ≡ true
    → edited_roles (next h (got item)) ≡ edited_roles h
edited-stays h item e f =
    let isig = traps (mode (next h (got item))) in
    edited-is (next h (got item)) f
    ∙ ap (λ (x : Bool). roles_under x h) (told_true isig (edits (mode h)) (mode (next h (got item))) e)
    ∙ same_roles isig (traps (mode h)) h e ∙ sym (edited-is h e)

pub under-ends : (isig : Bool) (h : History) (item : Item) → edits (mode h) ≡ true → roles_under isig (next h (got item)) ≡ edited_roles h
under-ends isig h item e =
    ap (λ (x : Bool). roles_under x h) (told_true isig (edits (mode h)) (mode (next h (got item))) e)
    ∙ same_roles isig (traps (mode h)) h e ∙ sym (edited-is h e)

pub edited-begins : (h : History) (item : Item) → edits (mode h) ≡ false → edits (mode (next h (got item))) ≡ true
    → edited_roles (next h (got item)) ≡ roles_under (traps (mode (next h (got item)))) h
edited-begins h item e f =
    let mask = mode (next h (got item)) in
    edited-is (next h (got item)) f
    ∙ ap (λ (b : Bool). roles_under (isig_told (traps mask) b mask) h) e
    ∙ ap (λ (x : Bool). roles_under x h) (told_on (traps mask) mask f)

pub under-stays : (isig : Bool) (h : History) (item : Item) → edits (mode (next h (got item))) ≡ false
    → roles_under isig (next h (got item)) ≡ roles_under isig h
under-stays isig h item f = ap (λ (x : Bool). roles_under x h) (told_off isig (edits (mode h)) (mode (next h (got item))) f)

-- COUNTS
pub count-none : (isig : Bool) (h : History) → edits (mode h) ≡ true → count_under isig h ≡ 0
count-none isig h e = ap (λ (b : Bool). if b then 0 else length (half_of (line_limit h) (roles_under isig h))) e

pub count-is : (isig : Bool) (h : History) → edits (mode h) ≡ false → count_under isig h ≡ length (half_of (line_limit h) (roles_under isig h))
count-is isig h e = ap (λ (b : Bool). if b then 0 else length (half_of (line_limit h) (roles_under isig h))) e

-- HOW MUCH IS AHEAD
-- after a key with EDIT the line has had a length since
lengths_typed : (h : History) (key : ℕ) → edits (mode h) ≡ true → (m : ℕ) × (ms : List ℕ) × (lengths_since_sent (next h (typed key)) ≡ m ∷ ms)
lengths_typed h key e =
    let n = length (half_line (next h (typed key))) in
    let is : lengths_since_sent (next h (typed key)) ≡ lengths_with (is_sent_ahead h key) n (lengths_since_sent h) =
    ap (λ (b : Bool). if b then lengths_with (is_sent_ahead h key) n (lengths_since_sent h) else []) e in
    by_test (is_sent_ahead h key) n (lengths_since_sent h) is
  where
    by_test : (b : Bool) (n : ℕ) (ns : List ℕ) → lengths_since_sent (next h (typed key)) ≡ lengths_with b n ns → (m : ℕ) × (ms : List ℕ)
        × (lengths_since_sent (next h (typed key)) ≡ m ∷ ms)
    by_test true n ns is = (n, [], is)
    by_test false n ns is = (n, ns, is)

pub some_lengths : (h : History) → edits (mode h) ≡ true → (n : ℕ) × (ns : List ℕ) × (lengths_since_sent h ≡ n ∷ ns)
some_lengths (begun width height limit) e = absurd (cc)
some_lengths (next h (typed key)) e = lengths_typed h key e
some_lengths (next h entered) e = lengths_typed h lf e
some_lengths (next h (got item)) e = by_test (edits (mode h)) refl (length (half_line (next h (got item)))) (λ f. some_lengths h f)
  where
    by_test : (edit : Bool) → edits (mode h) ≡ edit → (n : ℕ) → (edits (mode h) ≡ true → (m : ℕ) × (ms : List ℕ) × (lengths_since_sent h ≡ m ∷ ms)) → (m : ℕ)
        × (ms : List ℕ) × (lengths_kept (edits (mode h)) (edits (mode (next h (got item)))) n (lengths_since_sent h) ≡ m ∷ ms)
    by_test true f n some =
        let before = some f in (
          before.0,
          before.1,
          ap (λ (b : Bool). lengths_kept b (edits (mode (next h (got item)))) n (lengths_since_sent h)) f
              ∙ ap (λ (b : Bool). lengths_kept true b n (lengths_since_sent h)) e ∙ before.2,
        )
    by_test false f n some = (
      n,
      [],
      ap (λ (b : Bool). lengths_kept b (edits (mode (next h (got item)))) n (lengths_since_sent h)) f
          ∙ ap (λ (b : Bool). lengths_kept false b n (lengths_since_sent h)) e,
    )
some_lengths (next h _) e = some_lengths h e

-- the least length since all was sent, after one more
least-with : (b : Bool) (n m : ℕ) (ms : List ℕ) → least (lengths_with b n (m ∷ ms)) ≡ (if b then n else min n (least (m ∷ ms)))
least-with true n m ms = refl
least-with false n m ms = refl

-- after a key with EDIT
pub ahead-typed : (h : History) (key : ℕ) → edits (mode h) ≡ true
    → ahead (next h (typed key)) ≡ (if is_sent_ahead h key then length (half_line (next h (typed key)))
    else min (length (half_line (next h (typed key)))) (ahead h))
ahead-typed h key e =
    let n = length (half_line (next h (typed key))) in
    let before = some_lengths h e in
    ap (λ (b : Bool). least (if b then lengths_with (is_sent_ahead h key) n (lengths_since_sent h) else [])) e
    ∙ ap (λ (ns : List ℕ). least (lengths_with (is_sent_ahead h key) n ns)) before.2
    ∙ least-with (is_sent_ahead h key) n before.0 before.1
    ∙ ap (λ (ns : List ℕ). if is_sent_ahead h key then n else min n (least ns)) (sym before.2)

-- after an item with EDIT
pub ahead-stays : (h : History) (item : Item) → edits (mode h) ≡ true → edits (mode (next h (got item))) ≡ true → ahead (next h (got item)) ≡ ahead h
ahead-stays h item e f =
    let n = length (half_line (next h (got item))) in
    ap (λ (b : Bool). least (lengths_kept b (edits (mode (next h (got item)))) n (lengths_since_sent h))) e
    ∙ ap (λ (b : Bool). least (lengths_kept true b n (lengths_since_sent h))) f

pub ahead-begins : (h : History) (item : Item) → edits (mode h) ≡ false → edits (mode (next h (got item))) ≡ true
    → ahead (next h (got item)) ≡ length (half_line (next h (got item)))
ahead-begins h item e f =
    let n = length (half_line (next h (got item))) in
    ap (λ (b : Bool). least (lengths_kept b (edits (mode (next h (got item)))) n (lengths_since_sent h))) e
    ∙ ap (λ (b : Bool). least (lengths_kept false b n (lengths_since_sent h))) f

within_by_test : (b : Bool) (n : ℕ) (ns : List ℕ) → least (lengths_with b n ns) ≤ n
within_by_test true n ns = omega arith
within_by_test false n [] = omega arith
within_by_test false n (m ∷ ns) = omega arith

typed-within : (edit b : Bool) (n : ℕ) (ns : List ℕ) → least (if edit then lengths_with b n ns else []) ≤ n
typed-within true b n ns = within_by_test b n ns
typed-within false b n ns = omega arith

pub ahead-within : (h : History) → ahead h ≤ length (half_line h)
ahead-within (begun width height limit) = omega arith
ahead-within (next h (typed key)) = typed-within (edits (mode h)) (is_sent_ahead h key) (length (half_line (next h (typed key)))) (lengths_since_sent h)
ahead-within (next h entered) = typed-within (edits (mode h)) (is_sent_ahead h lf) (length (half_line (next h entered))) (lengths_since_sent h)
ahead-within (next h (got item)) = by_test (edits (mode h)) (edits (mode (next h (got item)))) refl refl (ahead-within h)
  where
    by_test : (edit after : Bool) → edits (mode h) ≡ edit → edits (mode (next h (got item))) ≡ after → ahead h ≤ length (half_line h)
        → ahead (next h (got item)) ≤ length (half_line (next h (got item)))
    by_test true true e f before =
        let same : length (half_line (next h (got item))) ≡ length (half_line h) =
        ap (λ (rs : List Role). length (half_of (line_limit h) rs)) (edited-stays h item e f) in
        omega (arith, before, same, ahead-stays h item e f)
    by_test false true e f before = omega (arith, ahead-begins h item e f)
    by_test edit false e f before = omega (arith, unedited-ahead (next h (got item)) f)
ahead-within (next h _) = ahead-within h

pub parts-whole : (h : History) → half_line h ≡ take (ahead h) (half_line h) ++ held_bytes h
parts-whole h = sym (take-append-drop (ahead h) (half_line h))

pub unedited_half : (h : History) → edits (mode h) ≡ false → half_line h ≡ []
unedited_half h e = ap (half_of (line_limit h)) (unedited h e)

-- without LINEMODE no payload counts
payload_off : (o : Options) (option : ℕ) (params : List ℕ) → linemode o ≡ false → payload_at o (Sub option params) ≡ None
payload_off o option params e = ap (λ (on : Bool). payload_under ((option == 34) && on) option params) e ∙ go (option == 34)
  where
    go : (b : Bool) → payload_under (b && false) option params ≡ None
    go true = refl
    go false = refl

changed_or_none : (was on : Bool) (m : ℕ) → (was ≡ false → m ≡ 0) → on ≡ false → (if differ was on then 0 else m) ≡ 0
changed_or_none true true m f e = cc
changed_or_none true false m f e = refl
changed_or_none false true m f e = refl
changed_or_none false false m f e = f refl

pub mode-off : (h : History) → linemode (options h) ≡ false → mode h ≡ 0
mode-off (begun width height limit) e = refl
mode-off (next h (got (Neg verb option))) e =
    changed_or_none (linemode (options h)) (linemode (options_after_word (options h) verb option)) (mode h) (mode-off h) e
mode-off (next h (got (Sub option params))) e =
    ap (λ (p : Option Payload). mode_by (mode h) p) (payload_off (options h) option params e) ∙ mode-off h e
mode-off (next h _) e = mode-off h e

changed_or_dropped : (was on : Bool) (f : Option Mask) → (was ≡ false → f ≡ None) → on ≡ false → (if differ was on then None else f) ≡ None
changed_or_dropped true true f g e = cc
changed_or_dropped true false f g e = refl
changed_or_dropped false true f g e = cc
changed_or_dropped false false f g e = g refl

pub forward-off : (h : History) → linemode (options h) ≡ false → forward h ≡ None
forward-off (begun width height limit) e = refl
forward-off (next h (got (Neg verb option))) e =
    changed_or_dropped (linemode (options h)) (linemode (options_after_word (options h) verb option)) (forward h) (forward-off h) e
forward-off (next h (got (Sub option params))) e =
    ap (λ (p : Option Payload). forward_by (forward h) p) (payload_off (options h) option params e) ∙ forward-off h e
forward-off (next h _) e = forward-off h e

pub unedited-held : (h : History) → edits (mode h) ≡ false → held_bytes h ≡ []
unedited-held h e = ap (λ (bytes : List ℕ). drop (ahead h) bytes) (unedited_half h e) ∙ ap (λ (n : ℕ). drop {A = ℕ} n []) (unedited-ahead h e)

-- The code settles the terms as a history does.
use Rattle.std.proofs.Common.{◌≡◌, ℕ, ◌==◌, Bool, true, false, Option, Some, None, ◌++◌, refl, ap, ◌∙◌, if◌then◌else◌}
use Rattle.tn_discipline.specs.{Characters.Characters, declared.termios.Flags.Flags}
use Rattle.tn_linemode.specs.{Modes.{Modes, mode_of, mask_sent}, Words.{differ, mode_items}}
use Rattle.tn_option.specs.Options.{Options}
use Rattle.tn_server.specs.Terms.{Terms, linemode, asked_mask_while, asked_mask_of, mode_sent, mask_told, asks_echo, changes, mask_after, terms_by, wish_after}
use Rattle.tn_server.specs.{Terms.{options_with_echo, wants_echo}, Replies.{items_by, new_table_items, echo_items}, declared.terms.Negotiation.Negotiation}
use Rattle.tn_server.specs.Steps.{modes_before, modes_told, modes_asked, told_now, masks_by, negotiation_after, negotiation_items}
use Rattle.tn_server.specs.declared.wishes.Editing.{Editing}

sent_by_asked : (m : Modes) (n wish : ℕ) → m.asked ≡ n → mask_sent m wish ≡ mask_sent (record { asked = n; current = 0 }) wish
sent_by_asked m n wish e = ap (λ (a : ℕ). if mode_of wish == a then None else Some (mode_of wish)) e

told_same : (was on : Bool) (m : Modes) (before wish : ℕ) → m.asked ≡ asked_mask_while was before
    → modes_told on (modes_before (differ was on) m) wish ≡ mode_sent on (asked_mask_while was before) wish
told_same true true m before wish e = sent_by_asked m (mode_of before) wish e
told_same true false m before wish e = refl
told_same false true m before wish e = refl
told_same false false m before wish e = refl

asked_same : (was on : Bool) (m : Modes) (before wish : ℕ) → m.asked ≡ asked_mask_while was before
    → (modes_asked on (modes_before (differ was on) m) wish).asked ≡ asked_mask_while on wish
asked_same true true m before wish e = refl
asked_same true false m before wish e = refl
asked_same false true m before wish e = refl
asked_same false false m before wish e = e

current_same : (was on : Bool) (m : Modes) (wish : ℕ) → (modes_asked on (modes_before (differ was on) m) wish).current
    ≡ mask_after (differ was on) m.current None
current_same true true m wish = refl
current_same true false m wish = refl
current_same false true m wish = refl
current_same false false m wish = refl

-- the masks of an end are those of its terms
abbrev pub Agree : Modes → Terms → Type 0
Agree m t = m.asked ≡ asked_mask_of t.options t.wish

abbrev now : Terms → Options → Modes → ℕ → Negotiation
now t o m wish = record { options = o; modes = m; wish = wish; opening = t.opening }

pub told_settles : (t : Terms) (m : Modes) (o : Options) (wish : ℕ) → Agree m t → told_now (linemode t.options) (now t o m wish) ≡ mask_told t o wish
told_settles t m o wish e = told_same (linemode t.options) (linemode o) m t.wish wish e

asked_settles : (t : Terms) (m : Modes) (o : Options) (wish : ℕ) → Agree m t → (masks_by (linemode t.options) (now t o m wish)).asked ≡ asked_mask_of o wish
asked_settles t m o wish e = asked_same (linemode t.options) (linemode o) m t.wish wish e

pub terms_settle : (f : Flags) (t : Terms) (m : Modes) (o : Options) (editing : Option Editing) (set : Bool) → Agree m t
    → (negotiation_after (linemode t.options) set f (now t o m (wish_after f t.wish editing))).options ≡ (terms_by f t o editing set).options
terms_settle f t m o editing set e =
    let wish = wish_after f t.wish editing in
    let asked : ℕ = (masks_by (linemode t.options) (now t o m wish)).asked in
    ap (λ (told : Option ℕ). options_with_echo (asks_echo t.options o told set) (wants_echo t.opening o asked f) o) (told_settles t m o wish e)
    ∙ ap (λ (a : ℕ). options_with_echo (asks_echo t.options o (mask_told t o wish) set) (wants_echo t.opening o a f) o) (asked_settles t m o wish e)

pub masks_settle : (f : Flags) (t : Terms) (m : Modes) (o : Options) (wish : ℕ) (set : Bool) → Agree m t
    → (negotiation_after (linemode t.options) set f (now t o m wish)).modes
    ≡ record { asked = asked_mask_of o wish; current = mask_after (changes t.options o) m.current None }
masks_settle f t m o wish set e =
    let masks = masks_by (linemode t.options) (now t o m wish) in
    ap (λ (a : ℕ). record { asked = a; current = masks.current }) (asked_settles t m o wish e)
    ∙ ap (λ (c : ℕ). record { asked = asked_mask_of o wish; current = c }) (current_same (linemode t.options) (linemode o) m wish)

pub says_settle : (f : Flags) (c : Characters) (t : Terms) (m : Modes) (o : Options) (editing : Option Editing) (set : Bool) → Agree m t
    → negotiation_items (linemode t.options) set f c (now t o m (wish_after f t.wish editing)) ≡ items_by f c t o editing set
says_settle f c t m o editing set e =
    let wish = wish_after f t.wish editing in
    let asked : ℕ = (masks_by (linemode t.options) (now t o m wish)).asked in
    ap (λ (told : Option ℕ). new_table_items (linemode t.options) (linemode o) c
    ++ (mode_items told ++ echo_items (asks_echo t.options o told set) (wants_echo t.opening o asked f) o)) (told_settles t m o wish e)
    ∙ ap (λ (a : ℕ). new_table_items (linemode t.options) (linemode o) c
    ++ (mode_items (mask_told t o wish) ++ echo_items (asks_echo t.options o (mask_told t o wish) set) (wants_echo t.opening o a f) o)) (asked_settles t m o wish e)

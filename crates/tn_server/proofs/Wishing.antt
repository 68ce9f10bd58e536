-- A request, as a call or in a MODE, and the other payloads.
use Rattle.std.proofs.Common.{◌≡◌, ℕ, Bool, true, false, Option, Some, None, is_some, List, ◌++◌, refl, sym, ap, ◌∙◌, if◌then◌else◌, append-nil}
use Rattle.tn_codes.specs.declared.payloads.Payload.{Payload, TheVariants.{Naws, Mode, ForwardOn, ForwardOff, ForwardYes, ForwardNo, Slc}}
use Rattle.tn_discipline.specs.Characters.{Characters}
use Rattle.tn_linemode.specs.Modes.{edits, is_acknowledged, wish_of_mask}
use Rattle.tn_nvt.specs.declared.items.Item.TheVariants.{Sub}
use Rattle.tn_pty.specs.Terminal.{Terminal}
use Rattle.tn_server.specs.Terms.{Terms, terms_by, changes, mask_after, chars_after, payload_at, wish_in, linemode, wish_after, mask_for, mask_or, editing}
use Rattle.tn_server.specs.{Terms.{editing_of, mask_told}, Replies.{items_by, list_replies}, Calls.End, declared.wishes.Editing.Editing}
use Rattle.tn_server.specs.Steps.{end_after_wish, says_wished, sends_wished, mask_wished, end_after_mode_by, says_mode_by, end_after_mode, says_mode_got}
use Rattle.tn_server.specs.Steps.{end_after_payload, says_sub, with_negotiated, negotiation_after, negotiation_items}
use Rattle.tn_server.proofs.{lemmas.Terms.{terms_stay, says_nothing, differ_self, told_again}, Settling.{told_settles, says_settle}, Turning.sub_types_nothing}
use Rattle.tn_server.proofs.Standings.{end_by_terms, says_by_terms}
use Rattle.tn_server.proofs.Turning.{IsSound, with_all, still, settled_all, set_by, typed_by, unset, own_chars, unwished, mode_acked, quiet_says}

-- a request by the mask that it asks for, if the item brings this payload
pub wish_done : (old : End) (ed : Editing) (mask : Option ℕ) (payload : Option Payload) (terminal : Terminal) → mask_for old.terminal.settings.flags ed ≡ mask
    → chars_after old.table payload ≡ old.table → terminal ≡ old.terminal → mask_after false old.modes.current payload ≡ old.modes.current → IsSound old
    → with_all old (terms_by old.terminal.settings.flags old.terms old.terms.options (Some ed) false) payload terminal ≡ end_after_wish old mask
wish_done old ed None payload terminal e c is m s =
    let f = old.terminal.settings.flags in
    ap (λ (t : Terms). with_all old t payload terminal) (terms_stay f old.terms (Some ed) (ap (mask_or old.terms.wish) e))
    ∙ still old payload terminal s.masks
    ∙ ap (λ (x : ℕ). record old { modes = record { asked = old.modes.asked; current = x }; table = chars_after old.table payload; terminal = terminal }) m
    ∙ ap (λ (x : Characters). record old { table = x; terminal = terminal }) c
    ∙ ap (λ (x : Terminal). record old { terminal = x }) is
wish_done old ed (Some mask) payload terminal e c is m s =
    let f = old.terminal.settings.flags in
    let t = old.terms in
    let unchanged : mask_after (changes t.options t.options) old.modes.current payload ≡ mask_after (changes t.options t.options) old.modes.current None =
    ap (λ (b : Bool). mask_after b old.modes.current payload) (differ_self (linemode t.options)) ∙ m
    ∙ sym (ap (λ (b : Bool). mask_after b old.modes.current None) (differ_self (linemode t.options))) in
    settled_all old t.options (Some ed) false payload terminal c is unchanged s
    ∙ ap (λ (w : ℕ). with_negotiated old (negotiation_after (linemode t.options) false f (record { options = t.options; modes = old.modes; wish = w; opening = t.opening })))
    (ap (mask_or t.wish) e)

pub wish_said : (old : End) (ed : Editing) (mask : Option ℕ) → mask_for old.terminal.settings.flags ed ≡ mask → IsSound old
    → items_by old.terminal.settings.flags old.table old.terms old.terms.options (Some ed) false ≡ says_wished old mask
wish_said old ed None e s = says_nothing old.terminal.settings.flags old.table old.terms (Some ed) (ap (mask_or old.terms.wish) e)
wish_said old ed (Some mask) e s =
    let f = old.terminal.settings.flags in
    let t = old.terms in
    sym (says_settle f old.table t old.modes t.options (Some ed) false s.masks)
    ∙ ap (λ (w : ℕ). negotiation_items (linemode t.options) false f old.table (record { options = t.options; modes = old.modes; wish = w; opening = t.opening }))
    (ap (mask_or t.wish) e)

pub wish_told : (old : End) (ed : Editing) (mask : Option ℕ) → mask_for old.terminal.settings.flags ed ≡ mask → IsSound old
    → is_some (mask_told old.terms old.terms.options (wish_after old.terminal.settings.flags old.terms.wish (Some ed))) ≡ sends_wished old mask
wish_told old ed None e s =
    let t = old.terms in
    ap (λ (m : Option ℕ). is_some (mask_told t t.options (mask_or t.wish m))) e ∙ ap is_some (told_again (linemode t.options) t.wish)
wish_told old ed (Some mask) e s =
    let t = old.terms in
    ap (λ (m : Option ℕ). is_some (mask_told t t.options (mask_or t.wish m))) e ∙ ap is_some (sym (told_settles t old.modes t.options mask s.masks))

-- the terminal and its characters as they were
kept : (old : End) → IsSound old → set_by old old.terminal None ≡ old.terminal
kept old s = unset old old.terminal refl refl refl s

-- a payload that is neither a mode, a list nor a size
plain : (old : End) (option : ℕ) (params : List ℕ) (payload : Option Payload) → payload_at old.terms.options (Sub option params) ≡ payload
    → wish_after old.terminal.settings.flags old.terms.wish (wish_in payload) ≡ old.terms.wish → mask_after false old.modes.current payload ≡ old.modes.current
    → chars_after old.table payload ≡ old.table → set_by old old.terminal payload ≡ old.terminal → IsSound old → end_by_terms old (Sub option params) ≡ old
plain old option params payload p w m c k s =
    unwished old (Sub option params) payload refl p w (sub_types_nothing old option params) s
    ∙ ap (λ (x : ℕ). record old {
      modes = record { asked = old.modes.asked; current = x };
      table = chars_after old.table payload;
      terminal = set_by old old.terminal payload;
    }) m
    ∙ ap (λ (x : Characters). record old { table = x; terminal = set_by old old.terminal payload }) c
    ∙ ap (λ (x : Terminal). record old { terminal = x }) k

-- a MODE, by whether it acknowledges
mode_got : (old : End) (option : ℕ) (params : List ℕ) (mask : ℕ) (b : Bool) → is_acknowledged mask ≡ b
    → payload_at old.terms.options (Sub option params) ≡ Some (Mode mask) → IsSound old → end_by_terms old (Sub option params) ≡ end_after_mode old mask
mode_got old option params mask true is p s =
    let wishes : wish_in (Some (Mode mask)) ≡ None = ap (λ (b : Bool). editing_of (if b then None else Some (edits mask))) is in
    unwished old (Sub option params) (Some (Mode mask)) refl p (ap (wish_after old.terminal.settings.flags old.terms.wish) wishes)
    (sub_types_nothing old option params) s
    ∙ ap (λ (x : Terminal). record old {
      modes = record { asked = old.modes.asked; current = mask_after false old.modes.current (Some (Mode mask)) };
      terminal = x;
    }) (kept old s)
    ∙ mode_acked old mask is
mode_got old option params mask false is p s =
    let f = old.terminal.settings.flags in
    let t = old.terms in
    let edit = edits mask in
    let wishes : wish_in (Some (Mode mask)) ≡ Some (editing edit) = ap (λ (b : Bool). editing_of (if b then None else Some edit)) is in
    let stays : mask_after false old.modes.current (Some (Mode mask)) ≡ old.modes.current = rw is refl in
    let says : wish_of_mask mask ≡ Some edit = ap (λ (b : Bool). if b then None else Some edit) is in
    ap (λ (x : Option Payload). with_all old (terms_by f t t.options (wish_in x) false) x (set_by old (typed_by old (Sub option params)) x)) p
    ∙ ap (λ (x : Option Editing). with_all old (terms_by f t t.options x false) (Some (Mode mask))
    (set_by old (typed_by old (Sub option params)) (Some (Mode mask)))) wishes
    ∙ wish_done old (editing edit) (mask_wished old edit) (Some (Mode mask)) (set_by old (typed_by old (Sub option params)) (Some (Mode mask))) refl refl
    (ap (λ (x : Terminal). set_by old x None) (sub_types_nothing old option params) ∙ kept old s) stays s
    ∙ sym (ap (end_after_mode_by old mask) says)

mode_said : (old : End) (mask : ℕ) (b : Bool) → is_acknowledged mask ≡ b → IsSound old
    → items_by old.terminal.settings.flags old.table old.terms old.terms.options (wish_in (Some (Mode mask))) false ≡ says_mode_got old mask
mode_said old mask true is s =
    let f = old.terminal.settings.flags in
    ap (λ (b : Bool). items_by f old.table old.terms old.terms.options (editing_of (if b then None else Some (edits mask))) false) is
    ∙ says_nothing f old.table old.terms None refl
    ∙ sym (ap (λ (b : Bool). says_mode_by old (if b then None else Some (edits mask))) is)
mode_said old mask false is s =
    let f = old.terminal.settings.flags in
    ap (λ (b : Bool). items_by f old.table old.terms old.terms.options (editing_of (if b then None else Some (edits mask))) false) is
    ∙ wish_said old (editing (edits mask)) (mask_wished old (edits mask)) refl s
    ∙ sym (ap (λ (b : Bool). says_mode_by old (if b then None else Some (edits mask))) is)

-- a subnegotiation
pub sub_got : (old : End) (option : ℕ) (params : List ℕ) (payload : Option Payload) → payload_at old.terms.options (Sub option params) ≡ payload → IsSound old
    → end_by_terms old (Sub option params) ≡ end_after_payload old payload
sub_got old option params None p s = plain old option params None p refl refl refl (kept old s) s
sub_got old option params (Some (Naws width height)) p s =
    unwished old (Sub option params) (Some (Naws width height)) refl p refl (sub_types_nothing old option params) s
    ∙ ap (λ (x : Terminal). record old { terminal = x }) (own_chars old width height s)
sub_got old option params (Some (Mode mask)) p s = mode_got old option params mask (is_acknowledged mask) refl p s
sub_got old option params (Some (Slc triples)) p s = unwished old (Sub option params) (Some (Slc triples)) refl p refl (sub_types_nothing old option params) s
sub_got old option params (Some (ForwardOn mask)) p s = plain old option params (Some (ForwardOn mask)) p refl refl refl (kept old s) s
sub_got old option params (Some ForwardOff) p s = plain old option params (Some ForwardOff) p refl refl refl (kept old s) s
sub_got old option params (Some ForwardYes) p s = plain old option params (Some ForwardYes) p refl refl refl (kept old s) s
sub_got old option params (Some ForwardNo) p s = plain old option params (Some ForwardNo) p refl refl refl (kept old s) s

pub sub_said : (old : End) (option : ℕ) (params : List ℕ) (payload : Option Payload) → payload_at old.terms.options (Sub option params) ≡ payload → IsSound old
    → says_by_terms old (Sub option params) ≡ says_sub old payload
sub_said old option params None p s = quiet_says old (Sub option params) None refl refl p refl
sub_said old option params (Some (Naws width height)) p s = quiet_says old (Sub option params) (Some (Naws width height)) refl refl p refl
sub_said old option params (Some (Mode mask)) p s =
    let f = old.terminal.settings.flags in
    ap (λ (x : Option Payload). items_by f old.table old.terms old.terms.options (wish_in x) false ++ list_replies old.table x) p
    ∙ append-nil (items_by f old.table old.terms old.terms.options (wish_in (Some (Mode mask))) false)
    ∙ mode_said old mask (is_acknowledged mask) refl s
sub_said old option params (Some (Slc triples)) p s = quiet_says old (Sub option params) (Some (Slc triples)) refl refl p refl
sub_said old option params (Some (ForwardOn mask)) p s = quiet_says old (Sub option params) (Some (ForwardOn mask)) refl refl p refl
sub_said old option params (Some ForwardOff) p s = quiet_says old (Sub option params) (Some ForwardOff) refl refl p refl
sub_said old option params (Some ForwardYes) p s = quiet_says old (Sub option params) (Some ForwardYes) refl refl p refl
sub_said old option params (Some ForwardNo) p s = quiet_says old (Sub option params) (Some ForwardNo) refl refl p refl

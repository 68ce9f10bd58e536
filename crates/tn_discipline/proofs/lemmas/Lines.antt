-- The effect of each role on a line, after any keys that led to it.
use Rattle.std.proofs.Common.{◌≡◌, ◌<◌, ◌≤◌, ℕ, ◌+◌, ◌-◌, min, Bool, true, false, List, [], ◌∷◌, ◌++◌, length, take, refl, sym, ap, subst, ◌∙◌, if◌then◌else◌}
use Rattle.std.proofs.{Common.{arith, append-nil, append_assoc, length-append, length-take}, Math.Seq.take-append-add, lemmas.Bool.lt-ltb}
use borrow.Author.Tests.{ltb-true, ltb-false}
use Rattle.tn_discipline.specs.{declared.{keys.Role.Role, reads.Entry.Entry, half_line.Effect.Effect}, Entries.{line_of, entries_of, half_of}, Keys.roles_from}
use Rattle.tn_discipline.specs.{Admitted.{is_dropped, admitted_roles, count_after, count_of}, Steps.{front, half_after, gain_after}}
use Rattle.tn_discipline.specs.HalfLine.{HalfLine, empty_line, line_length, line_released, line_resumed, line_erased, is_full, has_held, has_ahead, effect_of}
use Rattle.tn_discipline.specs.{HalfLine.{line_after, effect_entries}, Advancing.{LeadsTo, Advances, DropsExactly, KeepsHalf, LeadsWhereLong}}
use Rattle.tn_discipline.specs.declared.keys.Role.TheVariants as role
use Rattle.tn_discipline.specs.declared.reads.Entry.TheVariants as entry
use Rattle.tn_discipline.specs.declared.half_line.Effect.TheVariants as effect
use Rattle.tn_discipline.proofs.lemmas.Histories.{half-one_more, entries-one_more, length-half_of, admitted_after-append, count_after-append}

empty_of : (xs : List ℕ) → length xs ≡ 0 → xs ≡ []
empty_of [] h = refl
empty_of (x ∷ xs) h = absurd (omega arith)

-- the length of the half-typed line after keys that leave a line
pub length_at : (history : List Role) (line : HalfLine) → LeadsTo history line → length (half_of line.limit history) ≡ line_length line
length_at history line leads = ap length leads.bytes ∙ length-append leads.sent line.held ∙ ap (λ n. n + length line.held) leads.count

-- the count of the half-typed line after keys that leave a line
pub count_at : (history : List Role) (line : HalfLine) → LeadsTo history line → count_of line.limit history ≡ line_length line
count_at history line leads = sym (length-half_of line.limit history) ∙ length_at history line leads

half_at : (history : List Role) (line : HalfLine) → LeadsTo history line → line.ahead ≡ 0 → half_of line.limit history ≡ line.held
half_at history line leads none = leads.bytes ∙ ap (λ sent. sent ++ line.held) (empty_of leads.sent (leads.count ∙ none))

-- whether a key is dropped is seen at the line
dropped_at : (history : List Role) (line : HalfLine) (r : Role) (b : Bool) → LeadsTo history line → is_dropped line.limit (line_length line) r ≡ b
    → is_dropped line.limit (count_of line.limit history) r ≡ b
dropped_at history line r b leads test = ap (λ n. is_dropped line.limit n r) (count_at history line leads) ∙ test

-- these bytes are as many as are ahead, and then those that are held
abbrev Parts : List ℕ → HalfLine → Type 0
Parts whole line = (sent : List ℕ) × (length sent ≡ line.ahead) × (whole ≡ sent ++ line.held)

-- an admitted key
advances_by : (old new : HalfLine) (r : Role) (gain : List Entry) → is_dropped old.limit (line_length old) r ≡ false
    → ((sent : List ℕ) → length sent ≡ old.ahead → Parts (half_after (sent ++ old.held) r) new) → gain ≡ gain_after old.held r → new.ahead ≤ old.ahead
    → new.limit ≡ old.limit → Advances old (r ∷ []) gain new
advances_by old new r gain test step gives fewer same =
    record {
      half = λ history leads.
          let parts = step leads.sent leads.count in
          record {
            sent = parts.0;
            count = parts.1;
            bytes =
                ap (λ n. half_of n (history ++ r ∷ [])) same
                ∙ half-one_more old.limit history r
                ∙ ap (λ (b : Bool). if b then half_of old.limit history else half_after (half_of old.limit history) r)
                (dropped_at history old r false leads test)
                ∙ ap (λ half. half_after half r) leads.bytes
                ∙ parts.2;
          };
      entries = λ history leads none.
          entries-one_more old.limit history r
          ∙ ap (λ (b : Bool). entries_of old.limit history ++ (if b then [] else gain_after (half_of old.limit history) r))
          (dropped_at history old r false leads test)
          ∙ ap (λ held. entries_of old.limit history ++ gain_after held r) (half_at history old leads none)
          ∙ ap (λ es. entries_of old.limit history ++ es) (sym gives);
      ahead = fewer;
      limit = same;
    }

-- a dropped key
advances_none : (old : HalfLine) (r : Role) → is_dropped old.limit (line_length old) r ≡ true → Advances old (r ∷ []) [] old
advances_none old r test =
    record {
      half = λ history leads. record {
        sent = leads.sent;
        count = leads.count;
        bytes =
            half-one_more old.limit history r
            ∙ ap (λ (b : Bool). if b then half_of old.limit history else half_after (half_of old.limit history) r) (dropped_at history old r true leads test)
            ∙ leads.bytes;
      };
      entries = λ history leads none.
          entries-one_more old.limit history r
          ∙ ap (λ (b : Bool). entries_of old.limit history ++ (if b then [] else gain_after (half_of old.limit history) r))
          (dropped_at history old r true leads test);
      ahead = omega arith;
      limit = refl;
    }

-- no key
pub advances_nothing : (old : HalfLine) → Advances old [] [] old
advances_nothing old =
    record {
      half = λ history leads. subst (λ h. LeadsTo h old) (sym (append-nil history)) leads;
      entries = λ history leads none. ap (entries_of old.limit) (append-nil history) ∙ sym (append-nil (entries_of old.limit history));
      ahead = omega arith;
      limit = refl;
    }

-- a key that leaves nothing
advances_empty : (old : HalfLine) (r : Role) (gain : List Entry) → is_dropped old.limit (line_length old) r ≡ false → ((half : List ℕ) → half_after half r ≡ [])
    → gain ≡ gain_after old.held r → Advances old (r ∷ []) gain (empty_line old.limit)
advances_empty old r gain test empties gives =
    advances_by old (empty_line old.limit) r gain test (λ sent count. ([], refl, empties (sent ++ old.held))) gives (omega arith) refl

ordinary_by : (old : HalfLine) (byte : ℕ) (full : Bool) → is_full old ≡ full
    → Advances old (role.Ordinary byte ∷ []) (effect_entries (if full then effect.Dropped else effect.Kept))
    (if full then old else record old { held = old.held ++ byte ∷ [] })
ordinary_by old byte true test = advances_none old (role.Ordinary byte) test
ordinary_by old byte false test =
    advances_by old (record old { held = old.held ++ byte ∷ [] }) (role.Ordinary byte) [] test
    (λ sent count. (sent, count, append_assoc sent old.held (byte ∷ []))) refl (omega arith) refl

-- the last byte of two lists, if the second is not empty
front_of : (sent held : List ℕ) → 0 < length held → front (sent ++ held) ≡ sent ++ front held
front_of sent held some =
    let count : length (sent ++ held) - 1 ≡ length sent + (length held - 1) = omega (arith, length-append sent held) in
    ap (λ n. take n (sent ++ held)) count ∙ take-append-add sent held (length held - 1)

erase_by : (old : HalfLine) (some : Bool) → has_held old ≡ some →
    Advances old (role.Erase ∷ []) [] (if some then record old { held = front old.held } else record old { held = []; ahead = old.ahead - 1 })
erase_by old true test =
    advances_by old (record old { held = front old.held }) role.Erase [] refl
    (λ sent count. (sent, count, front_of sent old.held (ltb-true 0 (length old.held) test))) refl (omega arith) refl
erase_by old false test =
    let none : old.held ≡ [] = let le : length old.held ≤ 0 = ltb-false 0 (length old.held) test in empty_of old.held (omega arith) in
    advances_by old (record old { held = []; ahead = old.ahead - 1 }) role.Erase [] refl
    (λ sent count. (
      front sent,
      omega (arith, length-take (length sent - 1) sent, count),
      ap (λ held. front (sent ++ held)) none ∙ ap front (append-nil sent) ∙ sym (append-nil (front sent)),
    ))
    refl (omega arith) refl

-- an erasure gives nothing
pub advances_erase : (old : HalfLine) → Advances old (role.Erase ∷ []) [] (line_after old role.Erase)
advances_erase old = erase_by old (has_held old) refl

erase_gains : (held ahead : Bool) → effect_entries (if held then effect.Erased else (if ahead then effect.ErasedAhead else effect.Nothing)) ≡ []
erase_gains true ahead = refl
erase_gains false true = refl
erase_gains false false = refl

-- the effect of a key of any role is the one that the whole lists of keys give
pub advances : (old : HalfLine) (r : Role) → Advances old (roles_from r) (effect_entries (effect_of old r)) (line_after old r)
advances old role.Ignored = advances_nothing old
advances old (role.Ordinary byte) = ordinary_by old byte (is_full old) refl
advances old role.Erase =
    subst (λ gain. Advances old (role.Erase ∷ []) gain (line_after old role.Erase)) (sym (erase_gains (has_held old) (has_ahead old))) (advances_erase old)
advances old role.Kill = advances_empty old role.Kill [] refl (λ half. refl) refl
advances old (role.Signal sig) =
    advances_by old old (role.Signal sig) (entry.Signal sig ∷ []) refl (λ sent count. (sent, count, refl)) refl (omega arith) refl
advances old role.Nl = advances_empty old role.Nl (line_of (old.held ++ 10 ∷ []) ∷ []) refl (λ half. refl) refl
advances old (role.Eol byte) = advances_empty old (role.Eol byte) (line_of (old.held ++ byte ∷ []) ∷ []) refl (λ half. refl) refl
advances old (role.Eol2 byte) = advances_empty old (role.Eol2 byte) (line_of (old.held ++ byte ∷ []) ∷ []) refl (λ half. refl) refl
advances old role.Eof = advances_empty old role.Eof (line_of old.held ∷ []) refl (λ half. refl) refl

longer : (xs : List Role) (r : Role) → xs ++ r ∷ [] ≡ xs → ⊥
longer xs r e = omega (arith, ap length e, length-append xs (r ∷ []))

-- the keys that are admitted after one more, by whether it is dropped
admitted_at : (line : HalfLine) (r : Role) (b : Bool) (history : List Role) → is_dropped line.limit (line_length line) r ≡ b → LeadsTo history line
    → admitted_roles line.limit (history ++ r ∷ []) ≡ admitted_roles line.limit history ++ (if b then [] else r ∷ [])
admitted_at line r b history test leads =
    admitted_after-append line.limit 0 history (r ∷ []) ∙ ap (λ (b : Bool). admitted_roles line.limit history ++ (if b then [] else r ∷ []))
    (dropped_at history line r b leads test)

drops_never : (line : HalfLine) (r : Role) (e : Effect) → is_dropped line.limit (line_length line) r ≡ false → (e ≡ effect.Dropped → ⊥)
    → DropsExactly line (r ∷ []) e
drops_never line r e test other history leads = (
  λ same. absurd (other same),
  λ p. absurd (longer (admitted_roles line.limit history) r (sym (admitted_at line r false history test leads) ∙ p.1)),
)

drops_nothing : (line : HalfLine) (e : Effect) → (e ≡ effect.Dropped → ⊥) → DropsExactly line [] e
drops_nothing line e other history leads = (λ same. absurd (other same), λ p. absurd (omega (arith, p.0)))

drops_by : (line : HalfLine) (byte : ℕ) (full : Bool) → is_full line ≡ full
    → DropsExactly line (role.Ordinary byte ∷ []) (if full then effect.Dropped else effect.Kept)
drops_by line byte true test history leads = (
  λ same. (omega arith, admitted_at line (role.Ordinary byte) true history test leads ∙ append-nil (admitted_roles line.limit history)),
  λ p. refl,
)
drops_by line byte false test history leads = drops_never line (role.Ordinary byte) effect.Kept test (λ same. cc) history leads

erase_not_dropped : (held ahead : Bool) → (if held then effect.Erased else (if ahead then effect.ErasedAhead else effect.Nothing)) ≡ effect.Dropped → ⊥
erase_not_dropped true ahead same = cc
erase_not_dropped false true same = cc
erase_not_dropped false false same = cc

-- a key is dropped exactly if it is not admitted
pub drops_exactly : (line : HalfLine) (r : Role) → DropsExactly line (roles_from r) (effect_of line r)
drops_exactly line role.Ignored = drops_nothing line effect.Nothing (λ same. cc)
drops_exactly line (role.Ordinary byte) = drops_by line byte (is_full line) refl
drops_exactly line role.Erase = drops_never line role.Erase (effect_of line role.Erase) refl (erase_not_dropped (has_held line) (has_ahead line))
drops_exactly line role.Kill = drops_never line role.Kill (effect.Killed line.ahead) refl (λ same. cc)
drops_exactly line (role.Signal sig) = drops_never line (role.Signal sig) (effect.Gives (entry.Signal sig)) refl (λ same. cc)
drops_exactly line role.Nl = drops_never line role.Nl (effect_of line role.Nl) refl (λ same. cc)
drops_exactly line (role.Eol byte) = drops_never line (role.Eol byte) (effect_of line (role.Eol byte)) refl (λ same. cc)
drops_exactly line (role.Eol2 byte) = drops_never line (role.Eol2 byte) (effect_of line (role.Eol2 byte)) refl (λ same. cc)
drops_exactly line role.Eof = drops_never line role.Eof (effect_of line role.Eof) refl (λ same. cc)

-- the bytes that are handed on stay in the half-typed line
pub released_keeps : (line : HalfLine) → KeepsHalf line (line_released line)
released_keeps line history leads =
    record {
      sent = leads.sent ++ line.held;
      count = length-append leads.sent line.held ∙ ap (λ n. n + length line.held) leads.count;
      bytes = leads.bytes ∙ sym (append-nil (leads.sent ++ line.held));
    }

-- a half-typed line of which all was handed on is one of any keys with as many bytes
pub resumed_leads : (limit ahead : ℕ) → LeadsWhereLong limit ahead (line_resumed limit ahead)
resumed_leads limit ahead history long = record { sent = half_of limit history; count = long; bytes = sym (append-nil (half_of limit history)) }

-- the plain count after one more key
pub count_more : (limit : ℕ) (history : List Role) (r : Role) → length (half_of limit (history ++ roles_from r))
    ≡ count_after limit (length (half_of limit history)) (roles_from r)
count_more limit history r =
    length-half_of limit (history ++ roles_from r) ∙ count_after-append limit 0 history (roles_from r)
    ∙ ap (λ n. count_after limit n (roles_from r)) (sym (length-half_of limit history))

-- a key leaves as many bytes ahead as there were, but no more than it leaves of the line
kept_least : (line : HalfLine) (byte : ℕ) (full : Bool) → (if full then line else record line { held = line.held ++ byte ∷ [] }).ahead
    ≡ min (line_length (if full then line else record line { held = line.held ++ byte ∷ [] })) line.ahead
kept_least line byte true = omega arith
kept_least line byte false = omega arith

erased_least : (line : HalfLine) (some : Bool) → (if some then record line { held = front line.held }
    else record line { held = []; ahead = line.ahead - 1 }).ahead
    ≡ min (line_length (if some then record line { held = front line.held } else record line { held = []; ahead = line.ahead - 1 })) line.ahead
erased_least line true = omega arith
erased_least line false = omega arith

pub after_least : (line : HalfLine) (r : Role) → (line_after line r).ahead ≡ min (line_length (line_after line r)) line.ahead
after_least line (role.Ordinary byte) = kept_least line byte (is_full line)
after_least line role.Erase = erased_least line (has_held line)
after_least line (role.Signal sig) = omega arith
after_least line role.Ignored = omega arith
after_least line role.Nl = omega arith
after_least line (role.Eol byte) = omega arith
after_least line (role.Eol2 byte) = omega arith
after_least line role.Eof = omega arith
after_least line role.Kill = omega arith

-- an erasure takes back the byte that was kept last
pub kept_erased : (line : HalfLine) (byte : ℕ) → line_erased (record line { held = line.held ++ byte ∷ [] }) ≡ line
kept_erased line byte =
    let some : has_held (record line { held = line.held ++ byte ∷ [] }) ≡ true =
    lt-ltb 0 (length (line.held ++ byte ∷ [])) (omega (arith, length-append line.held (byte ∷ []))) in
    let last : front (line.held ++ byte ∷ []) ≡ line.held = front_of line.held (byte ∷ []) (omega arith) ∙ append-nil line.held in
    ap (λ (t : Bool). if t then record line { held = front (line.held ++ byte ∷ []) } else record line { held = []; ahead = line.ahead - 1 }) some
    ∙ ap (λ (held : List ℕ). record line { held = held }) last

-- The facts that hold of an end in any state.
use Rattle.std.proofs.Common.{◌≡◌, ℕ, List, [], ◌∷◌, ◌++◌, length, drop, refl, sym, ap, ◌∙◌}
use Rattle.tn_discipline.specs.Entries.{half_of}
use Rattle.tn_client.specs.{Events.History, Lines.{edited_roles, ahead, half_line, held_bytes, line}, Calls.{End, LeadsTo}}

drop-front : (sent held : List ℕ) → drop (length sent) (sent ++ held) ≡ held
drop-front [] held = refl
drop-front (b ∷ bs) held = drop-front bs held

-- the held bytes come after those ahead
pub held_is : (h : History) (end : End) → LeadsTo h end → end.line.held ≡ held_bytes h
held_is h end s =
    let whole : half_line h ≡ s.line.sent ++ end.line.held = ap (λ (n : ℕ). half_of n (edited_roles h)) (sym s.limit) ∙ s.line.bytes in
    sym (ap (drop (ahead h)) whole ∙ ap (λ (n : ℕ). drop n (s.line.sent ++ end.line.held)) (sym (s.line.count ∙ s.ahead))
    ∙ drop-front s.line.sent end.line.held)

pub line_is : (h : History) (end : End) → LeadsTo h end → end.line ≡ line h
line_is h end s =
    ap (λ (bytes : List ℕ). record { held = bytes; ahead = end.line.ahead; limit = end.line.limit }) (held_is h end s)
    ∙ ap (λ (n : ℕ). record { held = held_bytes h; ahead = n; limit = end.line.limit }) s.ahead
    ∙ ap (λ (n : ℕ). record { held = held_bytes h; ahead = ahead h; limit = n }) s.limit

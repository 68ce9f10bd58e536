-- How the server takes items.
use Rattle.std.proofs.Common.{◌≡◌, ◌≤◌, ◌<◌, ℕ, zero, suc, ◌+◌, ◌==◌, nat_lt, Bool, true, false, List, [], ◌∷◌, ◌++◌, length, take, refl, sym, ap, ◌∙◌}
use Rattle.std.proofs.{Common.{if◌then◌else◌, arith, append-nil, append_assoc, length-append}, lemmas.List.Elements.{All-nil, All-cons, All-head, All-tail}}
use Rattle.std.proofs.lemmas.Bool.{lt-ltb}
use Rattle.std.specs.Prelude.{All}
use Rattle.tn_discipline.specs.{declared.{reads.Entry.Entry, half_line.Effect.Effect, keys.Role.Role}, Limits.max_counted, Entries.{entries_of, half_of}}
use Rattle.tn_discipline.specs.{Canon.{Canon, typed_entries, typed_half}, Steps.{front, half_next, gain_next}, declared.termios.Settings.Settings}
use Rattle.tn_discipline.specs.{HalfLine.{HalfLine, line_after, effect_entries}, Keys.{role_of_key, literal_role, roles_of, roles_from}, Characters.Characters}
use Rattle.tn_discipline.specs.declared.half_line.Effect.TheVariants as effect
use Rattle.tn_pty.specs.Typing.{gain_of}
use Rattle.tn_discipline.specs.declared.keys.Role.TheVariants as role
use Rattle.tn_discipline.proofs.lemmas.{Histories.{half-next, entries-next}, KeyRoles.{roles_of-append, roles_of-one}}
use Rattle.tn_nvt.specs.declared.items.Item.{Item, TheVariants.Byte}
use Rattle.tn_client.specs.Replies.{byte_items}
use Rattle.tn_world.specs.relation.{Pictures.Server, Relation.{AreOrdinary, server_at}}
use Rattle.tn_world.proofs.Machine.{read, read_all}

-- all of a list in two parts is all of both parts
pub all_parts : {X : Type 0} (P : X → Type 0) (xs ys : List X) → All P (xs ++ ys) → All P xs × All P ys
all_parts P [] ys h = (All-nil P, h)
all_parts P (x ∷ xs) ys h =
    let rest = all_parts P xs ys (All-tail P x (xs ++ ys) h) in
    (All-cons P x xs (All-head P x (xs ++ ys) h) rest.0, rest.1)

pub read_all-append : (s : Canon) (v : Server) (xs ys : List Item) → read_all s v (xs ++ ys) ≡ read_all s (read_all s v xs) ys
read_all-append s v [] ys = refl
read_all-append s v (x ∷ xs) ys = read_all-append s (read s v x) xs ys

pub ordinary-append : (chars : Characters) (xs ys : List ℕ) → AreOrdinary chars xs → AreOrdinary chars ys → AreOrdinary chars (xs ++ ys)
ordinary-append chars [] ys p q = q
ordinary-append chars (x ∷ xs) ys p q = (p.0, ordinary-append chars xs ys p.1 q)

pub ordinary-take : (chars : Characters) (n : ℕ) (xs : List ℕ) → AreOrdinary chars xs → AreOrdinary chars (take n xs)
ordinary-take chars zero xs p = tt
ordinary-take chars (suc n) [] p = tt
ordinary-take chars (suc n) (x ∷ xs) p = (p.0, ordinary-take chars n xs p.1)

not_full : (limit n : ℕ) → n < max_counted limit → (n == max_counted limit) ≡ false
not_full limit n h = grind arith

read-byte : (s : Canon) (l : Bool) (h : List ℕ) (w : List Entry) (b : ℕ) → literal_role s.settings.chars b ≡ role.Ordinary b → length h < max_counted s.limit
    → read s (server_at l true h w) (Byte b) ≡ server_at l true (h ++ b ∷ []) w
read-byte s l h w b plain fits =
    ap (λ r. server_at l true (half_next s.limit h r) (w ++ gain_next s.limit h r)) plain
    ∙ ap (λ (t : Bool). server_at l true (if t then h else h ++ b ∷ []) (w ++ (if t then [] else []))) (not_full s.limit (length h) fits)
    ∙ ap (λ x. server_at l true (h ++ b ∷ []) x) (append-nil w)

-- ordinary bytes that fit are all kept
pub read-bytes : (s : Canon) (l : Bool) (h : List ℕ) (w : List Entry) (bs : List ℕ) → AreOrdinary s.settings.chars bs
    → length h + length bs ≤ max_counted s.limit → read_all s (server_at l true h w) (byte_items bs) ≡ server_at l true (h ++ bs) w
read-bytes s l h w [] plain fits = ap (λ x. server_at l true x w) (sym (append-nil h))
read-bytes s l h w (b ∷ bs) plain fits =
    ap (λ v. read_all s v (byte_items bs)) (read-byte s l h w b plain.0 (omega arith))
    ∙ read-bytes s l (h ++ b ∷ []) w bs plain.1 (omega (arith, length-append h (b ∷ [])))
    ∙ ap (λ x. server_at l true x w) (append_assoc h (b ∷ []) bs)

-- ordinary bytes, and one more item
pub read-bytes_then : (s : Canon) (l : Bool) (h : List ℕ) (w : List Entry) (bs : List ℕ) (item : Item) → AreOrdinary s.settings.chars bs
    → length h + length bs ≤ max_counted s.limit → read_all s (server_at l true h w) (byte_items bs ++ item ∷ []) ≡ read s (server_at l true (h ++ bs) w) item
read-bytes_then s l h w bs item plain fits =
    read_all-append s (server_at l true h w) (byte_items bs) (item ∷ []) ∙ ap (λ v. read s v item) (read-bytes s l h w bs plain fits)

-- one more key at a local terminal
pub half-role : (limit : ℕ) (h : List Role) (r : Role) → half_of limit (h ++ roles_from r) ≡ half_next limit (half_of limit h) r
half-role limit h role.Ignored = ap (half_of limit) (append-nil h)
half-role limit h role.Nl = half-next limit h role.Nl
half-role limit h (role.Eol b) = half-next limit h (role.Eol b)
half-role limit h (role.Eol2 b) = half-next limit h (role.Eol2 b)
half-role limit h role.Eof = half-next limit h role.Eof
half-role limit h (role.Signal sig) = half-next limit h (role.Signal sig)
half-role limit h role.Erase = half-next limit h role.Erase
half-role limit h role.Kill = half-next limit h role.Kill
half-role limit h (role.Ordinary b) = half-next limit h (role.Ordinary b)

pub entries-role : (limit : ℕ) (h : List Role) (r : Role) → entries_of limit (h ++ roles_from r) ≡ entries_of limit h ++ gain_next limit (half_of limit h) r
entries-role limit h role.Ignored = ap (entries_of limit) (append-nil h) ∙ sym (append-nil (entries_of limit h))
entries-role limit h role.Nl = entries-next limit h role.Nl
entries-role limit h (role.Eol b) = entries-next limit h (role.Eol b)
entries-role limit h (role.Eol2 b) = entries-next limit h (role.Eol2 b)
entries-role limit h role.Eof = entries-next limit h role.Eof
entries-role limit h (role.Signal sig) = entries-next limit h (role.Signal sig)
entries-role limit h role.Erase = entries-next limit h role.Erase
entries-role limit h role.Kill = entries-next limit h role.Kill
entries-role limit h (role.Ordinary b) = entries-next limit h (role.Ordinary b)

typed_more : (s : Settings) (keys : List ℕ) (key : ℕ) → roles_of s (keys ++ key ∷ []) ≡ roles_of s keys ++ roles_from (role_of_key s key)
typed_more s keys key = roles_of-append s keys (key ∷ []) ∙ ap (λ rs. roles_of s keys ++ rs) (sym (roles_of-one s key))

pub half-typed : (s : Canon) (keys : List ℕ) (key : ℕ) → typed_half s (keys ++ key ∷ []) ≡ half_next s.limit (typed_half s keys) (role_of_key s.settings key)
half-typed s keys key = ap (half_of s.limit) (typed_more s.settings keys key) ∙ half-role s.limit (roles_of s.settings keys) (role_of_key s.settings key)

pub entries-typed : (s : Canon) (keys : List ℕ) (key : ℕ) → typed_entries s (keys ++ key ∷ []) ≡ typed_entries s keys
    ++ gain_next s.limit (typed_half s keys) (role_of_key s.settings key)
entries-typed s keys key = ap (entries_of s.limit) (typed_more s.settings keys key)
    ∙ entries-role s.limit (roles_of s.settings keys) (role_of_key s.settings key)

-- a line of which nothing is ahead, after one more key
plus_none : (n : ℕ) → 0 + n ≡ n
plus_none n = omega arith

held_if : (b : Bool) (one other : HalfLine) → (if◌then◌else◌ {A = HalfLine} b one other).held ≡ (if b then one.held else other.held)
held_if true one other = refl
held_if false one other = refl

pub next_held : (held : List ℕ) (n : ℕ) (r : Role) → (line_after (record { held = held; ahead = 0; limit = n }) r).held ≡ half_next n held r
next_held [] n role.Erase = refl
next_held (x ∷ held) n role.Erase =
    let one : HalfLine = record { held = front (x ∷ held); ahead = 0; limit = n } in
    let other : HalfLine = record { held = []; ahead = 0; limit = n } in
    ap (λ (b : Bool). (if◌then◌else◌ {A = HalfLine} b one other).held) (lt-ltb 0 (length (x ∷ held)) (omega arith))
next_held held n (role.Ordinary byte) =
    let one : HalfLine = record { held = held; ahead = 0; limit = n } in
    let other : HalfLine = record { held = held ++ byte ∷ []; ahead = 0; limit = n } in
    ap (λ (m : ℕ). (if◌then◌else◌ {A = HalfLine} (m == max_counted n) one other).held) (plus_none (length held)) ∙ held_if (length held == max_counted n) one other
next_held held n _ = refl

gives_none : (b : Bool) (one other : Effect) → effect_entries one ≡ [] → effect_entries other ≡ [] → effect_entries (if b then one else other) ≡ []
gives_none true one other p q = p
gives_none false one other p q = q

none_if : (b : Bool) → ◌≡◌ {A = List Entry} [] (if◌then◌else◌ {A = List Entry} b [] [])
none_if true = refl
none_if false = refl

pub next_gain : (held : List ℕ) (n : ℕ) (r : Role) → gain_of (record { held = held; ahead = 0; limit = n }) r ≡ gain_next n held r
next_gain held n role.Erase = gives_none (nat_lt 0 (length held)) effect.Erased effect.Nothing refl refl
next_gain held n (role.Ordinary byte) =
    gives_none (0 + length held == max_counted n) effect.Dropped effect.Kept refl refl ∙ none_if (length held == max_counted n)
next_gain held n _ = refl

-- Each half-typed line that fits a line is left by some keys.
use Rattle.std.proofs.Common.{◌≡◌, ℕ, ◌+◌, ◌<◌, ◌==◌, Bool, false, List, [], ◌∷◌, ◌++◌, length, map, reverse, refl, sym, ap, subst, ◌∙◌, if◌then◌else◌, arith}
use Rattle.std.proofs.{Common.length-append, lemmas.List.{reverse-append, reverse-reverse, length-reverse, length-replicate, map-append}}
use Rattle.std.specs.Prelude.{replicate}
use Rattle.tn_discipline.specs.{HalfLine.{HalfLine, line_length}, Limits.max_counted, Admitted.count_of, Entries.half_of, Advancing.LeadsTo}
use Rattle.tn_discipline.specs.declared.keys.Role.{Role}
use Rattle.tn_discipline.specs.declared.keys.Role.TheVariants as role
use Rattle.tn_discipline.proofs.lemmas.Histories.{half-one_more, length-half_of}

-- the keys that type these bytes
abbrev pub typed : List ℕ → List Role
typed bytes = map (λ b. role.Ordinary b) bytes

not_full : (n limit : ℕ) → n + 1 < limit → (n == max_counted limit) ≡ false
not_full n limit h = grind arith

one_more : (limit : ℕ) (history : List Role) (bytes : List ℕ) (b : ℕ) → half_of limit history ≡ bytes → length bytes + 1 < limit
    → half_of limit (history ++ role.Ordinary b ∷ []) ≡ bytes ++ b ∷ []
one_more limit history bytes b leads fits =
    half-one_more limit history (role.Ordinary b)
    ∙ ap (λ (t : Bool). if t then half_of limit history else half_of limit history ++ b ∷ [])
    (not_full (count_of limit history) limit (omega (arith, length-half_of limit history, ap length leads)))
    ∙ ap (λ half. half ++ b ∷ []) leads

backwards : (limit : ℕ) (back : List ℕ) → length back < limit → half_of limit (typed (reverse back)) ≡ reverse back
backwards limit [] fits = refl
backwards limit (b ∷ back) fits =
    let more : reverse (b ∷ back) ≡ reverse back ++ b ∷ [] = reverse-append (b ∷ []) back in
    ap (λ bytes. half_of limit (typed bytes)) more
    ∙ ap (half_of limit) (map-append (λ b. role.Ordinary b) (reverse back) (b ∷ []))
    ∙ one_more limit (typed (reverse back)) (reverse back) b (backwards limit back (omega arith)) (omega (arith, length-reverse back))
    ∙ sym more

pub forwards : (limit : ℕ) (bytes : List ℕ) → length bytes < limit → half_of limit (typed bytes) ≡ bytes
forwards limit bytes fits = subst (λ xs. half_of limit (typed xs) ≡ xs) (reverse-reverse bytes)
    (backwards limit (reverse bytes) (omega (arith, length-reverse bytes)))

pub every_line_is_left : (line : HalfLine) → line_length line < line.limit → (history : List Role) × LeadsTo history line
every_line_is_left line fits =
    let sent = replicate line.ahead 0 in
    let long : length sent ≡ line.ahead = length-replicate line.ahead 0 in (
      typed (sent ++ line.held),
      record {
        sent = sent;
        count = long;
        bytes = forwards line.limit (sent ++ line.held) (omega (arith, length-append sent line.held, long));
      },
    )

-- One place more to listen at.
use Rattle.std.proofs.{Common.{◌≡◌, ◌<◌, ◌+◌, ℕ, List, [], ◌∷◌, ◌++◌, None, length, map, take, get_or, ap, ap₂, sym, ◌∙◌}, lemmas.List.{map-append, take_more}}
use Rattle.std.specs.Borrow.{Bor}
use Rattle.tn_net.specs.network.Asked.{Place}
use Rattle.tn_program.specs.Settings.{places_at}
use Rattle.tn_serve.specs.{Causes.place_at, declared.listening.At.At}

pub place_more : {S : Type 0} (bytes : S → List ℕ) (places : List At) (hosts : List S) (i : ℕ) (d : S) (port : ℕ) (host : Bor (List ℕ))
    → i < length hosts → host.now ≡ bytes (get_or hosts i d) → map place_at places ≡ places_at (map bytes (take i hosts)) port None
    → map place_at (places ++ record { host = host; port = port; handed = None } ∷ []) ≡ places_at (map bytes (take (i + 1) hosts)) port None
place_more bytes places hosts i d port host within is before =
    let g : List ℕ → Place = λ h. record { host = h; port = port; handed = None } in
    map-append place_at places (record { host = host; port = port; handed = None } ∷ []) ∙ ap₂ (λ xs x. xs ++ x ∷ []) before (ap g is)
    ∙ sym (ap (λ hs. map g (map bytes hs)) (take_more hosts i d within)
    ∙ (ap (map g) (map-append bytes (take i hosts) (get_or hosts i d ∷ []))
    ∙ map-append g (map bytes (take i hosts)) (bytes (get_or hosts i d) ∷ [])))

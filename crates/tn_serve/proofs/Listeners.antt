-- Listeners that are given one after another, and one that is refused.
use Rattle.std.proofs.Common.{inl, ◌<◌, ◌+◌, ℕ, List, [], ◌∷◌, ◌++◌, Result, Ok, Err, length, map, take, get_or, arith, sym, subst}
use Rattle.std.proofs.lemmas.List.{get_or-map, length-map, map_more, take_more}
use Rattle.std.specs.{Prelude.{Contains, IsErrAnd}, declared.{io.Error.Error, net.tcp.TcpListener.TcpListener}}
use Rattle.tn_net.specs.network.Asked.{AreRefusedAt, GiveEach, Place}
use Rattle.tn_serve.specs.{Causes.{FailsBy, place_at}, Faults.IsToldAs, declared.{fault.ServeFault.ServeFault, listening.At.At}}

-- one more gave one more
give_more : {A : Type 0} (gives : A → Result TcpListener Error → Type 0) (xs : List A) (ls : List TcpListener) (x : A) (l : TcpListener)
    → GiveEach gives xs ls → gives x (Ok l) → GiveEach gives (xs ++ x ∷ []) (ls ++ l ∷ [])
give_more gives [] [] x l all one = (one, _)
give_more gives [] (m ∷ ms) x l all one = absurd all
give_more gives (y ∷ ys) [] x l all one = absurd all
give_more gives (y ∷ ys) (m ∷ ms) x l all one = (all.0, give_more gives ys ms x l all.1 one)

-- the next one gave one more
pub give_next : {A : Type 0} (gives : A → Result TcpListener Error → Type 0) (xs : List A) (ls : List TcpListener) (i : ℕ) (d : A) (l : TcpListener)
    → i < length xs → GiveEach gives (take i xs) ls → gives (get_or xs i d) (Ok l) → GiveEach gives (take (i + 1) xs) (ls ++ l ∷ [])
give_next gives xs ls i d l within all one =
    subst (λ ys. GiveEach gives ys (ls ++ l ∷ [])) (sym (take_more xs i d within)) (give_more gives (take i xs) ls (get_or xs i d) l all one)

pub give_place : (gives : Place → Result TcpListener Error → Type 0) (xs : List At) (ls : List TcpListener) (i : ℕ) (d : At) (l : TcpListener)
    → i < length xs → GiveEach gives (map place_at (take i xs)) ls → gives (place_at (get_or xs i d)) (Ok l)
    → GiveEach gives (map place_at (take (i + 1) xs)) (ls ++ l ∷ [])
give_place gives xs ls i d l within all one =
    subst (λ ys. GiveEach gives ys (ls ++ l ∷ [])) (sym (map_more place_at xs i d within))
    (give_more gives (map place_at (take i xs)) ls (place_at (get_or xs i d)) l all one)

among : (xs : List At) (i : ℕ) (d : At) → i < length xs → Contains (map place_at xs) (place_at (get_or xs i d))
among xs i d within = (i, subst (λ (n : ℕ). i < n) (sym (length-map xs place_at)) within, get_or-map place_at xs i d (place_at (get_or xs i d)) within)

-- the next one is refused
pub is_refused : (gives : Place → Result TcpListener Error → Type 0) (xs : List At) (i : ℕ) (d : At) (error : Error)
    → i < length xs → gives (place_at (get_or xs i d)) (Err error) → AreRefusedAt gives (map place_at xs) error
is_refused gives xs i d error within refused = inl (place_at (get_or xs i d), among xs i d within, refused)

-- what the network refuses is what serving fails by
pub fails_by : {A : Type 0} (error : Error) (result : Result A ServeFault) → IsErrAnd result (λ fault. IsToldAs error fault) → FailsBy error result
fails_by error (Ok done) is = absurd is
fails_by error (Err fault) is = is

-- The addresses of a host are tried one by one.
use Rattle.std.proofs.Common.{◌≡◌, ◌≤◌, Bool, true, false, cond, ◌∙◌, ℕ, ◌+◌, zero, suc, List, [], ◌∷◌, ◌++◌, Result, Ok, Err, Contains, ap, ap₂, None}
use Rattle.std.proofs.{Common.{option_map, ◌&&◌, sym, subst, refl, take, length, arith, append-nil}, lemmas.{Grind.common_steps, List.Elements.filter-append}}
use Rattle.std.specs.{List.filter, declared.{io.Error.Error, net.{socket_addr.SocketAddr.SocketAddr, tcp.TcpStream.TcpStream}}}
use Rattle.std.specs.Net.ToAddrs.{HostAddrs, host_addrs}
use Rattle.tn_net.specs.{network.Dialing.{family_of, is_of, suits}, declared.network.dialing.Dialing.Dialing}
use Rattle.tn_net.specs.network.Asked.{AreRefused, Reaches, ReachesBy, RefuseAll}

pub taken : {A : Type 0} (items rest : List A) (count less : ℕ) (x : A) → items ≡ x ∷ rest → less + 1 ≡ count → take count items ≡ x ∷ take less rest
taken items rest count less x is one = grind (arith, common_steps, is, one)

pub holds : {A : Type 0} (xs ys : List A) (x : A) → Contains (xs ++ x ∷ ys) x
holds [] ys x = (0, omega (arith), refl)
holds (y ∷ xs) ys x =
    let there = holds xs ys x in
    (suc there.0, omega (arith, there.1), there.2)

-- one more address was tried, of those that were left
pub tried_one : {A : Type 0} (all tried old new : List A) (x : A) → all ≡ tried ++ old → old ≡ x ∷ new
    → (all ≡ (tried ++ x ∷ []) ++ new) × Contains all x
tried_one all tried old new x is step =
    let front : all ≡ tried ++ x ∷ new = is ∙ ap (λ l. tried ++ l) step in
    (grind (arith, common_steps, front), subst (λ l. Contains l x) (sym front) (holds tried new x))

-- none is left
pub none_left : {A : Type 0} (items : List A) (count : ℕ) → (1 ≤ count → length items ≡ 0) → take count items ≡ []
none_left items zero none = refl
none_left [] (suc count) none = refl
none_left (x ∷ items) (suc count) none = absurd (some (none (omega arith)))
  where
    some : suc (length items) ≡ 0 → ⊥
    some e = cc

-- one more refuses
pub refuse_more : (dials : SocketAddr → Result TcpStream Error → Type 0) (tried : List SocketAddr) (address : SocketAddr) (first last error : Error)
    → RefuseAll dials tried first last → dials address (Err error) → RefuseAll dials (tried ++ address ∷ []) first error
refuse_more dials [] address first last error each refused = (error, refused, refl)
refuse_more dials (one ∷ tried) address first last error each refused =
    (each.0, each.1, refuse_more dials tried address each.0 last error each.2 refused)

-- one more address, which suits, is added to those that suit
pub one_suits : {A : Type 0} (suits : A → Bool) (tried : List A) (x : A) → suits x ≡ true
    → filter suits (tried ++ x ∷ []) ≡ filter suits tried ++ x ∷ []
one_suits suits tried x is =
    filter-append suits tried (x ∷ []) ∙ ap (λ b. filter suits tried ++ cond b (x ∷ []) []) is

-- one more, which does not suit, is left out
pub none_suits : {A : Type 0} (suits : A → Bool) (tried : List A) (x : A) → suits x ≡ false
    → filter suits (tried ++ x ∷ []) ≡ filter suits tried
none_suits suits tried x is =
    filter-append suits tried (x ∷ []) ∙ (ap (λ b. filter suits tried ++ cond b (x ∷ []) []) is ∙ append-nil (filter suits tried))

-- the addresses that suit, if all suit, are all
suit_all : (suits : SocketAddr → Bool) → ((a : SocketAddr) → suits a ≡ true) → (xs : List SocketAddr) → filter suits xs ≡ xs
suit_all suits all [] = refl
suit_all suits all (x ∷ xs) =
    ap (λ b. cond b (x ∷ filter suits xs) (filter suits xs)) (all x) ∙ ap (λ l. x ∷ l) (suit_all suits all xs)

-- if all suit, one of all is reached
pub reaches_any : (finds : Result HostAddrs Error → Type 0) (dials : SocketAddr → Result TcpStream Error → Type 0) (suits : SocketAddr → Bool)
    (result : Result TcpStream Error) → ((a : SocketAddr) → suits a ≡ true) → ReachesBy suits finds dials result → Reaches finds dials result
reaches_any finds dials suits (Ok stream) all (found, finds_it, (addresses, is, address, has, suited, dialed)) =
    (found, finds_it, (addresses, is, address, has, dialed))
reaches_any finds dials suits (Err error) all (Ok addresses, finds_it, refused) =
    (Ok addresses, finds_it, subst (λ l. AreRefused dials l error) (suit_all suits all (host_addrs addresses)) refused)
reaches_any finds dials suits (Err error) all (Err unfound, finds_it, is) = (Err unfound, finds_it, is)

pub tried_suited : (dials : SocketAddr → Result TcpStream Error → Type 0) (suits : SocketAddr → Bool) (all tried left : List SocketAddr) (first last : Error)
    → all ≡ tried ++ left → left ≡ [] → RefuseAll dials (filter suits tried) first last → RefuseAll dials (filter suits all) first last
tried_suited dials suits all tried left first last is none each =
    subst (λ l. RefuseAll dials (filter suits l) first last) (sym (is ∙ ap (λ l. tried ++ l) none ∙ append-nil tried)) each

-- each address suits one that names no family and no source
pub any_suits : (dialing : Dialing) (address : SocketAddr) → dialing.family ≡ None → dialing.source ≡ None → suits dialing address ≡ true
any_suits dialing address family source =
    ap₂ (λ f s. is_of f address && is_of (option_map family_of s) address) family source

-- It is served as was asked for.
use Rattle.std.proofs.Common.{◌≡◌, ◌≤◌, ◌∙◌, inl, inr, ℕ, List, Option, Some, None, Result, Ok, Err, IfOk, IfSome, IsErrAnd, option_map, string_bytes, subst}
use Rattle.std.specs.declared.net.tcp.TcpStream.{TcpStream}
use Rattle.tn_serve.specs.{declared.services.{answerers.Answerers.Answerers, cutting.LineFormat.LineFormat, dialing.Joiner.Joiner}, Ends.{IfAny, ServesUntil}}
use Rattle.tn_serve.specs.{Counted.{CountsSessions, server_of}, declared.{fault.ServeFault.ServeFault, served.Served.Served}}
use Rattle.tn_serve.specs.declared.{fault.ServeFault.TheVariants.{Network, Memory, Limit}, settings.SessionOptions.SessionOptions}
use Rattle.tn_program.specs.{declared.watching.AtFile.AtFile, Settings.{AnswersAsAsked, JoinsAsAsked, UnlessMemory}}
use Rattle.tn_session.specs.Facts.{JobFacts}

pub always : {A : Type 0} (result : Result A ServeFault) (P : Type 0) → P → UnlessMemory result P
always (Ok done) P asked = asked
always (Err Network) P asked = asked
always (Err Limit) P asked = asked
always (Err Memory) P asked = tt

pub unless : {A : Type 0} (result : Result A ServeFault) (P : Type 0) → IsErrAnd result (λ fault. fault ≡ Memory) → UnlessMemory result P
unless (Ok done) P is = absurd is
unless (Err Memory) P is = tt
unless (Err Network) P is = let bad = is in cc
unless (Err Limit) P is = let bad = is in cc

-- the counts of sessions with such options and such jobs
abbrev pub Counted : {M J : Type 0} → (M → JobFacts J) → (M → Option ℕ) → (TcpStream → Type 0) → Result Served ServeFault
    → SessionOptions → (M → Type 0) → Type 0
Counted facts left turned result options made =
    IfOk result (λ served. CountsSessions (server_of facts left options made turned) served.whole served.faulted served.refused)

pub answers : {J : Type 0} (facts : Answerers → JobFacts J) (left : Answerers → Option ℕ) (turned : TcpStream → Type 0) (result : Result Served ServeFault)
    (options options' : SessionOptions) (ticks ticks' : ℕ) → options ≡ options' → ticks ≡ ticks'
    → Counted facts left turned result options (AnswersAsAsked ticks) → Counted facts left turned result options' (AnswersAsAsked ticks')
answers facts left turned result options options' ticks ticks' so often counted =
    subst (λ (o : SessionOptions). Counted facts left turned result o (AnswersAsAsked ticks')) so
    (subst (λ (n : ℕ). Counted facts left turned result options (AnswersAsAsked n)) often counted)

pub joins : {H N J : Type 0} (facts : Joiner H N → JobFacts J) (left : Joiner H N → Option ℕ) (turned : TcpStream → Type 0) (result : Result Served ServeFault)
    (rt : H) (port seconds : ℕ) (options options' : SessionOptions) (name name' : List ℕ) (ends ends' : LineFormat) → options ≡ options' → name ≡ name' → ends ≡ ends'
    → Counted facts left turned result options (JoinsAsAsked rt name port seconds ends) → Counted facts left turned result options' (JoinsAsAsked rt name' port seconds ends')
joins facts left turned result rt port seconds options options' name name' ends ends' so named ended counted =
    subst (λ (o : SessionOptions). Counted facts left turned result o (JoinsAsAsked rt name' port seconds ends')) so
    (subst (λ (n : List ℕ). Counted facts left turned result options (JoinsAsAsked rt n port seconds ends')) named
    (subst (λ (e : LineFormat). Counted facts left turned result options (JoinsAsAsked rt name port seconds e)) ended counted))

-- a server that is joined to no service has counted sessions of its own job
pub counted_alone : {T : Type 0} (result : Result Served ServeFault) (to : Option T) (own : Served → Type 0) (joined : T → Served → Type 0) → to ≡ None
    → IfOk result own → IfOk result (λ served. (to ≡ None → own served) × IfSome to (λ t. joined t served))
counted_alone (Ok served) None own joined none counted = (λ _. counted, tt)
counted_alone (Ok served) (Some t) own joined none counted = absurd (cc)
counted_alone (Err fault) to own joined none counted = tt

-- a server that is joined to a service has counted sessions that are joined to it
pub counted_joined : {T : Type 0} (result : Result Served ServeFault) (to : Option T) (t : T) (own : Served → Type 0) (joined : T → Served → Type 0)
    → to ≡ Some t → IfOk result (joined t) → IfOk result (λ served. (to ≡ None → own served) × IfSome to (λ t. joined t served))
counted_joined (Ok served) None t own joined is counted = absurd (cc)
counted_joined {T} (Ok served) (Some u) t own joined is counted =
    (λ none. absurd (cc), let same : t ≡ u = cc in subst (λ (x : T). joined x served) same counted)
counted_joined (Err fault) to t own joined is counted = tt

-- the file that was asked for was seen, and no other
pub seen : {H : Type 0} (sees : H → List ℕ → Type 0) (rt : H) (until : Option (AtFile H)) (path : Option (List ℕ)) → IfSome until (λ at. at.rt ≡ rt)
    → option_map (λ at. string_bytes at.path) until ≡ path
    → IfAny (λ at. sees at.rt (string_bytes at.path)) until → IfAny (sees rt) path
seen sees rt None path same is any = absurd any
seen {H} sees rt (Some at) path same is any =
    subst (IfAny (sees rt)) is (subst (λ (h : H). sees h (string_bytes at.path)) same any)

pub served : (result : Result Served ServeFault) (count count' : ℕ) (told told' : Type 0) → count ≡ count' → (told → told')
    → IfOk result (ServesUntil count told) → IfOk result (ServesUntil count' told')
served (Ok done) count count' told told' is so (inl all) = inl (all ∙ is)
served (Ok done) count count' told told' is so (inr few) = inr (subst (λ (n : ℕ). done.accepted ≤ n) is few.0, so few.1)
served (Err fault) count count' told told' is so all = tt

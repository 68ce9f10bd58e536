-- The statement of the relation about entries: those that were made are the first of those that the keys
-- give.
use Rattle.std.proofs.Common.{◌≡◌, ℕ, List, [], ◌∷◌, ◌++◌, take, drop, refl, sym, ap, ◌∙◌, append-nil, append_assoc}
use Rattle.tn_discipline.specs.{declared.reads.Entry.Entry, Canon.{Canon, typed_entries}, Steps.gain_next}
use Rattle.tn_client.specs.Calls.{End}
use Rattle.tn_nvt.specs.{declared.items.Item.Item, Prefixes.IsPrefixOf}
use Rattle.tn_server.specs.Lines.{role_at}
use Rattle.tn_world.specs.relation.{Pictures.Server, Relation.Agrees}
use Rattle.tn_world.proofs.Machine.{read, read_all}

-- prefixes
pub prefix_trans : (xs ys zs : List Entry) → IsPrefixOf xs ys → IsPrefixOf ys zs → IsPrefixOf xs zs
prefix_trans xs ys zs p q = (p.0 ++ q.0, sym (append_assoc xs p.0 q.0) ∙ ap (λ x. x ++ q.0) p.1 ∙ q.1)

pub prefix_after : (xs ys zs : List Entry) → IsPrefixOf ys zs → IsPrefixOf (xs ++ ys) (xs ++ zs)
prefix_after xs ys zs p = (p.0, append_assoc xs ys p.0 ∙ ap (λ x. xs ++ x) p.1)

pub prefix_same : (xs ys : List Entry) → xs ≡ ys → IsPrefixOf xs ys
prefix_same xs ys e = ([], append-nil xs ∙ e)

-- items only add entries
pub read-more : (s : Canon) (v : Server) (items : List Item) → IsPrefixOf v.waiting (read_all s v items).waiting
read-more s v [] = prefix_same v.waiting v.waiting refl
read-more s v (i ∷ items) =
    prefix_trans v.waiting (read s v i).waiting (read_all s (read s v i) items).waiting
    (gain_next s.limit v.half (role_at s.settings v.edit i), refl) (read-more s (read s v i) items)

-- an entry before those that wait stays before them
abbrev fronted : Entry → Server → Server
fronted x v = record v { waiting = x ∷ v.waiting }

read-fronted : (s : Canon) (x : Entry) (v : Server) (items : List Item) → read_all s (fronted x v) items ≡ fronted x (read_all s v items)
read-fronted s x v [] = refl
read-fronted s x v (i ∷ items) = read-fronted s x (read s v i) items

pub agreed : (canon : Canon) (typed : List ℕ) (taken : List Entry) (v : Server) (c : End) → Agrees canon typed taken v c
    → taken ++ v.waiting ≡ typed_entries canon typed
agreed canon typed taken v c a = ap (λ (x : Server). taken ++ x.waiting) a.is ∙ sym a.entries

-- an entry is taken
pub popped : (s : Canon) (v : Server) (items : List Item) (x : Entry) (entries : List Entry) → v.waiting ≡ x ∷ entries
    → read_all s v items ≡ fronted x (read_all s (record v { waiting = entries }) items)
popped s v items x entries is =
    ap (λ l. read_all s (record v { waiting = l }) items) is ∙ read-fronted s x (record v { waiting = entries }) items

-- the first entry is taken, if one waits: those taken and those that wait stay the same entries
abbrev pub without_first : Server → Server
without_first v = record v { waiting = drop 1 v.waiting }

pub taken-waits : (s : Canon) (v : Server) (taken : List Entry) (items : List Item)
    → (taken ++ take 1 v.waiting) ++ (read_all s (without_first v) items).waiting ≡ taken ++ (read_all s v items).waiting
taken-waits s v taken items = go v.waiting refl
  where
    go : (es : List Entry) → v.waiting ≡ es → (taken ++ take 1 v.waiting) ++ (read_all s (without_first v) items).waiting
        ≡ taken ++ (read_all s v items).waiting
    go [] is =
        let same : without_first v ≡ v = ap (λ (l : List Entry). record v { waiting = drop 1 l }) is ∙ ap (λ (l : List Entry). record v { waiting = l }) (sym is) in
        ap (λ (l : List Entry). (taken ++ take 1 l) ++ (read_all s (without_first v) items).waiting) is
        ∙ ap (λ (l : List Entry). l ++ (read_all s (without_first v) items).waiting) (append-nil taken)
        ∙ ap (λ (u : Server). taken ++ (read_all s u items).waiting) same
    go (x ∷ entries) is =
        let later = read_all s (record v { waiting = entries }) items in
        ap (λ (l : List Entry). (taken ++ take 1 l) ++ (read_all s (record v { waiting = drop 1 l }) items).waiting) is
        ∙ append_assoc taken (x ∷ []) later.waiting
        ∙ ap (λ (u : Server). taken ++ u.waiting) (sym (popped s v items x entries is))

-- nothing else depends on those that wait
read-others : (s : Canon) (v : Server) (entries : List Entry) (items : List Item) → read_all s (record v { waiting = entries }) items
    ≡ record (read_all s v items) { waiting = (read_all s (record v { waiting = entries }) items).waiting }
read-others s v entries [] = refl
read-others s v entries (i ∷ items) = read-others s (read s v i) (entries ++ gain_next s.limit v.half (role_at s.settings v.edit i)) items

pub take-agrees : (canon : Canon) (typed : List ℕ) (taken : List Entry) (v : Server) (c : End) (items : List Item)
    → Agrees canon typed taken (read_all canon v items) c → Agrees canon typed (taken ++ take 1 v.waiting) (read_all canon (without_first v) items) c
take-agrees canon typed taken v c items a =
    let later = (read_all canon (without_first v) items).waiting in
    record {
      half = a.half;
      waiting = later;
      is = read-others canon v (drop 1 v.waiting) items ∙ ap (λ (u : Server). record u { waiting = later }) a.is;
      off = a.off;
      entries = a.entries ∙ ap (λ (u : Server). taken ++ u.waiting) (sym a.is) ∙ sym (taken-waits canon v taken items);
      line = a.line;
      askable = a.askable;
      ahead = a.ahead;
      none = a.none;
      plain = a.plain;
      count = a.count;
    }

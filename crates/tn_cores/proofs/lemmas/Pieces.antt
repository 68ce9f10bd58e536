-- Pieces that were read in part, and what was sent or read before.
use Rattle.std.proofs.{Common.{◌≡◌, ℕ, ◌<◌, All, List, [], ◌++◌, refl, sym, ap, ◌∙◌, subst, append-nil, append_assoc}, lemmas.List.Elements.All-append}
use Rattle.tn_cores.specs.{Pieces.bytes_in, declared.messages.Message.{Message, TheVariants.Piece}}
use Rattle.tn_nvt.proofs.lemmas.Reading.{has_reading, reads_on, spells-append}
use Rattle.tn_nvt.specs.{Feeding.DecoderState, Spelling.spells, Stream.Reading, declared.items.Item.Item}
use Rattle.tn_nvt.specs.Feeding as nvt
use Rattle.tn_linemode.specs.Prefixes.{IsRead}

-- the items of the whole piece go on from those of its front
pub read_on : (stream piece front back : List ℕ) (had done left : List Item) → All (λ b. b < 256) stream → All (λ b. b < 256) piece → piece ≡ front ++ back
    → IsRead (stream ++ front) (had ++ (done ++ left)) → (more : List Item) × IsRead (stream ++ piece) (had ++ (done ++ (left ++ more)))
read_on stream piece front back had done left known small whole before =
    let all = has_reading (stream ++ piece) (All-append (λ b. b < 256) stream piece known small) in
    let split : stream ++ piece ≡ (stream ++ front) ++ back = ap (λ (bs : List ℕ). stream ++ bs) whole ∙ sym (append_assoc stream front back) in
    let P : List ℕ → Type 0 = λ bs. Reading bs all.0 all.1 in
    let on_from = reads_on (stream ++ front) back before.0 all.1 (had ++ (done ++ left)) all.0 before.1 (subst P split all.2) in
    let more : List Item = on_from.0 in
    let is_all : all.0 ≡ had ++ (done ++ (left ++ more)) = on_from.1 ∙ append_assoc had (done ++ left) more
    ∙ ap (λ (ys : List Item). had ++ ys) (append_assoc done left more) in
    let Q : List Item → Type 0 = λ ys. Reading (stream ++ piece) ys all.1 in
    (more, (all.1, subst Q is_all all.2))

-- a decoder whose state has not changed has read nothing more
pub read_as : (old new : DecoderState) (stream : List ℕ) (had now : List Item) → new ≡ old → now ≡ had → nvt.LeadsTo stream had old → nvt.LeadsTo stream now new
read_as old new stream had now e f r =
    let P : DecoderState → Type 0 = λ d. nvt.LeadsTo stream now d in
    let Q : List Item → Type 0 = λ xs. nvt.LeadsTo stream xs old in
    subst P (sym e) (subst Q (sym f) r)

-- if nothing was appended before
pub from_none : (x y part : List ℕ) → x ≡ [] → y ≡ x ++ part → y ≡ part
from_none x y part none is = is ∙ ap (λ (bs : List ℕ). bs ++ part) none

-- all that is sent more is spelled
pub all_spelled : (had now said : List Item) → now ≡ had ++ said → spells now ≡ spells had ++ (spells said ++ [])
all_spelled had now said e = ap spells e ∙ spells-append had said ∙ ap (λ (bs : List ℕ). spells had ++ bs) (sym (append-nil (spells said)))

-- a message that is no piece brings nothing
pub brings_none : (m : Message) → ((piece : List ℕ) → m ≡ Piece piece → ⊥) → bytes_in m ≡ []
brings_none (Piece piece) other = absurd (other piece refl)
brings_none _ other = refl

-- Whole items in flight stay whole items, however they are delivered.
use Rattle.std.proofs.Common.{◌≡◌, ℕ, List, [], ◌++◌, take, drop, sym, ◌∙◌, subst, append_assoc, append-nil}
use Rattle.std.proofs.lemmas.List.{take-append-drop, append_cancel_left}
use Rattle.std.specs.Prelude.{All}
use Rattle.tn_nvt.specs.{declared.items.Item.Item, Spelling.{spells, Fits}, Stream.Reading, Feeding.{DecoderState, LeadsTo, Advances}}
use Rattle.tn_nvt.proofs.lemmas.Reading.{one_reading, reads_none, reads_all_written, delivers}
use Rattle.tn_world.specs.Flight.{InFlight}

-- nothing flies to who has read nothing
pub start : (d : DecoderState) → LeadsTo [] [] d → InFlight d [] []
start d h = record { stream = []; had = []; has_read = h; reads = reads_none }

-- the items that were sent fly after the others
pub behind : (d : DecoderState) (flight : List ℕ) (items said : List Item) → All Fits said → InFlight d flight items
    → InFlight d (flight ++ spells said) (items ++ said)
behind d flight items said fit f = record {
  stream = f.stream;
  had = f.had;
  has_read = f.has_read;
  reads =
      subst (λ x. Reading x (f.had ++ (items ++ said)) []) (append_assoc f.stream flight (spells said))
      (subst (λ x. Reading ((f.stream ++ flight) ++ spells said) x []) (append_assoc f.had items said)
      (reads_all_written said (f.had ++ items) (f.stream ++ flight) fit f.reads));
}

-- the items that were sent fly after the others, seen from what was appended
pub said_behind : (d : DecoderState) (flight later : List ℕ) (items said : List Item) → later ≡ flight ++ spells said → All Fits said → InFlight d flight items
    → InFlight d later (items ++ said)
said_behind d flight later items said is fit f =
    subst (λ x. InFlight d x (items ++ said)) (sym is) (behind d flight items said fit f)

-- the bytes that a delivery leaves in flight
pub record Delivered (new : DecoderState) (got items : List Item) (later : List ℕ) : Type 0 where
  pub left : List Item
  pub all : items ≡ got ++ left
  pub flight : InFlight new later left

pub cut_at : (old new : DecoderState) (n : ℕ) (flight : List ℕ) (items got : List Item) → InFlight old flight items → Advances old (take n flight) got new
    → Delivered new got items (drop n flight)
cut_at old new n flight items got f adds =
    let whole = subst (λ x. Reading (f.stream ++ x) (f.had ++ items) []) (sym (take-append-drop n flight)) f.reads in
    let d = delivers old new f.stream (take n flight) (drop n flight) f.had got items f.has_read adds whole in
    record {
      left = d.left;
      all = d.all;
      flight = record { stream = f.stream ++ take n flight; had = f.had ++ got; has_read = d.has_read; reads = d.reads };
    }

-- no bytes are no items
pub no_items : (d : DecoderState) (items : List Item) → InFlight d [] items → items ≡ []
no_items d items h =
    append_cancel_left h.had items [] ((one_reading (h.stream ++ []) [] h.has_read.rest (h.had ++ items) h.had h.reads
    (subst (λ x. Reading x h.had h.has_read.rest) (sym (append-nil h.stream)) h.has_read.reading)).0 ∙ sym (append-nil h.had))

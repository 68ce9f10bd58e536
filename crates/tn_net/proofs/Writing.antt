-- One write after another.
use Rattle.std.proofs.Common.{◌≡◌, ℕ, ◌≤◌, List, Option, ap, ◌∙◌, take-append-drop, length, take, drop}
use Rattle.std.specs.Io.KnownBytes.{Appends}
use Rattle.tn_net.specs.Passing.{Begins}
use Rattle.tn_cores.proofs.lemmas.streams.Writing.{take_all, stays_at}
use Rattle.tn_cores.specs.streams.Sending.{Sending, finished_on, StaysOpen, IsFinished}

pub writes_all : (a b : Option (List ℕ)) (n : ℕ) (bytes : List ℕ) → length bytes ≤ n → Appends a b (take n bytes) → Appends a b bytes
writes_all a b n bytes all h = rw (take_all n bytes all) at h

pub stops_at : (a b : Option (List ℕ)) (n : ℕ) (bytes : List ℕ) → Appends a b (take n bytes) → Begins a b bytes
stops_at a b n bytes h = (take n bytes, (drop n bytes, take-append-drop n bytes), h)

pub stops_now : (a b c : Option (List ℕ)) (n k : ℕ) (bytes rest : List ℕ) → k ≡ 0 → Appends a b (take n bytes) → Appends b c (take k rest) → Begins a c bytes
stops_now a b c n k bytes rest e one two = stops_at a c n bytes (stays_at a b c n k bytes rest e one two)

-- WHETHER MORE MAY COME

-- a piece was taken for a writer, and then sent
pub open_sent : (a b c d : Option Sending) → StaysOpen a b → c ≡ b → StaysOpen c d → StaysOpen a d
open_sent a b c d more same sent e = sent (same ∙ more e)

pub open_finished : (a b c d : Option Sending) → StaysOpen a b → c ≡ b → d ≡ finished_on c → IsFinished a d
open_finished a b c d more same is e = is ∙ ap finished_on (same ∙ more e)

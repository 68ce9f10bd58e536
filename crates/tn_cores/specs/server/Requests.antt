-- The entries that are put for the foreground job answer its requests.
use Rattle.std.specs.Prelude.{ℕ, ◌+◌, ◌≤◌, Bool, true, false, List, [], ◌∷◌, length}
use Rattle.tn_cores.specs.{declared.messages.Message.{Message, TheVariants.Take}, server.Run.Run}
use Rattle.tn_cores.specs.declared.server.messages.ServerMark.{ServerMark}

-- a request that is not answered yet
abbrev pub open_requests : Bool → ℕ
open_requests true = 1
open_requests false = 0

-- 1 for a request of the foreground job
abbrev pub request_of : Message → ℕ
request_of Take = 1
request_of _ = 0

-- the number of these messages that ask for an entry
abbrev pub requests_among : List (Message × ServerMark) → ℕ
requests_among [] = 0
requests_among (m ∷ marked) = request_of m.0 + requests_among marked

-- The entries that were put for the foreground job, and the request that waits, are no more than its
-- requests: so the channel to it never holds more than one entry.
abbrev pub AnswersRequests : ℕ → Run → Type 0
AnswersRequests requests c = length c.puts + open_requests c.progress.asks ≤ requests

use Rattle.std.proofs.Common.{◌≡◌, ℕ, List, [], ◌++◌, length, All}
use Rattle.std.specs.List.{concat}
use Rattle.tn_cores.specs.server.{Run.{IsPart, show}, Reaching.AdvancesRun}
use Rattle.tn_cores.proofs.server.terminal.Term.show.Given as goal

abbrev pub invariant-loop-rest : goal.invariant-loop-rest
invariant-loop-rest l =
    (done : List (List ℕ)) × (concat done ++ l.rest ≡ l.text) × All IsPart done
    × AdvancesRun (show done) l.initial.self l.initial.out.items l.out.items [] l.self × (l.self.progress ≡ l.initial.self.progress)

abbrev pub decreases-loop-rest : goal.decreases-loop-rest
decreases-loop-rest l = length l.rest

use Rattle.std.proofs.Common.{◌≡◌, ◌+◌, ◌∷◌, length}
use Rattle.std.specs.List.{FoldsTo}
use Rattle.tn_session.specs.{Jobs.IsMade, Makers.HasMade, workers.Turning.{ids_of, jobs_of}}
use Rattle.tn_session.proofs.making.make_jobs.Given as goal

abbrev pub invariant-loop-other : goal.invariant-loop-other
invariant-loop-other g l =
    IsMade g.M.Job.Job.fresh l.made × HasMade (l._other + 1) (g.M.Maker.left l.fn.maker) (g.M.Maker.left l.maker)
    × (length (ids_of l.made.queue.items) ≡ l._other)
    × FoldsTo g.M.Maker.gives l.fn.maker (l.made.job ∷ jobs_of l.made.queue.items) l.maker

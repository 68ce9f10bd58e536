-- The entries that a pass of the channel of entries holds; `None` is the end of the entries.
use Rattle.std.specs.Prelude.{Option}
use Rattle.tn_discipline.specs.declared.reads.Entry.{Entry}
use Rattle.tn_cores.specs.declared.queue.Hand.{Hand}

-- the view of a pass of the channel of entries
abbrev pub EntryHand : Type 0
EntryHand = Hand (Option Entry)

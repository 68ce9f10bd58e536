-- The bytes in a log, and the known facts of a writer that keeps one.
use Rattle.std.specs.Prelude.{ℕ, Some, None, List, [], ◌∷◌, ◌++◌}
use Rattle.tn_net.specs.declared.write_log.WriteLog.{WriteLog, Empty, More'}
use Rattle.tn_cores.specs.streams.Known.{KnownWriting}

-- all bytes that were added
abbrev pub logged : WriteLog → List ℕ
logged Empty = []
logged (More' marker before byte) = logged before ++ (byte ∷ [])

-- a writer that took all that is in the log, and nothing before it
abbrev pub wrote : WriteLog → KnownWriting
wrote log =
    record {
      before = record { bytes = Some []; calls = None };
      after = record { bytes = Some (logged log); calls = None };
    }

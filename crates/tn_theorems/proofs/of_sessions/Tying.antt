-- The relation of tn_world, stated of two histories, is such a relation from the opening on, if each command
-- stands for a key.
use Rattle.std.proofs.Common.{◌≡◌, ℕ, length}
use Rattle.tn_client.specs.Events as client
use Rattle.tn_discipline.specs.{Canon.Canon, Characters.standard_characters}
use Rattle.tn_theorems.proofs.of_sessions.Walking.{Ties}
use Rattle.tn_server.specs.Events as server
use Rattle.tn_server.specs.{Screen.queue, declared.openings.Approach.Approach}
use Rattle.tn_world.proofs.lemmas.Histories as histories
use Rattle.tn_world.proofs.lemmas.Histories.{AreTypeable, TiedHistories}

abbrev pub AreTied : Canon → server.History → client.History → Type 0
AreTied canon h k = AreTypeable canon.settings k → TiedHistories canon h k

pub ties : (canon : Canon) (approach : Approach) (width height : ℕ) → canon.settings.chars ≡ standard_characters
    → Ties canon approach width height (λ h k. AreTied canon h k)
ties canon approach width height standard = record {
  begins = λ ok. histories.begins approach.opening canon approach.editing width height (length (queue (server.next (server.begun approach.opening canon) (server.wished approach.editing)))) standard;
  reaches = λ h k x p t ok. histories.reaches canon h k x p (t ok);
  takes = λ h k t ok. histories.called canon h k server.took tt (t ok);
  writes = λ h k bytes t ok. histories.called canon h k (server.wrote bytes) tt (t ok);
  pulls = λ h k n t ok. histories.called canon h k (server.pulled n) tt (t ok);
  echoes = λ h k on t ok. histories.called canon h k (server.echo_set on) tt (t ok);
  types_on = λ h k key t ok. histories.types canon h k key (t ok);
  resizes = λ h k width height t ok. histories.resizes canon h k width height (t ok);
  enters = λ h k t ok. histories.enters canon h k (t ok);
  sends = λ h k command t ok. histories.sends canon h k command ok.1 (t ok.0);
  returns = λ h k x p t ok. histories.returns canon h k x p (t ok);
}

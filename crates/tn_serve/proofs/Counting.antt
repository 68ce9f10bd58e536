-- One session more is counted.
use Rattle.std.proofs.Common.{◌≡◌, inl, inr, ℕ, ◌+◌, [], ◌∷◌, false, true, Result, Ok, Err, IsOk, IfOk, arith, refl, subst, ◌∙◌}
use Rattle.std.specs.declared.net.tcp.TcpStream.{TcpStream}
use Rattle.tn_serve.specs.{Counted.{CountsSessions, Joined, ServerFacts, StillCounts}, Ends.{IsWhole, finished_as, whole_end, whole_of, whole_report}}
use Rattle.tn_serve.specs.declared.finished.Finished.{Finished}
use Rattle.tn_cores.specs.{Ending.EndsWhole, declared.faults.{Ended.{Ended, TheVariants.{HangUp, Done, Fault}}, SessionFault.SessionFault}}
use Rattle.tn_session.specs.declared.parties.Report.{Report}

module _ {M J : Type 0} (server : ServerFacts M J) (whole faulted refused : ℕ) where
  -- no more sessions are counted
  pub none_more : (whole' faulted' refused' : ℕ) → (whole' ≡ whole) × (faulted' ≡ faulted) × (refused' ≡ refused)
      → StillCounts server whole faulted refused whole' faulted' refused'
  none_more whole' faulted' refused' same c = record {
    whole_ones = c.whole_ones;
    faulted_ones = c.faulted_ones;
    unstarted = c.unstarted;
    refused_ones = c.refused_ones;
    whole_is = same.0 ∙ c.whole_is;
    faulted_is = same.1 ∙ c.faulted_is;
    refused_is = same.2 ∙ c.refused_is;
  }

  pub one_unstarted : StillCounts server whole faulted refused whole (faulted + 1) refused
  one_unstarted c = record {
    whole_ones = c.whole_ones;
    faulted_ones = c.faulted_ones;
    unstarted = c.unstarted + 1;
    refused_ones = c.refused_ones;
    whole_is = c.whole_is;
    faulted_is = omega (arith, c.faulted_is);
    refused_is = c.refused_is;
  }

  pub one_refused : (stream : TcpStream) → server.turned stream → StillCounts server whole faulted refused whole faulted (refused + 1)
  one_refused stream turned c = record {
    whole_ones = c.whole_ones;
    faulted_ones = c.faulted_ones;
    unstarted = c.unstarted;
    refused_ones = (stream, turned) ∷ c.refused_ones;
    whole_is = c.whole_is;
    faulted_is = c.faulted_is;
    refused_is = omega (arith, c.refused_is);
  }

  pub one_whole : (joined : Joined server) (finished : Finished) → finished ≡ finished_as joined.ran → IsWhole finished
      → StillCounts server whole faulted refused (whole + 1) faulted refused
  one_whole joined finished is ends c = record {
    whole_ones = (joined, subst IsWhole is ends) ∷ c.whole_ones;
    faulted_ones = c.faulted_ones;
    unstarted = c.unstarted;
    refused_ones = c.refused_ones;
    whole_is = omega (arith, c.whole_is);
    faulted_is = omega (arith, c.faulted_is);
    refused_is = c.refused_is;
  }

  pub one_faulted : (joined : Joined server) (finished : Finished) → finished ≡ finished_as joined.ran → ¬ IsWhole finished
      → StillCounts server whole faulted refused whole (faulted + 1) refused
  one_faulted joined finished is ends c = record {
    whole_ones = c.whole_ones;
    faulted_ones = (joined, subst (λ (f : Finished). ¬ IsWhole f) is ends) ∷ c.faulted_ones;
    unstarted = c.unstarted;
    refused_ones = c.refused_ones;
    whole_is = c.whole_is;
    faulted_is = omega (arith, c.faulted_is);
    refused_is = c.refused_is;
  }

-- nothing is counted yet, and then this is
pub counts_from_none : {M J : Type 0} (server : ServerFacts M J) (none none' none'' whole faulted refused whole' faulted' refused' : ℕ) → (none ≡ 0)
    × (none' ≡ 0) × (none'' ≡ 0)
    → StillCounts server none none' none'' whole faulted refused → StillCounts server whole faulted refused whole' faulted' refused'
    → CountsSessions server whole' faulted' refused'
counts_from_none server none none' none'' whole faulted refused whole' faulted' refused' zeros one two =
    two (one (record { whole_ones = []; faulted_ones = []; unstarted = 0; refused_ones = []; whole_is = zeros.0; faulted_is = zeros.1; refused_is = zeros.2 }))

-- WHETHER A SESSION IS WHOLE

end_one : (e : Ended) → EndsWhole e → whole_end e ≡ 1
end_one HangUp whole = refl
end_one Done whole = refl
end_one (Fault fault) (inl is) = let bad = is in cc
end_one (Fault fault) (inr is) = let bad = is in cc

end_none : (e : Ended) → (EndsWhole e → ⊥) → whole_end e ≡ 0
end_none HangUp faulted = absurd (faulted (inl refl))
end_none Done faulted = absurd (faulted (inr refl))
end_none (Fault fault) faulted = refl

report_one : (r : Result Report SessionFault) → IsOk r → IfOk r (λ report. EndsWhole report.ended) → whole_report r ≡ 1
report_one (Ok report) is whole = end_one report.ended whole
report_one (Err fault) is whole = let bad : false ≡ true = is in absurd (cc)

report_none : (r : Result Report SessionFault) → (IsOk r × IfOk r (λ report. EndsWhole report.ended) → ⊥) → whole_report r ≡ 0
report_none (Ok report) faulted = end_none report.ended (λ whole. faulted (refl, whole))
report_none (Err fault) faulted = refl

pub whole_one : (finished : Finished) → IsWhole finished → whole_of finished ≡ 1
whole_one finished whole = report_one finished.report whole.0 whole.1

pub whole_none : (finished : Finished) → (IsWhole finished → ⊥) → whole_of finished ≡ 0
whole_none finished faulted = report_none finished.report faulted

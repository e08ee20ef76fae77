use Rattle.std.proofs.Common.{ap, sym, ◌∙◌, true≢false, inl, inr}
use Rattle.plane_edge.specs.Line.{whole}
use Rattle.plane_edge.proofs.BoundLemmas.{bounded_meeting, whole_fine}
use Rattle.plane_edge.proofs.EqualLemmas.{edges_equal}
use Rattle.plane_edge.proofs.LineLemmas.{level_none, whole_lowest}
use Rattle.plane_edge.proofs.level.meet_level.Goals as goal

pub returns-then-is_meeting_at-clause-found : goal.returns-then-is_meeting_at-clause-found
returns-then-is_meeting_at-clause-found c =
    rw c.spot_of.ensures record {
      meeting = c.is_meeting_at.ensures.0 c.if-is_meeting_at.true;
      lowest = whole_lowest c.later_low-p.result;
      chosen = λ z. inl (ap whole c.later_low-p.ensures.value);
    }

pub returns-then-is_meeting_at-clause-bounded : goal.returns-then-is_meeting_at-clause-bounded
returns-then-is_meeting_at-clause-bounded c =
    rw c.spot_of.ensures (bounded_meeting c.args.e.now c.args.f.now (whole c.later_low-p.result) (c.is_meeting_at.ensures.0 c.if-is_meeting_at.true) whole_fine)

pub returns-then-is_meeting_at-2-clause-found : goal.returns-then-is_meeting_at-2-clause-found
returns-then-is_meeting_at-2-clause-found c =
    rw c.spot_of-then-is_meeting_at-2.ensures record {
      meeting = c.is_meeting_at-else-is_meeting_at.ensures.0 c.if-is_meeting_at-2.true;
      lowest = whole_lowest c.earlier_high-q.result;
      chosen = λ z. inr (rw (← c.later_low-p.ensures.value) (λ m. true≢false (sym (c.is_meeting_at.ensures.1 m) ∙ c.if-is_meeting_at.false)), ap whole c.earlier_high-q.ensures.value);
    }

pub returns-then-is_meeting_at-2-clause-bounded : goal.returns-then-is_meeting_at-2-clause-bounded
returns-then-is_meeting_at-2-clause-bounded c =
    rw c.spot_of-then-is_meeting_at-2.ensures (bounded_meeting c.args.e.now c.args.f.now (whole c.earlier_high-q.result) (c.is_meeting_at-else-is_meeting_at.ensures.0 c.if-is_meeting_at-2.true) whole_fine)

pub returns-else-is_meeting_at-2-clause-nowhere : goal.returns-else-is_meeting_at-2-clause-nowhere
returns-else-is_meeting_at-2-clause-nowhere c =
    level_none c.args.e.now c.args.f.now c.later_low-p.result c.earlier_high-q.result (λ s. c.requires.apart (edges_equal c.args.e.now c.args.f.now s)) c.requires.parallel c.later_low-p.ensures.is_later c.earlier_high-q.ensures.is_earlier
    (λ m. true≢false (sym (c.is_meeting_at.ensures.1 m) ∙ c.if-is_meeting_at.false)) (λ m. true≢false (sym (c.is_meeting_at-else-is_meeting_at.ensures.1 m) ∙ c.if-is_meeting_at-2.false))

use Rattle.std.proofs.Common.{◌≡◌, ℕ, sym, ◌∙◌, subst}
use Rattle.cert_text.specs.declared.certificate.CertStatus.TheVariants.{Within}
use Rattle.row_laws.proofs.Tests.{clash}
use Rattle.search_answer.specs.Answers.{States}
use Rattle.search_answer.proofs.StateLemmas.{states_more}
use Rattle.search_answer.proofs.answer.search_answer.Goals as goal
use Rattle.search_answer.proofs.answer.search_answer.Goals.{then-splits-eq0-via-then-splits-eq0, then-splits-eq0-via-else-splits-eq0+then-ne}

pub returns-then-splits-eq0-clause-states : goal.returns-then-splits-eq0-clause-states
returns-then-splits-eq0-clause-states c =
    elim c.then-splits-eq0.branch [
      | then-splits-eq0-via-then-splits-eq0 w ↦ subst (λ (n : ℕ). States c.args.problem.now n c.in_ok-first.first) (sym w.if-splits-eq0.true) c.in_ok-first.ensures.states
      | then-splits-eq0-via-else-splits-eq0+then-ne w ↦ (let other : c.in_ok-first.first.status ≡ Within → ⊥ = λ e. (let same = rw e at w.ne.ensures in clash (sym same ∙ w.if-ne.true)) in states_more c.args.problem.now c.args.splits c.in_ok-first.first c.in_ok-first.ensures.states other)
    ]

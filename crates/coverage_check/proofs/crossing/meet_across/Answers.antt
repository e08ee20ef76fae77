use Rattle.std.proofs.Common.{◌≡◌, ◌∙◌, sym, ap, FitsSigned}
use Rattle.std.specs.Int.{w32}
use Rattle.std.proofs.lemmas.Int.{to_z-of_z}
use Rattle.coverage_check.specs.Partners.{right_of, is_across}
use Rattle.coverage_check.proofs.PartnerLemmas.{never_beside}
use Rattle.coverage_check.proofs.crossing.meet_across.Goals as goal

pub returns-else-is_across_range-clause-none : goal.returns-else-is_across_range-clause-none
returns-else-is_across_range-clause-none c =
    let e = c.args.e.now in
    let f = c.args.f.now in
    let fl : FitsSigned w32 c.args.left = c.ranges.left in
    let fr : FitsSigned w32 c.args.right = c.ranges.right in
    let test : c.is_across_range.result ≡ is_across f c.args.left c.args.right = simp to_z-of_z at c.is_across_range.ensures in
    never_beside e f (ap (λ l. is_across f l (right_of e)) (sym c.requires.from) ∙ ap (λ r. is_across f c.args.left r) (sym c.requires.to) ∙ sym test ∙ c.if-is_across_range.false)

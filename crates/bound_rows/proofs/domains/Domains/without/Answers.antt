use Rattle.std.proofs.Common.{◌≡◌, length, ◌<◌, ap, ◌∙◌, length-set}
use Rattle.std.specs.Prelude.{slice_set}
use Rattle.row_laws.specs.Trees.{without}
use Rattle.bound_rows.specs.Domains.{allows}
use Rattle.bound_rows.proofs.MaskLemmas.{without_written}
use Rattle.bound_rows.proofs.DomainLemmas.{for_without}
use Rattle.bound_rows.proofs.domains.Domains.without.Goals as goal

pub returns-clause-allowed : goal.returns-clause-allowed
returns-clause-allowed c =
    let h : c.args.area < length c.self.inside.sets.items = rw c.self.view_is c.requires.area in
    rw (← c.self.view_is) (without_written c.self.inside.sets.items c.args.area c.args.class _ _ h c.index-set.ensures c.less.ensures)

pub returns-clause-domains : goal.returns-clause-domains
returns-clause-domains c = λ p old.
    let h : c.args.area < length c.self.inside.sets.items = rw c.self.view_is c.requires.area in
    let new = slice_set c.self.inside.sets.items c.args.area c.less.result in
    let allowed : allows new ≡ without (allows c.args.self.now) c.args.area c.args.class = rw (← c.self.view_is) (without_written c.self.inside.sets.items c.args.area c.args.class _ _ h c.index-set.ensures c.less.ensures) in
    for_without p c.args.self.now new c.args.area c.args.class c.requires.other.0 (length-set c.self.inside.sets.items c.args.area c.less.result ∙ ap length c.self.view_is) allowed c.requires.other.1 c.requires.other.2 old

use Rattle.std.proofs.Common.{◌≡◌, length, ◌<◌, ◌*◌, ◌%◌, ◌^◌, ap, ◌∙◌, length-set}
use Rattle.std.specs.Prelude.{slice_set}
use Rattle.row_laws.specs.Trees.{only}
use Rattle.bound_rows.specs.Domains.{allows}
use Rattle.bound_rows.proofs.MaskLemmas.{only_written}
use Rattle.bound_rows.proofs.DomainLemmas.{for_only}
use Rattle.bound_rows.proofs.domains.Domains.only.Goals as goal

pub returns-clause-allowed : goal.returns-clause-allowed
returns-clause-allowed c =
    let h : c.args.area < length c.self.inside.sets.items = rw c.self.view_is c.requires.area in
    rw (← c.self.view_is) (only_written c.self.inside.sets.items c.args.area c.args.class h c.requires.class)

pub returns-clause-domains : goal.returns-clause-domains
returns-clause-domains c = λ p old.
    let h : c.args.area < length c.self.inside.sets.items = rw c.self.view_is c.requires.area in
    let new = slice_set c.self.inside.sets.items c.args.area (1 * 2 ^ c.args.class % 18446744073709551616) in
    let allowed : allows new ≡ only (allows c.args.self.now) c.args.area c.args.class = rw (← c.self.view_is) (only_written c.self.inside.sets.items c.args.area c.args.class h c.requires.class) in
    for_only p c.args.self.now new c.args.area c.args.class (length-set c.self.inside.sets.items c.args.area (1 * 2 ^ c.args.class % 18446744073709551616) ∙ ap length c.self.view_is) allowed c.requires.allowed old

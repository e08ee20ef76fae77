use Rattle.std.proofs.Common.{◌≡◌, Err, refl, sym, subst, ◌∙◌, rules}
use Rattle.std.specs.Prelude.{IfErr}
use Rattle.agg_base.specs.declared.limits.TheConstants.{MAP_BYTES, TABLE_BYTES, TEXT_BYTES}
use Rattle.generalise_core.specs.Checks.{long_map, long_table, long_certificate}
use Rattle.generalise_core.specs.CheckOrders.{check_request}
use Rattle.generalise_core.specs.CheckRuns.{GivesNone}
use Rattle.generalise_core.specs.FileTexts.{IsText}
use Rattle.generalise_core.specs.declared.check_stop.Source.TheVariants as source
use Rattle.generalise_core.proofs.CheckStepLemmas.{unfetched}
use Rattle.generalise_core.proofs.checking.fetch_three.Goals as goal

pub returns-in_err-map-clause-none : goal.returns-in_err-map-clause-none
returns-in_err-map-clause-none g c =
    let q = check_request c.args.order.now in
    let old = g.S.Shelf.state c.args.shelf.now in
    let new = g.S.Shelf.state c.fetch_file.new.shelf in
    let same : c.from_residual.result ≡ Err c.in_err-map.field-0.0 = search rules in
    subst (λ r. IfErr r (GivesNone old new q)) (sym same)
    (unfetched old old new q source.Map MAP_BYTES c.in_err-map.field-0.0 refl c.in_err-map.ensures.none (tt) (λ long. long_map long))

pub returns-in_err-table-clause-none : goal.returns-in_err-table-clause-none
returns-in_err-table-clause-none g c =
    let q = check_request c.args.order.now in
    let old = g.S.Shelf.state c.args.shelf.now in
    let later = g.S.Shelf.state c.fetch_file.new.shelf in
    let new = g.S.Shelf.state c.fetch_file-2.new.shelf in
    let same : c.from_residual-in_err-table.result ≡ Err c.in_err-table.field-0.0 = search rules in
    subst (λ r. IfErr r (GivesNone old new q)) (sym same)
    (unfetched old later new q source.Table TABLE_BYTES c.in_err-table.field-0.0 c.in_ok-map.ensures.same c.in_err-table.ensures.none (_, c.in_ok-map.ensures.text)
    (λ long. long_table _ c.in_ok-map.ensures.text long))

pub returns-in_err-certificate-clause-none : goal.returns-in_err-certificate-clause-none
returns-in_err-certificate-clause-none g c =
    let q = check_request c.args.order.now in
    let old = g.S.Shelf.state c.args.shelf.now in
    let between = g.S.Shelf.state c.fetch_file.new.shelf in
    let later = g.S.Shelf.state c.fetch_file-2.new.shelf in
    let new = g.S.Shelf.state c.fetch_file-3.new.shelf in
    let same : c.from_residual-in_err-certificate.result ≡ Err c.in_err-certificate.field-0.0 = search rules in
    let table = subst (λ s. IsText s.files q.table TABLE_BYTES c.in_ok-table.table.items) c.in_ok-map.ensures.same c.in_ok-table.ensures.text in
    subst (λ r. IfErr r (GivesNone old new q)) (sym same)
    (unfetched old later new q source.Certificate TEXT_BYTES c.in_err-certificate.field-0.0 (c.in_ok-table.ensures.same ∙ c.in_ok-map.ensures.same) c.in_err-certificate.ensures.none
    (c.in_ok-map.map.items, c.in_ok-table.table.items, c.in_ok-map.ensures.text, table) (λ long. long_certificate c.in_ok-map.map.items c.in_ok-table.table.items c.in_ok-map.ensures.text table long))

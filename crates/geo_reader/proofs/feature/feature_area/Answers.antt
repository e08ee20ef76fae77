use Rattle.std.proofs.Common.{sym, subst, List, Bor}
use Rattle.json_text.specs.Values.{json_of}
use Rattle.json_text.specs.declared.tree.Tree.{Tree}
use Rattle.geo_reader.specs.Features.{HasGeometry}
use Rattle.geo_reader.specs.Held.{rings_in}
use Rattle.geo_reader.specs.Outcomes.{UnlessMemory}
use Rattle.geo_reader.specs.Rules.{BreaksFirst}
use Rattle.geo_reader.proofs.ReaderLemmas.{no_rings, has_geometry, handed, area_fault}
use Rattle.geo_reader.proofs.feature.feature_area.Goals as goal

pub returns-in_default-2-clause-fault : goal.returns-in_default-2-clause-fault
returns-in_default-2-clause-fault c =
    no_rings c.args.name.now c.args.areas c.args.steps c.args.place (json_of c.args.feature.now) (json_of c.in-Some.geometry.now) c.in-Some.ensures.there c.in-Some.ensures.found (rw c.in_default-2.is at c.in_ok-rings.ensures.none)

pub rings_area-requires-clause-rings : goal.rings_area-requires-clause-rings
rings_area-requires-clause-rings c =
    subst (λ (rings : List (Bor (List Tree))). HasGeometry (json_of c.args.feature.now) (rings_in rings)) (sym c.deref.ensures.value)
    (has_geometry (json_of c.args.feature.now) (json_of c.in-Some.geometry.now) (rings_in c.in-Some-2.rings.items) c.in-Some.ensures.found (rw c.in-Some-2.is at c.in_ok-rings.ensures.found))

pub returns-in_err-area-clause-fault : goal.returns-in_err-area-clause-fault
returns-in_err-area-clause-fault c =
    let feature = json_of c.args.feature.now in
    let fault = c.in_err-area.field-0.0 in
    let has : HasGeometry feature (rings_in c.deref.result.now)
    = subst (λ (rings : List (Bor (List Tree))). HasGeometry feature (rings_in rings)) (sym c.deref.ensures.value)
    (has_geometry feature (json_of c.in-Some.geometry.now) (rings_in c.in-Some-2.rings.items) c.in-Some.ensures.found (rw c.in-Some-2.is at c.in_ok-rings.ensures.found)) in
    handed c.from_residual-in_err-area.result fault (λ f. UnlessMemory f (BreaksFirst c.args.name.now c.args.areas c.args.steps c.args.place feature f)) c.from_residual-in_err-area.ensures.1
    (area_fault c.args.name.now c.args.areas c.args.steps c.args.place feature (rings_in c.deref.result.now) fault (c.has_type.ensures.0 c.if-not-has_type.false) has c.in_err-area.ensures.fault)

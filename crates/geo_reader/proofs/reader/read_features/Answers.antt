use Rattle.std.proofs.Common.{◌≡◌, ◌+◌, [], ◌∷◌, ◌++◌, length, arith, rules}
use Rattle.std.proofs.lemmas.Grind.{common_steps}
use Rattle.json_text.specs.Values.{list_of}
use Rattle.geo_reader.specs.Faults.{FailsAtFeature}
use Rattle.geo_reader.specs.Outcomes.{UnlessMemory}
use Rattle.geo_reader.proofs.ReadLemmas.{read_passed, read_area, read_all, passed_within, fails_at}
use Rattle.geo_reader.proofs.ReaderLemmas.{handed}
use Rattle.geo_reader.proofs.reader.read_features.Goals as goal

pub returns-in_err-found-clause-fault : goal.returns-in_err-found-clause-fault
returns-in_err-found-clause-fault c =
    let fault = c.in_err-found.field-0.0 in
    let count : c.len.result ≡ length c.loop-place.areas.items = first_of (omega arith, search rules, grind (arith, common_steps)) in
    handed c.from_residual.result fault (λ f. UnlessMemory f (FailsAtFeature c.args.name.now (list_of c.args.features.now) f)) c.from_residual.ensures.1
    (fails_at c.args.name.now c.args.features.now c.loop-place.place c.index-features-place.result c.loop-place.areas.items c.loop-place.steps c.loop-place.passed c.len.result fault c.loop-place-test.true c.index-features-place.is c.loop-place.invariant count c.in_err-found.ensures.fault)

pub overflow_add-passed : goal.overflow_add-passed
overflow_add-passed c =
    let most = passed_within c.args.name.now c.args.features.now c.loop-place.place c.loop-place.areas.items c.loop-place.steps c.loop-place.passed c.loop-place.invariant in
    let few = c.requires in omega arith

pub loop-place-preserved-in_default : goal.loop-place-preserved-in_default
loop-place-preserved-in_default c =
    read_passed c.args.name.now c.args.features.now c.loop-place.place c.index-features-place.result c.loop-place.areas.items c.loop-place.steps c.loop-place.passed c.loop-place-test.true c.index-features-place.is c.loop-place.invariant
    (rw c.in_default.is at c.in_ok-found.ensures.passed)

pub loop-place-preserved : goal.loop-place-preserved
loop-place-preserved c =
    let count : c.len.result ≡ length c.loop-place.areas.items = first_of (omega arith, search rules, grind (arith, common_steps)) in
    let grown : c.push.new.self.items ≡ c.loop-place.areas.items ++ c.in-Some.area ∷ [] = first_of (assumption (c.in_ok-push.ensures.items), search rules, cc, grind (arith, common_steps)) in
    let together : c.loop-place.steps + c.step_number-steps.result ≡ c.loop-place.steps + length c.in-Some.area.steps = first_of (omega (arith, c.step_number-steps.ensures), search rules, cc, grind (arith, common_steps)) in
    read_area c.args.name.now c.args.features.now c.loop-place.place c.index-features-place.result c.loop-place.areas.items c.push.new.self.items c.in-Some.area c.loop-place.steps c.loop-place.passed c.len.result (c.loop-place.steps + c.step_number-steps.result) c.loop-place-test.true c.index-features-place.is c.loop-place.invariant
    count (rw c.in-Some.is at c.in_ok-found.ensures.added) grown together

pub invariant_of-result : goal.invariant_of-result
invariant_of-result c =
    let s = c.loop-place.invariant in
    record {
      few_areas = s.areas_are.few_areas;
      few_steps = s.areas_are.few_steps;
      few_passed = (let most = passed_within c.args.name.now c.args.features.now c.loop-place.place c.loop-place.areas.items c.loop-place.steps c.loop-place.passed s in let few = c.requires in omega arith);
    }

pub returns-clause-areas : goal.returns-clause-areas
returns-clause-areas c =
    (read_all c.args.name.now c.args.features.now c.loop-place.place c.loop-place.areas.items c.loop-place.steps c.loop-place.passed c.loop-place-test.false c.loop-place.invariant).areas_are

pub returns-clause-passed : goal.returns-clause-passed
returns-clause-passed c =
    (read_all c.args.name.now c.args.features.now c.loop-place.place c.loop-place.areas.items c.loop-place.steps c.loop-place.passed c.loop-place-test.false c.loop-place.invariant).passed_are

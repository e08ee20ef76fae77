use Rattle.std.proofs.Common.{refl, ap, sym, subst, ◌∙◌, ◌∷◌, [], arith, rules, map, replicate, ◌<◌}
use Rattle.agg_base.specs.declared.limits.TheConstants.{AREAS}
use Rattle.std.proofs.lemmas.Result.{err_from_is_err_and}
use Rattle.cert_reader.specs.Due.{RegionDue}
use Rattle.cert_reader.specs.declared.line.Line.TheVariants.{Region}
use Rattle.cert_reader.proofs.SourceLemmas.{fails_more, plainly_item, plainly_all, all_snoc, count_snoc}
use Rattle.cert_reader.proofs.head_reader.read_places.Goals as goal

pub loop-place-preserved : goal.loop-place-preserved
loop-place-preserved c = rw c.in_ok-push.ensures.items (record {
  reads = plainly_item Region RegionDue _ _ _ _ _ _ _ (omega arith) c.loop-place.invariant.reads c.in_ok-region.ensures.read;
  range = all_snoc (λ x. x < AREAS) _ _ c.loop-place.invariant.range c.in_ok-region.ensures.range;
  count_is = count_snoc _ _ _ c.loop-place.invariant.count_is;
})

pub returns-in_err-region-clause-fault : goal.returns-in_err-region-clause-fault
returns-in_err-region-clause-fault c = let p = err_from_is_err_and c.from_residual.result c.from_residual.ensures.1 in rw (p.1, p.2) (fails_more RegionDue _ _ _ _ _ _ (omega arith) c.loop-place.invariant.reads.reads c.in_err-region.ensures.fault)

pub returns-clause-read : goal.returns-clause-read
returns-clause-read c = plainly_all RegionDue _ _ _ _ _ (omega arith) c.loop-place.invariant.reads

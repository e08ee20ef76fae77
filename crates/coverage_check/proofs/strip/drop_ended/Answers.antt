use Rattle.std.proofs.Common.{rules}
use Rattle.std.proofs.lemmas.Fn.{filter_same}
use Rattle.coverage_check.specs.Active.{is_up_to}
use Rattle.coverage_check.proofs.strip.drop_ended.Goals as goal

pub returns : goal.returns
returns c = filter_same _ (is_up_to c.args.high) _ (λ x b f' k. search rules) _ _ c.retain.ensures.filtered

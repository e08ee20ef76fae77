use Rattle.std.proofs.Common.{◌∙◌, sym, refl}
use Rattle.json_text.proofs.Cases.{false_true}
use Rattle.geo_reader.specs.Rules.{IsWhole}
use Rattle.geo_reader.proofs.LoopLemmas.{all_more, all_of_front, value_at}
use Rattle.geo_reader.proofs.outline.is_whole_ring.Goals as goal

pub loop-position-preserved : goal.loop-position-preserved
loop-position-preserved c =
    all_more IsWhole c.args.ring.now c.loop-position.position-index c.position-item.result c.loop-position-test.true c.position-item.is c.loop-position.invariant (c.is_whole_position.ensures.0 c.if-not-is_whole_position.false)

pub returns-then-not-is_whole_position : goal.returns-then-not-is_whole_position
returns-then-not-is_whole_position c = (
  λ e. cc,
  λ all. false_true (sym c.if-not-is_whole_position.true ∙ c.is_whole_position.ensures.1 (value_at IsWhole c.args.ring.now c.loop-position.position-index c.position-item.result c.loop-position-test.true c.position-item.is all)),
)

pub returns : goal.returns
returns c = (λ t. all_of_front IsWhole c.args.ring.now c.loop-position.position-index c.loop-position-test.false c.loop-position.invariant, λ all. refl)

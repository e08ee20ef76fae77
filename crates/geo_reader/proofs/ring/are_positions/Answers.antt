use Rattle.std.proofs.Common.{◌∙◌, sym, refl}
use Rattle.json_text.proofs.Cases.{false_true}
use Rattle.geo_reader.specs.Features.{IsPosition}
use Rattle.geo_reader.proofs.LoopLemmas.{all_more, all_of_front, value_at}
use Rattle.geo_reader.proofs.ring.are_positions.Goals as goal

pub loop-position-preserved : goal.loop-position-preserved
loop-position-preserved c =
    all_more IsPosition c.args.positions.now c.loop-position.position-index c.position-item.result c.loop-position-test.true c.position-item.is c.loop-position.invariant (c.is_position.ensures.0 c.if-not-is_position.false)

pub returns-then-not-is_position : goal.returns-then-not-is_position
returns-then-not-is_position c = (
  λ e. cc,
  λ all. false_true (sym c.if-not-is_position.true ∙ c.is_position.ensures.1 (value_at IsPosition c.args.positions.now c.loop-position.position-index c.position-item.result c.loop-position-test.true c.position-item.is all)),
)

pub returns : goal.returns
returns c = (λ t. all_of_front IsPosition c.args.positions.now c.loop-position.position-index c.loop-position-test.false c.loop-position.invariant, λ all. refl)

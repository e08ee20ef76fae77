use Rattle.std.proofs.Common.{◌≤◌, subst, All, arith}
use Rattle.std.proofs.lemmas.Bool.Decides.{nat_tests}
use Rattle.std.proofs.lemmas.List.{take_all}
use Rattle.std.proofs.lemmas.List.Elements.{All-more}
use Rattle.map_drawing.proofs.tests.are_printed.Goals as goal

pub loop-byte-preserved : goal.loop-byte-preserved
loop-byte-preserved c =
    All-more (λ byte. 32 ≤ byte) c.args.bytes.now c.loop-byte.byte-index 0 c.loop-byte-test.true c.loop-byte.invariant (let high = c.if-byte-lt32.false in grind (arith, nat_tests))

pub returns : goal.returns
returns c = λ h. subst (All (λ byte. 32 ≤ byte)) (take_all c.loop-byte.byte-index c.args.bytes.now c.loop-byte-test.false) c.loop-byte.invariant

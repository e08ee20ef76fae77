use Rattle.std.proofs.Common.{refl}
use Rattle.json_text.proofs.Cases.{false_true}
use Rattle.json_text.specs.Values.{json_of}
use Rattle.map_values.proofs.Decided.{texts_of}
use Rattle.topo_reader.proofs.arcs.is_whole.Goals as goal

pub returns-in_default : goal.returns-in_default
returns-in_default c = (λ never. false_true never, λ whole. absurd (c.in_default.ensures.none whole.2.first whole.2.second (record { more = whole.2.more; list = whole.2.list })))

pub returns-then-is_number : goal.returns-then-is_number
returns-then-is_number c =
    let begins = c.in-Some.ensures.found in
    let first = c.in-Some.first.now in
    let second = c.in-Some.second.now in (
      λ is. (let x = c.if-is_number.ensures.0 refl in let y = c.is_number-then-is_number.ensures.0 is in
          (x.0, y.0, record { first = first; second = second; more = begins.more; list = begins.list; x_is = x.1; y_is = y.1 })),
      λ whole. c.is_number-then-is_number.ensures.1 (whole.1, (texts_of (json_of c.args.position.now) first second whole.0 whole.1 begins whole.2).1),
    )

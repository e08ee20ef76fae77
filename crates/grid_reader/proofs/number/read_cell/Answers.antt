use Rattle.std.proofs.Common.{arith, refl}
use Rattle.std.proofs.lemmas.Int.{ints}
use Rattle.grid_reader.proofs.OneCell.{one_cell}
use Rattle.grid_reader.proofs.number.read_cell.Goals as goal

pub returns-then-value-ltminus2147483647-clause-none : goal.returns-then-value-ltminus2147483647-clause-none
returns-then-value-ltminus2147483647-clause-none c = λ z cell.
    let same = one_cell c.args.text.now c.in-Is.value z _ refl c.in-Is.ensures.inside cell in
    let least = cell.least in
    let less = c.if-value-ltminus2147483647.true in
    omega (arith, ints)

pub returns-then-value-gt2147483647-clause-none : goal.returns-then-value-gt2147483647-clause-none
returns-then-value-gt2147483647-clause-none c = λ z cell.
    let same = one_cell c.args.text.now c.in-Is.value z _ refl c.in-Is.ensures.inside cell in
    let most = cell.most in
    let more = c.if-value-gt2147483647.true in
    omega (arith, ints)

-- A text spells one cell.
use Rattle.std.proofs.Common.{arith, ◌≡◌, ℕ, List}
use Rattle.std.specs.Prelude.{ℤ, FitsSigned}
use Rattle.std.specs.Int.{w64}
use Rattle.std.proofs.lemmas.Int.{ints}
use Rattle.agg_base.specs.Numbers.{SpellsWhole}
use Rattle.agg_base.specs.declared.numeral.Whole.{Whole}
use Rattle.agg_base.specs.declared.numeral.Whole.TheVariants.{Is}
use Rattle.grid_reader.specs.Numbers.{SpellsCell}

-- a text spells one cell at most, the number that was read
pub one_cell : (text : List ℕ) (value z : ℤ) (r : Whole) → r ≡ Is value → ((n : ℤ) → SpellsWhole text n → FitsSigned w64 n → r ≡ Is n) → SpellsCell text z → z ≡ value
one_cell text value z r is inside cell =
    let low = cell.least in
    let high = cell.most in
    let same : r ≡ Is z = inside z cell.whole (search (arith, ints)) in
    cc

-- An ascent is usable.
use Rattle.std.proofs.Common.{ℕ, length, arith, subst}
use Rattle.std.proofs.lemmas.Int.{ints}
use Rattle.agg_model.specs.Problem.{Problem}
use Rattle.row_laws.specs.declared.row.Row.{Row}
use Rattle.row_laws.specs.declared.row.Row.TheVariants.{Border, Escape}
use Rattle.row_laws.specs.Rows.{IsInForm}
use Rattle.row_laws.specs.Values.{RowSum, Allowed, IsSoundSum, row_in}
use Rattle.bound_rows.specs.Offers.{IsUsable}
use Rattle.relax_bound.specs.Ascents.{IsShort, HasValue, IsClimb, AscentLaw}
use Rattle.relax_bound.proofs.ClimbLemmas.{whole_rows}

short_form : (p : Problem) (row : Row) → IsShort p row → IsInForm p row
short_form p (Border l side k) h = h
short_form p (Escape v k set) h = h.0

climb_sound : (p : Problem) (allowed : Allowed) (share : ℕ) (s : RowSum) → IsClimb p allowed share s → IsSoundSum p s
climb_sound p allowed share s climb = record {
  denominator = record {
    above = (let one = climb.denominator in omega arith);
    below = (let one = climb.denominator in omega arith);
    whole = λ _. climb.denominator;
  };
  rows = λ i h.
      (let taken = climb.taken i h in
      let least = taken.least in
      (short_form p (row_in s.rows i).0 taken.short, omega (arith, ints)));
}

climb_usable : (p : Problem) (allowed : Allowed) (share : ℕ) (s : RowSum) → IsClimb p allowed share s → IsUsable p allowed share s
climb_usable p allowed share s climb =
    let value = subst (HasValue p allowed) (whole_rows s) (climb.strong (length s.rows) (omega arith)) in (
      value.0,
      record {
        sound = climb_sound p allowed share s climb;
        value = value.1;
        marks = (let light = climb.light in omega arith);
      },
    )

pub ascent_law : AscentLaw
ascent_law p allowed share s ascent = climb_usable p allowed share s ascent.climbs

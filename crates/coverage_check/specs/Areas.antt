-- One or two areas.
use Rattle.std.specs.Prelude.{ℕ, Bool, true, false, Option, Some, None, nat_lt, eqb}

-- the second area, where there is one, is above the first
abbrev pub do_areas_rise : ℕ → Option ℕ → Bool
do_areas_rise a None = true
do_areas_rise a (Some b) = nat_lt a b

-- the area is the one that is told
abbrev pub is_this : ℕ → Option ℕ → Bool
is_this a None = false
is_this a (Some b) = eqb a b

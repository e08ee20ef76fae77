-- Worked values: a walk came from the east, so a clockwise turn from the direction back meets south, west, north and, after a whole turn, east.
use Rattle.std.proofs.Common.{◌≡◌, ℤ, pos, negsuc, true, false, refl}
use Rattle.region_rings.specs.Turning.{is_within_half_turn, is_met_sooner}

abbrev east : ℤ × ℤ
east = (pos 1, pos 0)

abbrev south : ℤ × ℤ
south = (pos 0, negsuc 0)

abbrev west : ℤ × ℤ
west = (negsuc 0, pos 0)

abbrev north : ℤ × ℤ
north = (pos 0, pos 1)

-- straight on is met after half a turn, and the direction back itself after a whole one
straight_on : is_within_half_turn east west ≡ true
straight_on = refl

straight_back : is_within_half_turn east east ≡ false
straight_back = refl

south_before_west : is_met_sooner east south west ≡ true
south_before_west = refl

west_after_south : is_met_sooner east west south ≡ false
west_after_south = refl

west_before_north : is_met_sooner east west north ≡ true
west_before_north = refl

north_before_east : is_met_sooner east north east ≡ true
north_before_east = refl

east_after_north : is_met_sooner east east north ≡ false
east_after_north = refl

east_after_west : is_met_sooner east east west ≡ false
east_after_west = refl

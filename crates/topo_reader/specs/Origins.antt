-- What the positions of an arc are added to.
use Rattle.std.specs.Prelude.{Bool, if◌then◌else◌, List, [], ◌∷◌, ℤ, pos}
use Rattle.plane_edge.specs.declared.point.Point.{Point}

-- a coordinate of what the position behind these points is added to: that of the last point where positions are relative, else 0
abbrev pub next_of : (Point → ℤ) → Bool → ℤ → List Point → ℤ
next_of part relative z [] = z
next_of part relative z (p ∷ ps) = next_of part relative (if relative then part p else pos 0) ps

abbrev pub across : Point → ℤ
across p = p.x

abbrev pub up : Point → ℤ
up p = p.y

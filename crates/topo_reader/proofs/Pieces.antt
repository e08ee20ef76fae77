-- Pieces of worked topologies.
use Rattle.std.proofs.Common.{◌≡◌, ℕ, ◌<◌, ◌≤◌, true, false, slice_index, List, [], ◌∷◌, length, refl, sym, append-nil, arith, lit<}
use Rattle.std.specs.Prelude.{codes, ℤ, pos, negsuc, ◌+ℤ◌, FitsSigned}
use Rattle.std.specs.Char.{is_ascii_digit}
use Rattle.std.specs.List.{list_all}
use Rattle.std.specs.Int.{w128}
use Rattle.std.specs.Fmt.{signed_decimal}
use Rattle.std.specs.Str.Parse.{IsNumeral, digits_value, signed_digits_value}
use Rattle.std.proofs.lemmas.Int.{ints}
use Rattle.agg_base.specs.Numbers.{SpellsWhole}
use Rattle.agg_base.proofs.PlainText.{one_plain_spelling}
use Rattle.agg_base.proofs.WholeText.{behind_minus, spells}
use Rattle.json_text.specs.Tree.{Json, Str, Number, array, object}
use Rattle.plane_edge.specs.Coordinate.{IsCoordinate}
use Rattle.plane_edge.specs.declared.point.Point.{Point}
use Rattle.map_values.specs.Positions.{SpellsPosition}
use Rattle.topo_reader.specs.Arcs.{SpellsPoint}

abbrev pub geometries : List Json → Json
geometries places = object ((codes "type", Str (codes "GeometryCollection")) ∷ (codes "geometries", array places) ∷ [])

-- a topology without a transform
abbrev pub topology : Json → List Json → Json
topology objects arcs = object ((codes "type", Str (codes "Topology")) ∷ (codes "objects", objects) ∷ (codes "arcs", array arcs) ∷ [])

-- its one object `t`
abbrev pub only : Json → Json
only tree = object ((codes "t", tree) ∷ [])

-- ---- numbers

-- an optional minus and digits spell their value
pub whole : (text : List ℕ) → 0 < length (behind_minus text) → list_all is_ascii_digit (behind_minus text) ≡ true → SpellsWhole text (signed_digits_value 10 text)
whole text some digits = record { front = text; zeros = 0; number = spells text (behind_minus text) refl some digits; parts = sym (append-nil text) }

-- digits without a needless zero in front are their number's decimal spelling
pub plainly : (digits : List ℕ) → IsNumeral 10 digits → (slice_index digits 0 ≡ 48 → length digits ≡ 1) → FitsSigned w128 (pos (digits_value 10 digits)) → digits ≡ signed_decimal (pos (digits_value 10 digits))
plainly digits numeral lead fits =
    (one_plain_spelling digits (pos (digits_value 10 digits)) fits).1 (record {
      number = record { minus = false; digits = digits; numeral = numeral; parts = refl; value = refl };
      no_needless_zero = λ first. (lead first, refl);
    })

pub nought : SpellsWhole (codes "0") (pos 0)
nought = whole (codes "0") (lit< tt) refl

pub one : SpellsWhole (codes "1") (pos 1)
one = whole (codes "1") (lit< tt) refl

pub two : SpellsWhole (codes "2") (pos 2)
two = whole (codes "2") (lit< tt) refl

pub minus_one : SpellsWhole (codes "-1") (negsuc 0)
minus_one = whole (codes "-1") (lit< tt) refl

pub minus_two : SpellsWhole (codes "-2") (negsuc 1)
minus_two = whole (codes "-2") (lit< tt) refl

-- the greatest coordinate
pub limit : SpellsWhole (codes "1073741824") (pos 1073741824)
limit = whole (codes "1073741824") (lit< tt) refl

-- ---- points

abbrev pub position : List ℕ → List ℕ → Json
position x y = array (Number x ∷ Number y ∷ [])

pub at : (x y : List ℕ) (m n : ℤ) → SpellsWhole x m → SpellsWhole y n → SpellsPosition (position x y) m n
at x y m n first second = record { first = x; second = y; more = []; list = refl; x_is = first; y_is = second }

pub near : (n : ℕ) → n ≤ 1073741824 → IsCoordinate (pos n)
near n few = record { least = omega (arith, ints); most = omega (arith, ints) }

abbrev pub point : (x y : ℕ) → x ≤ 1073741824 → y ≤ 1073741824 → Point
point x y left low = record { y = pos y; x = pos x; y_in_range = near y low; x_in_range = near x left }

-- the corners of a square
abbrev pub p : Point
p = point 0 0 (omega arith) (omega arith)

abbrev pub q : Point
q = point 2 0 (omega arith) (omega arith)

abbrev pub r : Point
r = point 2 2 (omega arith) (omega arith)

abbrev pub u : Point
u = point 0 2 (omega arith) (omega arith)

pub from : (x y : ℤ) (tree : Json) (t : Point) (dx dy : ℤ) → SpellsPosition tree dx dy → t.x ≡ x +ℤ dx → t.y ≡ y +ℤ dy → SpellsPoint x y tree t
from x y tree t dx dy position x_is y_is = record { dx = dx; dy = dy; position = position; x_is = x_is; y_is = y_is }

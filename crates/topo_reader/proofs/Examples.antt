-- Worked topologies.
use Rattle.std.proofs.Common.{◌≡◌, ℕ, true, false, List, [], ◌∷◌, refl, ap, get_or, arith, lit<}
use Rattle.std.specs.Prelude.{codes, None, Some, pos, negsuc}
use Rattle.agg_base.proofs.WholeText.{spells, sign_is}
use Rattle.json_text.specs.Tree.{Json, Null, Str, Number, array, object, member_of}
use Rattle.plane_edge.specs.declared.point.Point.{Point}
use Rattle.plane_edge.specs.Rings.{Area}
use Rattle.plane_edge.specs.declared.frame.Frame.TheVariants.{Plain, Scaled}
use Rattle.topo_reader.specs.Arcs.{SpellsArc}
use Rattle.topo_reader.specs.Rings.{SpellsRing, polygon}
use Rattle.map_values.specs.Classes.{SpellsClass, by_text, by_number}
use Rattle.topo_reader.specs.Topology.{IsPicked, SpellsTopology, collection, alone}
use Rattle.topo_reader.proofs.Pieces.{geometries, topology, only, whole, plainly, nought, one, two, minus_one, minus_two, limit, position, at, point, p, q, r, u, from}
use Rattle.map_values.proofs.Values.{text_in, value_or}

-- ---- class texts

-- 7.0 is class 7
seven : SpellsClass (Number (codes "7.0")) (codes "7")
seven =
    by_number (codes "7.0") (pos 7) refl (record { front = codes "7"; zeros = 1; number = spells (codes "7") (codes "7") refl (lit< tt) refl; parts = refl })
    (record { sfits = omega arith })
    (plainly (codes "7") (sign_is (codes "7") (pos 7) (spells (codes "7") (codes "7") refl (lit< tt) refl)) (λ (never : 55 ≡ 48). absurd (omega arith)) (record { sfits = omega arith }))

-- -0 is class 0
minus_nought : SpellsClass (Number (codes "-0")) (codes "0")
minus_nought =
    by_number (codes "-0") (pos 0) refl (whole (codes "-0") (lit< tt) refl) (record { sfits = omega arith })
    (plainly (codes "0") (sign_is (codes "0") (pos 0) (spells (codes "0") (codes "0") refl (lit< tt) refl)) (λ first. refl) (record { sfits = omega arith }))

-- the greatest number of 64 bits
greatest : SpellsClass (Number (codes "9223372036854775807")) (codes "9223372036854775807")
greatest =
    let spelled = spells (codes "9223372036854775807") (codes "9223372036854775807") refl (lit< tt) refl in
    by_number (codes "9223372036854775807") (pos 9223372036854775807) refl (whole (codes "9223372036854775807") (lit< tt) refl) (record { sfits = omega arith })
    (plainly (codes "9223372036854775807") (sign_is (codes "9223372036854775807") (pos 9223372036854775807) spelled) (λ (never : 57 ≡ 48). absurd (omega arith)) (record { sfits = omega arith }))

-- ---- which object is read

-- of members of one name the last is the object
last_of_a_name : (x y : Json) → IsPicked (object ((codes "a", x) ∷ (codes "a", y) ∷ [])) None y
last_of_a_name x y = (codes "a", ((codes "a", x) ∷ (codes "a", y) ∷ [], refl, (refl, (refl, tt))), refl)

-- ---- no area

-- no geometry, no area
no_area : SpellsTopology (topology (only (geometries [])) []) (codes "class") (Some (codes "t")) (record { areas = []; passed = 0; frame = Plain })
no_area = record {
  objects = only (geometries []);
  picked = geometries [];
  places = [];
  parts = [];
  arcs = [];
  type_is = refl;
  frame_is = refl;
  objects_are = refl;
  picked_is = refl;
  parts_are = refl;
  arcs_are = tt;
  places_are = collection refl refl;
  areas_are = tt;
  passed_is = refl;
  few_areas = omega arith;
  few_steps = omega arith;
}

-- a geometry that is null, and one whose type is
abbrev nulls : List Json
nulls = Null ∷ object ((codes "type", Null) ∷ []) ∷ []

-- both are passed over and counted
two_passed : SpellsTopology (topology (only (geometries nulls)) []) (codes "class") (Some (codes "t")) (record { areas = []; passed = 2; frame = Plain })
two_passed = record {
  objects = only (geometries nulls);
  picked = geometries nulls;
  places = nulls;
  parts = [];
  arcs = [];
  type_is = refl;
  frame_is = refl;
  objects_are = refl;
  picked_is = refl;
  parts_are = refl;
  arcs_are = tt;
  places_are = collection refl refl;
  areas_are = tt;
  passed_is = refl;
  few_areas = omega arith;
  few_steps = omega arith;
}

-- ---- arcs and rings

-- the limit is on the sums: a step back from the greatest coordinate is taken
back_from_limit : SpellsArc true (array (position (codes "1073741824") (codes "0") ∷ position (codes "-1") (codes "0") ∷ [])) (point 1073741824 0 (omega arith) (omega arith) ∷ point 1073741823 0 (omega arith) (omega arith) ∷ [])
back_from_limit = record {
  positions = position (codes "1073741824") (codes "0") ∷ position (codes "-1") (codes "0") ∷ [];
  list = refl;
  long = omega arith;
  points = (
    from (pos 0) (pos 0) _ (point 1073741824 0 (omega arith) (omega arith)) _ _ (at _ _ _ _ limit nought) refl refl,
    (from (pos 1073741824) (pos 0) _ (point 1073741823 0 (omega arith) (omega arith)) _ _ (at _ _ _ _ minus_one nought) refl refl, tt),
  );
}

-- without a transform the same point of the plane is told by its own coordinates
after_limit : SpellsArc false (array (position (codes "1073741824") (codes "0") ∷ position (codes "1") (codes "0") ∷ [])) (point 1073741824 0 (omega arith) (omega arith) ∷ point 1 0 (omega arith) (omega arith) ∷ [])
after_limit = record {
  positions = position (codes "1073741824") (codes "0") ∷ position (codes "1") (codes "0") ∷ [];
  list = refl;
  long = omega arith;
  points = (
    from (pos 0) (pos 0) _ (point 1073741824 0 (omega arith) (omega arith)) _ _ (at _ _ _ _ limit nought) refl refl,
    (from (pos 0) (pos 0) _ (point 1 0 (omega arith) (omega arith)) _ _ (at _ _ _ _ one nought) refl refl, tt),
  );
}

-- two arcs that join and close
two_arcs : SpellsRing ((p ∷ q ∷ []) ∷ (q ∷ r ∷ p ∷ []) ∷ []) (array (Number (codes "0") ∷ Number (codes "1") ∷ [])) (p ∷ q ∷ r ∷ p ∷ [])
two_arcs = record {
  indexes = Number (codes "0") ∷ Number (codes "1") ∷ [];
  paths = (p ∷ q ∷ []) ∷ (q ∷ r ∷ p ∷ []) ∷ [];
  begin = p;
  list = refl;
  some = omega arith;
  told = (
    record { number = codes "0"; index = pos 0; is = refl; whole = nought; told = refl },
    (record { number = codes "1"; index = pos 1; is = refl; whole = one; told = refl }, tt),
  );
  closed = (refl, (refl, refl));
  ring_is = refl;
}

-- ---- one area

-- properties with the class a
abbrev class_a : Json
class_a = object ((codes "class", Str (codes "a")) ∷ [])

-- a polygon of one ring of one index
abbrev square : List ℕ → Json
square index = object ((codes "type", Str (codes "Polygon")) ∷ (codes "properties", class_a) ∷ (codes "arcs", array (array (Number index ∷ []) ∷ [])) ∷ [])

-- from the origin up, to the right, down, and back
abbrev positions : List Json
positions =
    position (codes "0") (codes "0") ∷ position (codes "0") (codes "2") ∷ position (codes "2") (codes "0") ∷ position (codes "0") (codes "-2") ∷ position (codes "-2") (codes "0") ∷ []

abbrev transform : Json
transform = object (
    (codes "scale", array (Number (codes "0.0036000360003600037") ∷ Number (codes "0.0017361") ∷ []))
    ∷ (codes "translate", array (Number (codes "-180") ∷ Number (codes "-85.60903777459771") ∷ []))
    ∷ []
    )

abbrev scaled : Json
scaled =
    object (
    (codes "type", Str (codes "Topology"))
    ∷ (codes "transform", transform)
    ∷ (codes "objects", only (geometries (square (codes "-1") ∷ [])))
    ∷ (codes "arcs", array (array positions ∷ []))
    ∷ []
    )

abbrev round : List Point
round = p ∷ u ∷ r ∷ q ∷ p ∷ []

abbrev round_back : List Point
round_back = p ∷ q ∷ r ∷ u ∷ p ∷ []

the_arc : SpellsArc true (array positions) round
the_arc = record {
  positions = positions;
  list = refl;
  long = omega arith;
  points = (
    from (pos 0) (pos 0) _ p _ _ (at _ _ _ _ nought nought) refl refl,
    (
      from (pos 0) (pos 0) _ u _ _ (at _ _ _ _ nought two) refl refl,
      (
        from (pos 0) (pos 2) _ r _ _ (at _ _ _ _ two nought) refl refl,
        (
          from (pos 2) (pos 2) _ q _ _ (at _ _ _ _ nought minus_two) refl refl,
          (from (pos 2) (pos 0) _ p _ _ (at _ _ _ _ minus_two nought) refl refl, tt),
        ),
      ),
    ),
  );
}

backwards : SpellsRing (round ∷ []) (array (Number (codes "-1") ∷ [])) round_back
backwards = record {
  indexes = Number (codes "-1") ∷ [];
  paths = round_back ∷ [];
  begin = p;
  list = refl;
  some = omega arith;
  told = (record { number = codes "-1"; index = negsuc 0; is = refl; whole = minus_one; told = refl }, tt);
  closed = (refl, refl);
  ring_is = refl;
}

abbrev area : Area
area = record {
  class = codes "a";
  steps =
      record { low = p; high = q; rising = refl }
      ∷ record { low = q; high = r; rising = refl }
      ∷ record { low = u; high = r; rising = refl }
      ∷ record { low = p; high = u; rising = refl }
      ∷ [];
}

-- a square of four steps, told by the arc backwards; the frame keeps its characters
one_area : SpellsTopology scaled (codes "class") (Some (codes "t")) (record {
  areas = area ∷ [];
  passed = 0;
  frame = Scaled (codes "0.0036000360003600037") (codes "0.0017361") (codes "-180") (codes "-85.60903777459771");
})
one_area = record {
  objects = only (geometries (square (codes "-1") ∷ []));
  picked = geometries (square (codes "-1") ∷ []);
  places = square (codes "-1") ∷ [];
  parts = array positions ∷ [];
  arcs = round ∷ [];
  type_is = refl;
  frame_is = (transform, refl, record { scale = refl; translate = refl });
  objects_are = refl;
  picked_is = refl;
  parts_are = refl;
  arcs_are = (the_arc, tt);
  places_are = collection refl refl;
  areas_are = (
    record {
      rings = round_back ∷ [];
      class_is = record { properties = class_a; value = Str (codes "a"); properties_are = refl; value_is = refl; class_is = by_text refl (omega arith) (omega arith) };
      rings_are = polygon (array (array (Number (codes "-1") ∷ []) ∷ [])) refl refl (record { parts = array (Number (codes "-1") ∷ []) ∷ []; list = refl; each = (backwards, tt) });
      steps_are = refl;
    },
    tt,
  );
  passed_is = refl;
  few_areas = omega arith;
  few_steps = omega arith;
}

-- ---- an object that is a polygon itself

abbrev corners : List Json
corners = position (codes "0") (codes "0") ∷ position (codes "2") (codes "0") ∷ position (codes "2") (codes "2") ∷ position (codes "0") (codes "0") ∷ []

corner_arc : SpellsArc false (array corners) (p ∷ q ∷ r ∷ p ∷ [])
corner_arc = record {
  positions = corners;
  list = refl;
  long = omega arith;
  points = (
    from (pos 0) (pos 0) _ p _ _ (at _ _ _ _ nought nought) refl refl,
    (
      from (pos 0) (pos 0) _ q _ _ (at _ _ _ _ two nought) refl refl,
      (
        from (pos 0) (pos 0) _ r _ _ (at _ _ _ _ two two) refl refl,
        (from (pos 0) (pos 0) _ p _ _ (at _ _ _ _ nought nought) refl refl, tt),
      ),
    ),
  );
}

corner_ring : SpellsRing ((p ∷ q ∷ r ∷ p ∷ []) ∷ []) (array (Number (codes "0") ∷ [])) (p ∷ q ∷ r ∷ p ∷ [])
corner_ring = record {
  indexes = Number (codes "0") ∷ [];
  paths = (p ∷ q ∷ r ∷ p ∷ []) ∷ [];
  begin = p;
  list = refl;
  some = omega arith;
  told = (record { number = codes "0"; index = pos 0; is = refl; whole = nought; told = refl }, tt);
  closed = (refl, refl);
  ring_is = refl;
}

abbrev triangle : Area
triangle = record {
  class = codes "a";
  steps = record { low = p; high = q; rising = refl } ∷ record { low = q; high = r; rising = refl } ∷ record { low = p; high = r; rising = refl } ∷ [];
}

no_collection : ¬ (member_of (square (codes "0")) (codes "type") ≡ Some (Str (codes "GeometryCollection")))
no_collection same = let never : ◌≡◌ {A = ℕ} 80 71 = ap (λ type. get_or (text_in (value_or Null type)) 0 0) same in omega arith

-- it is place 0
polygon_alone : SpellsTopology (topology (only (square (codes "0"))) (array corners ∷ [])) (codes "class") (Some (codes "t")) (record { areas = triangle ∷ []; passed = 0; frame = Plain })
polygon_alone = record {
  objects = only (square (codes "0"));
  picked = square (codes "0");
  places = square (codes "0") ∷ [];
  parts = array corners ∷ [];
  arcs = (p ∷ q ∷ r ∷ p ∷ []) ∷ [];
  type_is = refl;
  frame_is = refl;
  objects_are = refl;
  picked_is = refl;
  parts_are = refl;
  arcs_are = (corner_arc, tt);
  places_are = alone no_collection refl;
  areas_are = (
    record {
      rings = (p ∷ q ∷ r ∷ p ∷ []) ∷ [];
      class_is = record { properties = class_a; value = Str (codes "a"); properties_are = refl; value_is = refl; class_is = by_text refl (omega arith) (omega arith) };
      rings_are = polygon (array (array (Number (codes "0") ∷ []) ∷ [])) refl refl (record { parts = array (Number (codes "0") ∷ []) ∷ []; list = refl; each = (corner_ring, tt) });
      steps_are = refl;
    },
    tt,
  );
  passed_is = refl;
  few_areas = omega arith;
  few_steps = omega arith;
}

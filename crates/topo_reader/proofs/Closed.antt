-- Whether the arcs of a ring join and close.
use Rattle.std.proofs.Common.{◌≡◌, ◌∙◌, ◌<◌, refl, sym, ap, subst, inl, inr, ℕ, true, List, [], ◌∷◌, length, map, arith, ℤ}
use Rattle.std.specs.Prelude.{Option, None, Some}
use Rattle.std.specs.List.{AllZip}
use Rattle.agg_base.specs.Numbers.{SpellsWhole}
use Rattle.json_text.proofs.Cases.{by_cases_of, false_true}
use Rattle.json_text.specs.Tree.{Json, Number}
use Rattle.map_values.proofs.Decided.{Decided, partners_or}
use Rattle.map_values.proofs.Unique.{zip_one}
use Rattle.map_values.proofs.Values.{some_same, array_same, number_same, same_whole}
use Rattle.map_values.proofs.WholeDecided.{whole_or}
use Rattle.plane_edge.proofs.OrderLemmas.{same_points_equal, same_point_itself}
use Rattle.plane_edge.specs.Edges.{is_same_point}
use Rattle.plane_edge.specs.Paths.{AreJoined, first_of, last_of, points_along}
use Rattle.plane_edge.specs.declared.point.Point.{Point}
use Rattle.topo_reader.specs.PlaceFaults.{ring_tree, IsIndex}
use Rattle.topo_reader.specs.Rings.{path_of, SpellsPath, SpellsRing}
use Rattle.topo_reader.proofs.OneLayer.{one_told}

-- ---- indexes

-- the text is the index of that path
abbrev pub TellsPath : List (List Point) → List ℕ → List Point → Type 0
TellsPath arcs text path = SpellsPath arcs (Number text) path

told_by : (arcs : List (List Point)) (text : List ℕ) (n : ℤ) (path : List Point) → SpellsWhole text n → TellsPath arcs text path → path_of arcs n ≡ Some path
told_by arcs text n path whole s = ap (path_of arcs) (same_whole text s.number n s.index (number_same text s.number s.is) whole s.whole) ∙ s.told

index_told : (arcs : List (List Point)) (text : List ℕ) (n : ℤ) → SpellsWhole text n → (o : Option (List Point)) → path_of arcs n ≡ o → Decided (IsIndex arcs text)
index_told arcs text n whole None is = inr (λ s. (let never : None ≡ Some s.0 = sym is ∙ told_by arcs text n s.0 whole s.1 in cc))
index_told arcs text n whole (Some path) is = inl (path, record { number = text; index = n; is = refl; whole = whole; told = is })

-- a text is an index in range or is none
pub index_or : (arcs : List (List Point)) (text : List ℕ) → Decided (IsIndex arcs text)
index_or arcs text = elim (whole_or text) as (λ _. Decided (IsIndex arcs text)) [
  | inl n ↦ index_told arcs text n.0 n.1 (path_of arcs n.0) refl
  | inr none ↦ inr (λ s. none s.1.index (subst (λ (t : List ℕ). SpellsWhole t s.1.index) (sym (number_same text s.1.number s.1.is)) s.1.whole))
]

-- ---- paths

point_or_other : (p q : Point) → Decided (p ≡ q)
point_or_other p q = by_cases_of (is_same_point p q) _ (λ e. inl (same_points_equal p q e)) (λ e. inr (λ same. false_true (sym e ∙ subst (λ (r : Point). is_same_point p r ≡ true) same (same_point_itself p))))

end_or : (a b : Option Point) → Decided (a ≡ b)
end_or None None = inl refl
end_or None (Some q) = inr (λ is. (cc))
end_or (Some p) None = inr (λ is. (cc))
end_or (Some p) (Some q) = elim (point_or_other p q) as (λ _. Decided (Some p ≡ Some q)) [
  | inl same ↦ inl (ap (λ (r : Point). Some r) same)
  | inr other ↦ inr (λ is. other (some_same p q is))
]

joined_or : (begin : Option Point) (paths : List (List Point)) (end : Option Point) → Decided (AreJoined begin paths end)
joined_or begin [] end = end_or begin end
joined_or begin (path ∷ paths) end = elim (end_or (first_of path) begin) as (λ _. Decided (AreJoined begin (path ∷ paths) end)) [
  | inl here ↦ elim (joined_or (last_of path) paths end) as (λ _. Decided (AreJoined begin (path ∷ paths) end)) [ inl more ↦ inl (here, more) | inr other ↦ inr (λ s. other s.1) ]
  | inr other ↦ inr (λ s. other s.0)
]

abbrev pub Closes : List (List Point) → Type 0
Closes paths = (0 < length paths) × ((begin : Point) × AreJoined (Some begin) paths (Some begin))

closes_from : (path : List Point) (paths : List (List Point)) (o : Option Point) → first_of path ≡ o → Decided (Closes (path ∷ paths))
closes_from path paths None is = inr (λ s. (let never : None ≡ Some s.1.0 = sym is ∙ s.1.1.0 in cc))
closes_from path paths (Some begin) is = elim (joined_or (Some begin) (path ∷ paths) (Some begin)) as (λ _. Decided (Closes (path ∷ paths))) [
  | inl joined ↦ inl (omega arith, (begin, joined))
  | inr other ↦ inr (λ s. (let same : s.1.0 ≡ begin = some_same s.1.0 begin (sym s.1.1.0 ∙ is) in other (subst (λ (p : Point). AreJoined (Some p) (path ∷ paths) (Some p)) same s.1.1)))
]

closes_or : (paths : List (List Point)) → Decided (Closes paths)
closes_or [] = inr (λ s. (let some = s.0 in omega arith))
closes_or (path ∷ paths) = closes_from path paths (first_of path) refl

-- ---- rings

-- the paths that the indexes of a ring tell, which join and close
pub record RingParts (arcs : List (List Point)) (texts : List (List ℕ)) (ring : List Point) : Type 0 where
  pub paths : List (List Point)
  pub told : AllZip (TellsPath arcs) texts paths
  pub closes : Closes paths
  pub ring_is : ring ≡ points_along paths

pub zip_mapped : {X Y Z : Type 0} (R : Y → Z → Type 0) (f : X → Y) (xs : List X) (zs : List Z) → AllZip (λ x z. R (f x) z) xs zs → AllZip R (map f xs) zs
zip_mapped R f [] [] s = tt
zip_mapped R f [] (z ∷ zs) s = s
zip_mapped R f (x ∷ xs) [] s = s
zip_mapped R f (x ∷ xs) (z ∷ zs) s = (s.0, zip_mapped R f xs zs s.1)

pub zip_unmapped : {X Y Z : Type 0} (R : Y → Z → Type 0) (f : X → Y) (xs : List X) (zs : List Z) → AllZip R (map f xs) zs → AllZip (λ x z. R (f x) z) xs zs
zip_unmapped R f [] [] s = tt
zip_unmapped R f [] (z ∷ zs) s = s
zip_unmapped R f (x ∷ xs) [] s = s
zip_unmapped R f (x ∷ xs) (z ∷ zs) s = (s.0, zip_unmapped R f xs zs s.1)

zip_some : {X Y : Type 0} (R : X → Y → Type 0) (xs : List X) (ys : List Y) → AllZip R xs ys → 0 < length ys → 0 < length xs
zip_some R [] [] s some = some
zip_some R [] (y ∷ ys) s some = absurd s
zip_some R (x ∷ xs) ys s some = omega arith

pub ring_of_parts : (arcs : List (List Point)) (texts : List (List ℕ)) (ring : List Point) → RingParts arcs texts ring → SpellsRing arcs (ring_tree texts) ring
ring_of_parts arcs texts ring s =
    let told = zip_mapped (SpellsPath arcs) Number texts s.paths s.told in
    record {
      indexes = map Number texts;
      paths = s.paths;
      begin = s.closes.1.0;
      list = refl;
      some = zip_some (SpellsPath arcs) (map Number texts) s.paths told s.closes.0;
      told = told;
      closed = s.closes.1.1;
      ring_is = s.ring_is;
    }

zip_some_back : {X Y : Type 0} (R : X → Y → Type 0) (xs : List X) (ys : List Y) → AllZip R xs ys → 0 < length xs → 0 < length ys
zip_some_back R [] [] s some = some
zip_some_back R [] (y ∷ ys) s some = absurd s
zip_some_back R (x ∷ xs) [] s some = absurd s
zip_some_back R (x ∷ xs) (y ∷ ys) s some = omega arith

pub parts_of_ring : (arcs : List (List Point)) (texts : List (List ℕ)) (ring : List Point) → SpellsRing arcs (ring_tree texts) ring → RingParts arcs texts ring
parts_of_ring arcs texts ring s =
    let same : s.indexes ≡ map Number texts = array_same s.indexes (map Number texts) (sym s.list) in
    let told = subst (λ (trees : List Json). AllZip (SpellsPath arcs) trees s.paths) same s.told in
    record {
      paths = s.paths;
      told = zip_unmapped (SpellsPath arcs) Number texts s.paths told;
      closes = (zip_some_back (SpellsPath arcs) s.indexes s.paths s.told s.some, (s.begin, s.closed));
      ring_is = s.ring_is;
    }

one_told_text : (arcs : List (List Point)) (text : List ℕ) (a b : List Point) → TellsPath arcs text a → TellsPath arcs text b → a ≡ b
one_told_text arcs text a b s t = one_told arcs (Number text) a b s t

-- indexes tell one list of paths at most
pub one_paths : (arcs : List (List Point)) (texts : List (List ℕ)) (a b : List (List Point)) → AllZip (TellsPath arcs) texts a → AllZip (TellsPath arcs) texts b → a ≡ b
one_paths arcs texts a b s t = zip_one (TellsPath arcs) (one_told_text arcs) texts a b s t

abbrev RingOr : List (List Point) → List (List ℕ) → Type 0
RingOr arcs texts = Decided ((ring : List Point) × SpellsRing arcs (ring_tree texts) ring)

-- the arcs of a ring join and close or do not
pub ring_closed_or : (arcs : List (List Point)) (texts : List (List ℕ)) → RingOr arcs texts
ring_closed_or arcs texts = elim (partners_or (TellsPath arcs) (index_or arcs) texts) as (λ _. RingOr arcs texts) [
  | inl told ↦ elim (closes_or told.0) as (λ _. RingOr arcs texts) [
    | inl closes ↦ inl (points_along told.0, ring_of_parts arcs texts (points_along told.0) (record { paths = told.0; told = told.1; closes = closes; ring_is = refl }))
    | inr other ↦ inr (λ s. (let parts = parts_of_ring arcs texts s.0 s.1 in other (subst Closes (one_paths arcs texts parts.paths told.0 parts.told told.1) parts.closes)))
  ]
  | inr none ↦ inr (λ s. (let parts = parts_of_ring arcs texts s.0 s.1 in none (parts.paths, parts.told)))
]

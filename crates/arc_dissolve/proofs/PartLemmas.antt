-- Lists in parts.
use Rattle.std.proofs.Common.{◌≡◌, inl, inr, ℕ, zero, suc, ◌+◌, ◌-◌, ◌<◌, ◌≤◌, refl, sym, ◌∙◌, ap, subst, arith, ℤ, List, [], ◌∷◌, ◌++◌, length, get_or, slice_index, take, drop, map, sum, Vec}
use Rattle.std.specs.List.{AllZip}
use Rattle.std.specs.declared.alloc.Global.{Global}
use Rattle.std.proofs.lemmas.List.{drop-drop, take-map, drop-map, get_or_append_left, get_or_push, length_push, length-drop}
use Rattle.std.proofs.lemmas.List.Sums.{sum_by-cons, sum_by_more, sum_by_more_le}
use Rattle.plane_edge.specs.declared.point.Point.{Point}
use Rattle.arc_dissolve.specs.Drawing.{one_list}
use Rattle.arc_dissolve.specs.Parts.{parts, IsShapeOfRings, AreShapesOfParts}
use Rattle.arc_dissolve.specs.Shapes.{Shape}
use Rattle.agg_base.specs.Lists.{lists_of}
use Rattle.arc_dissolve.proofs.ShellLemmas.{below_next}

-- the part of that number
pub part_at : {X : Type 0} (counts : List ℕ) (xs : List X) (r : ℕ) → r < length counts → get_or (parts counts xs) r [] ≡ take (slice_index counts r) (drop (sum (take r counts)) xs)
part_at [] xs r h = absurd (omega arith)
part_at (n ∷ ns) xs zero h = refl
part_at (n ∷ ns) xs (suc r) h =
    part_at ns (drop n xs) r (omega arith) ∙ ap (λ l. take (slice_index ns r) l) (drop-drop (sum (take r ns)) n xs ∙ ap (λ k. drop k xs) (sym (sum_by-cons (λ x. x) n (take r ns))))

-- the part that a loop takes off, and what it leaves
pub own_part : (counts : List ℕ) (rings own left : List (Vec ℤ Global)) (r : ℕ) → r < length counts → left ≡ drop (sum (take r counts)) rings → own ≡ take (slice_index counts r) left → lists_of own ≡ get_or (parts counts (lists_of rings)) r []
own_part counts rings own left r h l o =
    let n = sum (take r counts) in
    let k = slice_index counts r in
    let mapped : lists_of (take k (drop n rings)) ≡ take k (drop n (lists_of rings)) = sym (take-map (λ v. v.items) k (drop n rings)) ∙ ap (λ x. take k x) (sym (drop-map (λ v. v.items) n rings)) in
    ap lists_of (o ∙ ap (λ x. take k x) l) ∙ (mapped ∙ sym (part_at counts (lists_of rings) r h))

pub left_part : {X : Type 0} (counts : List ℕ) (rings left others : List X) (r : ℕ) → r < length counts → left ≡ drop (sum (take r counts)) rings → others ≡ drop (slice_index counts r) left → others ≡ drop (sum (take (r + 1) counts)) rings
left_part counts rings left others r h l o =
    o ∙ (ap (λ x. drop (slice_index counts r) x) l ∙ (drop-drop (slice_index counts r) (sum (take r counts)) rings ∙ ap (λ k. drop k rings) (sym (sum_by_more (λ x. x) counts r 0 h))))

pub part_within : {X : Type 0} (counts : List ℕ) (rings left : List X) (r : ℕ) → r < length counts → sum counts ≤ length rings → left ≡ drop (sum (take r counts)) rings → slice_index counts r ≤ length left
part_within counts rings left r h s l =
    let more : sum (take r counts) + slice_index counts r ≤ sum counts = sum_by_more_le (λ x. x) counts r 0 h in
    let long : length left ≡ length rings - sum (take r counts) = ap length l ∙ length-drop (sum (take r counts)) rings in
    omega (arith, more, long, s)

pub shape_more : (arcs : List (List Point)) (groups : List (List (List ℤ))) (classes : List ℕ) (names : List (List ℕ)) (n : ℕ) (rings : List (List ℤ)) (name : List ℕ) (shape : Shape) (old new : List Shape) → AreShapesOfParts arcs groups classes names n old → rings ≡ get_or groups n [] → name ≡ get_or names (slice_index classes n) [] → IsShapeOfRings arcs rings name shape → new ≡ old ++ shape ∷ [] → AreShapesOfParts arcs groups classes names (n + 1) new
shape_more arcs groups classes names n rings name shape old new are r m is w =
    subst (λ l. AreShapesOfParts arcs groups classes names (n + 1) l) (sym w) (record {
      count = length_push old shape ∙ ap (λ k. k + 1) are.count;
      each = λ k f h. elim (below_next k n h) [
        | inl l ↦ subst (λ z. IsShapeOfRings arcs (get_or groups k []) (get_or names (slice_index classes k) []) z) (sym (get_or_append_left old (shape ∷ []) f k (omega (arith, are.count)))) (are.each k f l)
        | inr e ↦
            let here = subst (λ l. IsShapeOfRings arcs l (get_or names (slice_index classes n) []) shape) r (subst (λ l. IsShapeOfRings arcs rings l shape) m is) in
            let at = subst (λ z. IsShapeOfRings arcs (get_or groups n []) (get_or names (slice_index classes n) []) z) (sym (get_or_push old shape f n are.count)) here in
            subst (λ j. IsShapeOfRings arcs (get_or groups j []) (get_or names (slice_index classes j) []) (get_or (old ++ shape ∷ []) j f)) (sym e) at
      ];
    })

-- two lists side by side, the first in two parts
zip_parted : {A B : Type 0} (R : A → B → Type 0) (xs ys : List A) (zs : List B) → AllZip R (xs ++ ys) zs → AllZip R xs (take (length xs) zs) × AllZip R ys (drop (length xs) zs)
zip_parted R [] ys zs z = (tt, z)
zip_parted R (x ∷ xs) ys [] z = absurd z
zip_parted R (x ∷ xs) ys (b ∷ zs) z =
    let rest = zip_parted R xs ys zs z.1 in
    ((z.0, rest.0), rest.1)

pub zip_parts : {A B : Type 0} (R : A → B → Type 0) (groups : List (List A)) (zs : List B) → AllZip R (one_list groups) zs → AllZip (λ g part. AllZip R g part) groups (parts (map (λ g. length g) groups) zs)
zip_parts R [] zs z = tt
zip_parts R (g ∷ gs) zs z =
    let two = zip_parted R g (one_list gs) zs z in
    (two.0, zip_parts R gs (drop (length g) zs) two.1)

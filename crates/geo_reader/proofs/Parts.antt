-- Lists of features, feature by feature.
use Rattle.std.proofs.Common.{◌≡◌, ◌∙◌, refl, sym, ap, ap₂, subst, ℕ, ◌+◌, ◌≤◌, true, not, List, [], ◌∷◌, ◌++◌, length, get_or, arith, append-nil, length-append}
use Rattle.std.specs.List.{AllByRecursion, AllZip, filter}
use Rattle.std.proofs.lemmas.List.Elements.{filter-append}
use Rattle.std.proofs.lemmas.List.Sums.{sum_by-append, sum_by-cons}
use Rattle.agg_base.specs.declared.limits.TheConstants.{AREAS, STEPS}
use Rattle.json_text.proofs.Cases.{by_cases_of}
use Rattle.json_text.specs.Tree.{Json}
use Rattle.plane_edge.specs.Rings.{Area, step_count}
use Rattle.geo_reader.specs.Features.{IsFeature, is_passed}
use Rattle.geo_reader.specs.Areas.{SpellsArea}
use Rattle.geo_reader.specs.Collections.{SpellAreas}
use Rattle.geo_reader.specs.Adds.{AddsArea, Keeps, passed_over, one_area_more}
use Rattle.geo_reader.proofs.OneArea.{with_rings_not_passed}

-- ---- lists

pub all_join : {X : Type 0} (P : X → Type 0) (xs ys : List X) → AllByRecursion P xs → AllByRecursion P ys → AllByRecursion P (xs ++ ys)
all_join P [] ys s t = t
all_join P (x ∷ xs) ys s t = (s.0, all_join P xs ys s.1 t)

all_parts : {X : Type 0} (P : X → Type 0) (xs ys : List X) → AllByRecursion P (xs ++ ys) → AllByRecursion P xs × AllByRecursion P ys
all_parts P [] ys s = (tt, s)
all_parts P (x ∷ xs) ys s = let rest = all_parts P xs ys s.1 in ((s.0, rest.0), rest.1)

pub zip_join : {X Y : Type 0} (R : X → Y → Type 0) (xs us : List X) (ys vs : List Y) → AllZip R xs ys → AllZip R us vs → AllZip R (xs ++ us) (ys ++ vs)
zip_join R [] us [] vs s t = t
zip_join R [] us (y ∷ ys) vs s t = absurd s
zip_join R (x ∷ xs) us [] vs s t = absurd s
zip_join R (x ∷ xs) us (y ∷ ys) vs s t = (s.0, zip_join R xs us ys vs s.1 t)

-- partners of two lists in a row, in two parts
record ZipParts {X Y : Type 0} (R : X → Y → Type 0) (xs us : List X) (zs : List Y) : Type 0 where
  pub front : List Y
  pub rest : List Y
  pub is : zs ≡ front ++ rest
  pub first : AllZip R xs front
  pub second : AllZip R us rest

zip_parts : {X Y : Type 0} (R : X → Y → Type 0) (xs us : List X) (zs : List Y) → AllZip R (xs ++ us) zs → ZipParts R xs us zs
zip_parts R [] us zs s = record { front = []; rest = zs; is = refl; first = tt; second = s }
zip_parts R (x ∷ xs) us [] s = absurd s
zip_parts R (x ∷ xs) us (z ∷ zs) s =
    let more = zip_parts R xs us zs s.1 in record { front = z ∷ more.front; rest = more.rest; is = ap (λ (ys : List _). z ∷ ys) more.is; first = (s.0, more.first); second = more.second }

-- ---- two ways to cut a list

abbrev tail_of : {X : Type 0} → List X → List X
tail_of [] = []
tail_of (x ∷ xs) = xs

-- two cuts of a list at an element are at one place, or one of them is in front of the other
pub data Cuts {X : Type 0} (xs ys : List X) (x y : X) : Type 0 where
  at_one_place : xs ≡ ys → x ≡ y → Cuts xs ys x y
  in_front : (more : List X) → ys ≡ xs ++ x ∷ more → Cuts xs ys x y
  behind : (more : List X) → xs ≡ ys ++ y ∷ more → Cuts xs ys x y

cut_more : {X : Type 0} (a b : X) (xs ys : List X) (x y : X) → a ≡ b → Cuts xs ys x y → Cuts (a ∷ xs) (b ∷ ys) x y
cut_more {X = X} a b xs ys x y same (at_one_place is one) = at_one_place (ap₂ (λ (c : X) (cs : List X). c ∷ cs) same is) one
cut_more {X = X} a b xs ys x y same (in_front more is) = in_front more (ap₂ (λ (c : X) (cs : List X). c ∷ cs) (sym same) is)
cut_more {X = X} a b xs ys x y same (behind more is) = behind more (ap₂ (λ (c : X) (cs : List X). c ∷ cs) same is)

pub compare_cuts : {X : Type 0} (xs ys : List X) (x y : X) (us vs : List X) → xs ++ x ∷ us ≡ ys ++ y ∷ vs → Cuts xs ys x y
compare_cuts [] [] x y us vs same = at_one_place refl (ap (λ (zs : List _). get_or zs 0 x) same)
compare_cuts [] (b ∷ ys) x y us vs same = in_front ys (ap (λ (c : _). c ∷ ys) (sym (ap (λ (zs : List _). get_or zs 0 x) same)))
compare_cuts (a ∷ xs) [] x y us vs same = behind xs (ap (λ (c : _). c ∷ xs) (ap (λ (zs : List _). get_or zs 0 a) same))
compare_cuts (a ∷ xs) (b ∷ ys) x y us vs same =
    cut_more a b xs ys x y (ap (λ (zs : List _). get_or zs 0 a) same) (compare_cuts xs ys x y us vs (ap tail_of same))

-- ---- features

abbrev pub kept : List Json → List Json
kept features = filter (λ feature. not (is_passed feature)) features

pub no_areas : (name : List ℕ) → SpellAreas name [] []
no_areas name = record { each = tt; areas_are = tt; few_areas = omega arith; few_steps = omega arith }

-- one more feature that is passed over
pub passed_more : (name : List ℕ) (features : List Json) (areas : List Area) (feature : Json) → SpellAreas name features areas → IsFeature feature → is_passed feature ≡ true → SpellAreas name (features ++ feature ∷ []) areas
passed_more name features areas feature s is passed =
    let none : kept (feature ∷ []) ≡ [] = rw passed refl in
    let same : kept (features ++ feature ∷ []) ≡ kept features = filter-append (λ feature. not (is_passed feature)) features (feature ∷ []) ∙ ap (λ (more : List Json). kept features ++ more) none ∙ append-nil (kept features) in
    record {
      each = all_join IsFeature features (feature ∷ []) s.each (is, tt);
      areas_are = subst (λ (trees : List Json). AllZip (SpellsArea name) trees areas) (sym same) s.areas_are;
      few_areas = s.few_areas;
      few_steps = s.few_steps;
    }

-- one more area
pub area_more : (name : List ℕ) (features : List Json) (areas : List Area) (feature : Json) (area : Area) → SpellAreas name features areas → AddsArea name (length areas) (step_count areas) feature area
    → SpellAreas name (features ++ feature ∷ []) (areas ++ area ∷ [])
area_more name features areas feature area s a =
    let not_passed = with_rings_not_passed feature a.spelled.positions a.spelled.geometry in
    let one : kept (feature ∷ []) ≡ feature ∷ [] = rw not_passed refl in
    let same : kept (features ++ feature ∷ []) ≡ kept features ++ feature ∷ [] = filter-append (λ feature. not (is_passed feature)) features (feature ∷ []) ∙ ap (λ (more : List Json). kept features ++ more) one in
    record {
      each = all_join IsFeature features (feature ∷ []) s.each (a.is, tt);
      areas_are = subst (λ (trees : List Json). AllZip (SpellsArea name) trees (areas ++ area ∷ [])) (sym same) (zip_join (SpellsArea name) (kept features) (feature ∷ []) areas (area ∷ []) s.areas_are (a.spelled, tt));
      few_areas = (let long = length-append areas (area ∷ []) in let few = a.few_areas in omega arith);
      few_steps = (let total = sum_by-append (λ (a : Area). length a.steps) areas (area ∷ []) in let few = a.few_steps in omega arith);
    }

-- the features before one of them spell the first areas, and that one is passed over or is the next
pub record SplitsAt (name : List ℕ) (before : List Json) (feature : Json) : Type 0 where
  pub areas : List Area
  pub spelled : SpellAreas name before areas
  pub keeps : Keeps name (length areas) (step_count areas) feature

split_passed : (name : List ℕ) (before after : List Json) (feature : Json) (areas : List Area) → IsFeature feature → is_passed feature ≡ true → AllByRecursion IsFeature before → ZipParts (SpellsArea name) (kept before) (kept (feature ∷ after)) areas
    → length areas ≤ AREAS → step_count areas ≤ STEPS → SplitsAt name before feature
split_passed name before after feature areas is passed each parts few_areas few_steps =
    let long : length areas ≡ length parts.front + length parts.rest = ap length parts.is ∙ length-append parts.front parts.rest in
    let total : step_count areas ≡ step_count parts.front + step_count parts.rest = ap step_count parts.is ∙ sum_by-append (λ (a : Area). length a.steps) parts.front parts.rest in
    record {
      areas = parts.front;
      spelled = record { each = each; areas_are = parts.first; few_areas = omega arith; few_steps = omega arith };
      keeps = passed_over is passed;
    }

split_area : (name : List ℕ) (before after : List Json) (feature : Json) (areas : List Area) → IsFeature feature → AllByRecursion IsFeature before → (front rest : List Area) → areas ≡ front ++ rest
    → AllZip (SpellsArea name) (kept before) front → AllZip (SpellsArea name) (feature ∷ kept after) rest → length areas ≤ AREAS → step_count areas ≤ STEPS → SplitsAt name before feature
split_area name before after feature areas is each front [] parts first second few_areas few_steps = absurd second
split_area name before after feature areas is each front (area ∷ rest) parts first second few_areas few_steps =
    let long : length areas ≡ length front + length (area ∷ rest) = ap length parts ∙ length-append front (area ∷ rest) in
    let total : step_count areas ≡ step_count front + step_count (area ∷ rest) = ap step_count parts ∙ sum_by-append (λ (a : Area). length a.steps) front (area ∷ rest) in
    let begin : step_count (area ∷ rest) ≡ length area.steps + step_count rest = sum_by-cons (λ (a : Area). length a.steps) area rest in
    record {
      areas = front;
      spelled = record { each = each; areas_are = first; few_areas = omega arith; few_steps = omega arith };
      keeps = one_area_more area (record { is = is; spelled = second.0; few_areas = omega arith; few_steps = omega arith });
    }

-- features that spell areas, cut at one of them
pub splits_at : (name : List ℕ) (before after : List Json) (feature : Json) (areas : List Area) → SpellAreas name (before ++ feature ∷ after) areas → SplitsAt name before feature
splits_at name before after feature areas s =
    let each = all_parts IsFeature before (feature ∷ after) s.each in
    let same = filter-append (λ feature. not (is_passed feature)) before (feature ∷ after) in
    let parts = zip_parts (SpellsArea name) (kept before) (kept (feature ∷ after)) areas (subst (λ (trees : List Json). AllZip (SpellsArea name) trees areas) same s.areas_are) in
    by_cases_of (is_passed feature) (SplitsAt name before feature)
    (λ passed. split_passed name before after feature areas each.1.0 passed each.0 parts s.few_areas s.few_steps)
    (λ there.
    let one : kept (feature ∷ after) ≡ feature ∷ kept after = rw there refl in
    split_area name before after feature areas each.1.0 each.0 parts.front parts.rest parts.is parts.first (subst (λ (trees : List Json). AllZip (SpellsArea name) trees parts.rest) one parts.second) s.few_areas s.few_steps)

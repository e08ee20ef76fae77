-- Parts are told apart by their least areas.
use Rattle.std.proofs.Common.{◌≡◌, ℕ, ◌<◌, ◌≤◌, sym, subst, arith}
use Rattle.agg_model.specs.Problem.{Problem, areas}
use Rattle.agg_model.specs.Parts.{InOnePart, AreParts}
use Rattle.agg_model.proofs.PartLemmas.{part_itself, part_back, part_along}
use Rattle.greedy_start.specs.Starts.{PartsLaw}

pub part_at_most : (p : Problem) (part : ℕ → ℕ) → AreParts p part → (v : ℕ) → v < areas p → part v ≤ v
part_at_most p part ok v h = ok.least v v h h (part_itself p v)

-- joined areas have one number
pub one_number : (p : Problem) (part : ℕ → ℕ) → AreParts p part → (u v : ℕ) → u < areas p → v < areas p → InOnePart p u v → part u ≡ part v
one_number p part ok u v hu hv way =
    let du : part u ≤ u = part_at_most p part ok u hu in
    let dv : part v ≤ v = part_at_most p part ok v hv in
    let low : part u ≤ part v = ok.least (part v) u (omega arith) hu (part_along p u v (part v) way (ok.joined v hv)) in
    let high : part v ≤ part u = ok.least (part u) v (omega arith) hv (part_along p v u (part u) (part_back p u v way) (ok.joined u hu)) in
    omega arith

-- areas of one number are joined
pub one_way : (p : Problem) (part : ℕ → ℕ) → AreParts p part → (u v : ℕ) → u < areas p → v < areas p → part u ≡ part v → InOnePart p u v
one_way p part ok u v hu hv e =
    let back : InOnePart p (part v) v = part_back p v (part v) (ok.joined v hv) in
    let there : InOnePart p (part u) v = subst (λ (w : ℕ). InOnePart p w v) (sym e) back in
    part_along p u (part u) v (ok.joined u hu) there

-- the least area of a part has its own number
pub part_twice : (p : Problem) (part : ℕ → ℕ) → AreParts p part → (v : ℕ) → v < areas p → part (part v) ≡ part v
part_twice p part ok v h =
    let d : part v ≤ v = part_at_most p part ok v h in
    sym (one_number p part ok v (part v) h (omega arith) (ok.joined v h))

pub parts_law : PartsLaw
parts_law p f g first second v h =
    let df : f v ≤ v = part_at_most p f first v h in
    let dg : g v ≤ v = part_at_most p g second v h in
    let low : f v ≤ g v = first.least (g v) v (omega arith) h (second.joined v h) in
    let high : g v ≤ f v = second.least (f v) v (omega arith) h (first.joined v h) in
    omega arith

use Rattle.std.proofs.Common.{◌≡◌, ℕ, ◌+◌, ◌∷◌, subst, inr, arith}
use Rattle.std.specs.List.{Contains}
use Rattle.grid_reader.specs.Walks.{IsBelow, HaveOneValue}
use Rattle.grid_reader.proofs.PatchLemmas.{under_pair, under_more}
use Rattle.grid_reader.proofs.patches.join_upper.Goals as goal

pub returns-then-have_one_value-clause-joined : goal.returns-then-have_one_value-clause-joined
returns-then-have_one_value-clause-joined c =
    let g = c.args.grid.now in
    let at = c.args.at in
    let up = c.in-Some.upper in
    let joined = c.requires.joined in
    let next : at ≡ up + g.columns = c.in-Some.ensures.some in
    let one : HaveOneValue g up at = c.have_one_value.ensures.0 c.if-have_one_value.true in
    ((up, at) ∷ joined.0, under_pair g up (at + 1) at joined.0 (inr next, one) next joined.1, c.join.ensures.sets joined.0 joined.2)

pub returns-else-have_one_value-clause-joined : goal.returns-else-have_one_value-clause-joined
returns-else-have_one_value-clause-joined c =
    let g = c.args.grid.now in
    let at = c.args.at in
    let joined = c.requires.joined in
    let next : at ≡ c.in-Some.upper + g.columns = c.in-Some.ensures.some in
    let apart : (i : ℕ) → IsBelow g i at → HaveOneValue g i at → Contains joined.0 (i, at) =
    λ i below one.
    let up : i ≡ c.in-Some.upper = omega (arith, below) in
    let is = c.have_one_value.ensures.1 (subst (λ (m : ℕ). HaveOneValue g m at) up one) in
    cc in
    (joined.0, under_more g (at + 1) at joined.0 joined.1 apart, joined.2)

pub returns-in_default-clause-joined : goal.returns-in_default-clause-joined
returns-in_default-clause-joined c =
    let joined = c.requires.joined in
    (joined.0, under_more c.args.grid.now (c.args.at + 1) c.args.at joined.0 joined.1 (λ i below one. absurd (c.in_default.ensures.none i below)), joined.2)

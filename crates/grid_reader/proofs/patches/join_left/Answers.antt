use Rattle.std.proofs.Common.{◌≡◌, ℕ, ◌∷◌, subst, inl, arith}
use Rattle.std.specs.List.{Contains}
use Rattle.grid_reader.specs.Walks.{HaveOneValue, IsRightOf}
use Rattle.grid_reader.proofs.PatchLemmas.{right_pair, right_more}
use Rattle.grid_reader.proofs.patches.join_left.Goals as goal

pub returns-then-have_one_value-clause-joined : goal.returns-then-have_one_value-clause-joined
returns-then-have_one_value-clause-joined c =
    let g = c.args.grid.now in
    let at = c.args.at in
    let left = c.in-Some.left in
    let joined = c.requires.joined in
    let next : IsRightOf g left at = c.in-Some.ensures.some in
    let one : HaveOneValue g left at = c.have_one_value.ensures.0 c.if-have_one_value.true in
    ((left, at) ∷ joined.0, right_pair g left at at joined.0 (inl next, one) next.0 joined.1, c.join.ensures.sets joined.0 joined.2)

pub returns-else-have_one_value-clause-joined : goal.returns-else-have_one_value-clause-joined
returns-else-have_one_value-clause-joined c =
    let g = c.args.grid.now in
    let at = c.args.at in
    let joined = c.requires.joined in
    let next : IsRightOf g c.in-Some.left at = c.in-Some.ensures.some in
    let apart : (i : ℕ) → IsRightOf g i at → HaveOneValue g i at → Contains joined.0 (i, at) =
    λ i right one.
    let left : i ≡ c.in-Some.left = omega (arith, right.0, next.0) in
    let is = c.have_one_value.ensures.1 (subst (λ (m : ℕ). HaveOneValue g m at) left one) in
    cc in
    (joined.0, right_more g at at joined.0 joined.1 apart, joined.2)

pub returns-in_default-clause-joined : goal.returns-in_default-clause-joined
returns-in_default-clause-joined c =
    let joined = c.requires.joined in
    (joined.0, right_more c.args.grid.now c.args.at c.args.at joined.0 joined.1 (λ i right one. absurd (c.in_default.ensures.none i right)), joined.2)

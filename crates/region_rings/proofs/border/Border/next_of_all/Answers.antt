use Rattle.std.proofs.Common.{◌≡◌, ◌+◌, ◌<◌, ◌∙◌, sym, subst, arith, length, ℕ, Option, Bool, true, IfSome, IfNone}
use Rattle.region_rings.proofs.ChoiceLemmas.{same_by_test, other_by_test, spoke_ends, searched_taken, searched_walked, searched_better, past_all, past_others, searched_all, IsSearched}
use Rattle.region_rings.proofs.RankLemmas.{IsRanked, ranked_taken, ranked_kept, ranked_walked, taken_first}
use Rattle.region_rings.specs.declared.way.Way.{Way}
use Rattle.region_rings.specs.Turning.{parts_of}
use Rattle.region_rings.specs.Ways.{way_at, is_taken_before}
use Rattle.region_rings.proofs.border.Border.next_of_all.Goals as goal
use Rattle.region_rings.proofs.border.Border.next_of_all.Goals.{then-not-is_walked+then-is_better, else-not-is_walked, else-not-is_walked-via-then-not-is_walked+else-is_better, else-not-is_walked-via-else-not-is_walked}

pub is_walked-requires : goal.is_walked-requires
is_walked-requires c =
    let s = c.index.result.now in
    let end = spoke_ends c.args.self.now.edges.now c.args.self.now.spokes.items c.loop-place.place s c.args.at.now c.requires.spokes (omega (arith, c.loop-place-test.true, c.len-place-end.ensures)) c.index.ensures (same_by_test s.at c.args.at.now c.ne.result c.ne.ensures c.if-ne.false) in
    omega (arith, end.within, c.requires.marks)

pub returns-then-ne-clause-none : goal.returns-then-ne-clause-none
returns-then-ne-clause-none c =
    let edges = c.args.self.now.edges.now in
    let spokes = c.args.self.now.spokes.items in
    let s = c.index.result.now in
    let other = other_by_test s.at c.args.at.now c.ne.result c.ne.ensures c.if-ne.true in
    let past = past_others edges spokes c.args.at.now c.args.number c.loop-place.place s c.requires.spokes c.requires.number (omega arith) (omega (arith, c.loop-place-test.true, c.len-place-end.ensures)) c.index.ensures other in
    searched_all edges spokes c.args.walk.now c.args.at.now c.args.number c.loop-place.place c.loop-place.best c.requires.spokes c.requires.number past c.loop-place.invariant.searched

pub returns-clause-none : goal.returns-clause-none
returns-clause-none c =
    let edges = c.args.self.now.edges.now in
    let spokes = c.args.self.now.spokes.items in
    searched_all edges spokes c.args.walk.now c.args.at.now c.args.number c.loop-place.place c.loop-place.best c.requires.spokes c.requires.number (past_all spokes c.args.at.now c.loop-place.place (omega (arith, c.loop-place-test.false, c.len-place-end.ensures))) c.loop-place.invariant.searched

pub returns-then-ne-clause-first : goal.returns-then-ne-clause-first
returns-then-ne-clause-first c =
    let edges = c.args.self.now.edges.now in
    let spokes = c.args.self.now.spokes.items in
    let s = c.index.result.now in
    let other = other_by_test s.at c.args.at.now c.ne.result c.ne.ensures c.if-ne.true in
    let past = past_others edges spokes c.args.at.now c.args.number c.loop-place.place s c.requires.spokes c.requires.number (omega arith) (omega (arith, c.loop-place-test.true, c.len-place-end.ensures)) c.index.ensures other in
    taken_first edges spokes c.args.self.now.leftward.items c.args.walk.now c.args.at.now c.args.back.now (parts_of c.heading-way_back.result) c.args.number c.loop-place.place c.loop-place.best c.requires.spokes c.requires.number past c.heading-way_back.ensures c.loop-place.invariant.ranked

pub returns-clause-first : goal.returns-clause-first
returns-clause-first c =
    let edges = c.args.self.now.edges.now in
    let spokes = c.args.self.now.spokes.items in
    let past = past_all spokes c.args.at.now c.loop-place.place (omega (arith, c.loop-place-test.false, c.len-place-end.ensures)) in
    taken_first edges spokes c.args.self.now.leftward.items c.args.walk.now c.args.at.now c.args.back.now (parts_of c.heading-way_back.result) c.args.number c.loop-place.place c.loop-place.best c.requires.spokes c.requires.number past c.heading-way_back.ensures c.loop-place.invariant.ranked

pub loop-place-preserved : goal.loop-place-preserved
loop-place-preserved c =
    let edges = c.args.self.now.edges.now in
    let spokes = c.args.self.now.spokes.items in
    let leftward = c.args.self.now.leftward.items in
    let walk = c.args.walk.now in
    let at = c.args.at.now in
    let back = parts_of c.heading-way_back.result in
    let first = c.args.number in
    let place = c.loop-place.place in
    let best = c.loop-place.best in
    let searched = c.loop-place.invariant.searched in
    let ranked = c.loop-place.invariant.ranked in
    let s = c.index.result.now in
    let within : place < length spokes = omega (arith, c.loop-place-test.true, c.len-place-end.ensures) in
    let here : s.at ≡ at = same_by_test s.at at c.ne.result c.ne.ensures c.if-ne.false in
    let P : Option ℕ → Type 0 = λ b. IsSearched edges spokes walk at first (place + 1) b in
    let R : Option ℕ → Type 0 = λ b. IsRanked edges spokes leftward walk at back first (place + 1) b in
    let before : Bool → Type 0 = λ b. IfSome best (λ i. (d : Way) → b ≡ is_taken_before at back (way_at edges leftward s.edge d) (way_at edges leftward i d)) in
    elim c.if-not-is_walked.branch [
      | then-not-is_walked+then-is_better w ↦ record {
        searched = subst P (sym w.best-is) (searched_taken edges spokes walk at first place s c.requires.spokes c.requires.marks within c.index.ensures here (sym c.is_walked.ensures ∙ w.if-not-is_walked.true));
        ranked = subst R (sym w.best-is) (ranked_taken edges spokes leftward walk at back first place s best within c.index.ensures searched (subst before w.if-is_better.true w.is_better.ensures.some) ranked);
      }
      | else-not-is_walked w ↦ elim w.else-not-is_walked.branch [
        | else-not-is_walked-via-then-not-is_walked+else-is_better w' ↦ record {
          searched = subst P (sym w.best-is) (searched_better edges spokes walk at first place best searched (subst (λ b. IfNone best (b ≡ true)) w'.if-is_better.false w'.is_better.ensures.none));
          ranked = subst R (sym w.best-is) (ranked_kept edges spokes leftward walk at back first place s best within c.index.ensures (subst before w'.if-is_better.false w'.is_better.ensures.some) ranked);
        }
        | else-not-is_walked-via-else-not-is_walked w' ↦ record {
          searched = subst P (sym w.best-is) (searched_walked edges spokes walk at first place s best c.requires.spokes c.requires.marks within c.index.ensures here (sym c.is_walked.ensures ∙ w'.if-not-is_walked.false) searched);
          ranked = subst R (sym w.best-is) (ranked_walked edges spokes leftward walk at back first place s best within c.index.ensures (sym c.is_walked.ensures ∙ w'.if-not-is_walked.false) ranked);
        }
      ]
    ]

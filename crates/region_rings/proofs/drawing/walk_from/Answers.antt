use Rattle.std.proofs.Common.{◌≡◌, ◌≢◌, ◌∙◌, ◌<◌, ap, subst, sym, arith, ℕ, true, length, get_or, Option, IfSome}
use Rattle.std.proofs.lemmas.List.{length-set, get_or_default}
use Rattle.plane_edge.specs.declared.edge.Edge.{Edge}
use Rattle.region_rings.specs.Walks.{Walk, IsOpenAt}
use Rattle.region_rings.specs.Ways.{other_end_of}
use Rattle.region_rings.proofs.DrawLemmas.{to_end, tail_end, with_spoke, marks_after, IsWalking, walking_begun, walking_on, walking_less, walking_done}
use Rattle.edge_sides.specs.Sides.{start_of}
use Rattle.edge_sides.specs.Laws.{AreBalanced}
use Rattle.region_rings.specs.LeftWalks.{IsLeftCourse}
use Rattle.region_rings.proofs.LeftLemmas.{left_begun, left_done, left_on, first_leads, goes_away}
use Rattle.region_rings.proofs.CourseLemmas.{along_edge}
use Rattle.plane_edge.specs.Line.{is_end_of}
use Rattle.region_rings.proofs.RestLemmas.{back_at_start}
use Rattle.region_rings.proofs.FoundLemmas.{links_stay, kept_by_step}
use Rattle.region_rings.proofs.drawing.walk_from.Goals as goal

pub number_of-requires-clause-here : goal.number_of-requires-clause-here
number_of-requires-clause-here c =
    let border = c.args.border.now in
    with_spoke border.edges.now border.spokes.items c.args.first c.tail-at.result c.requires.spokes
    (tail_end border.edges.now border.leftward.items c.args.first c.way.result c.tail-at.result c.requires.first c.way.ensures c.tail-at.ensures)

pub loop-next-init : goal.loop-next-init
loop-next-init c =
    let border = c.args.border.now in
    let end = tail_end border.edges.now border.leftward.items c.args.first c.way.result c.tail-at.result c.requires.first c.way.ensures c.tail-at.ensures in
    record {
      walking = walking_begun border.edges.now border.spokes.items c.args.walk.now c.begin.new.self c.tail-at.result c.number_of.result c.args.first c.requires.rest c.number_of.ensures end c.requires.left c.in_ok-begin.ensures;
      links = links_stay border.exits.items c.args.walk.now c.begin.new.self c.args.links.now.items (λ k h. ap (λ (v : Walk). get_or v.walked k true) c.in_ok-begin.ensures ∙ h) c.requires.links;
      course = λ b. subst (λ (v : Walk). IsLeftCourse border.edges.now v c.tail-at.result c.tail-at.result) (sym c.in_ok-begin.ensures) (left_begun border.edges.now c.args.walk.now c.tail-at.result c.number_of.result (c.requires.course b));
      away = λ b d. first_leads border.edges.now border.leftward.items c.args.first c.way.result c.tail-at.result (get_or border.edges.now c.args.first d) c.requires.directed c.requires.first c.way.ensures c.tail-at.ensures (get_or_default border.edges.now c.args.first d (get_or border.edges.now c.args.first d) c.requires.first);
    }

pub number_of-number-requires-clause-here : goal.number_of-number-requires-clause-here
number_of-number-requires-clause-here c =
    let border = c.args.border.now in
    let open' = subst (λ (n : Option ℕ). IfSome n (λ i. IsOpenAt border.edges.now c.loop-next.walk i c.loop-next.at)) c.in-Some.is c.loop-next.invariant.walking.some in
    with_spoke border.edges.now border.spokes.items c.in-Some.edge c.other_end-at.result c.requires.spokes
    (to_end border.edges.now c.loop-next.walk c.in-Some.edge c.index-border-edge.result c.loop-next.at c.other_end-at.result open' c.index-border-edge.is (c.other_end-at.ensures ∙ ap (λ (e : Edge). other_end_of e c.loop-next.at) (sym c.index-border-edge.is)))

pub next-next-requires-clause-marks : goal.next-next-requires-clause-marks
next-next-requires-clause-marks c =
    let w = c.loop-next.walk in
    ap (λ (v : Walk). length v.walked) c.in_ok-go.ensures
    ∙ (ap length (marks_after c.other_end-at.result c.number_of-number.result c.in-Some.edge w) ∙ (length-set w.walked c.in-Some.edge true ∙ c.loop-next.invariant.walking.under.marks))

pub next-next-requires-clause-links : goal.next-next-requires-clause-links
next-next-requires-clause-links c =
    let w = c.loop-next.walk in
    let open' = subst (λ (n : Option ℕ). IfSome n (λ i. IsOpenAt c.args.border.now.edges.now w i c.loop-next.at)) c.in-Some.is c.loop-next.invariant.walking.some in
    let less = open'.end.within in
    let marks = c.loop-next.invariant.walking.under.marks in
    let within : c.in-Some.edge < length w.walked = omega arith in
    links_stay c.args.border.now.exits.items w c.go.new.self c.loop-next.links.items (kept_by_step w c.go.new.self c.other_end-at.result c.number_of-number.result c.in-Some.edge within c.in_ok-go.ensures) c.loop-next.invariant.links

pub loop-next-smaller : goal.loop-next-smaller
loop-next-smaller c =
    let border = c.args.border.now in
    let open' = subst (λ (n : Option ℕ). IfSome n (λ i. IsOpenAt border.edges.now c.loop-next.walk i c.loop-next.at)) c.in-Some.is c.loop-next.invariant.walking.some in
    walking_less border.edges.now c.loop-next.walk c.go.new.self c.loop-next.at c.other_end-at.result c.number_of-number.result c.in-Some.edge c.index-border-edge.result open' c.in_ok-go.ensures

pub loop-next-preserved : goal.loop-next-preserved
loop-next-preserved c =
    let border = c.args.border.now in
    let start = c.tail-at.result in
    let now = subst (λ (n : Option ℕ). IsWalking border.edges.now border.spokes.items c.args.walk.now c.loop-next.walk start c.loop-next.at c.args.first n) c.in-Some.is c.loop-next.invariant.walking in
    let e = c.index-border-edge.result in
    let to : c.other_end-at.result ≡ other_end_of e c.loop-next.at = c.other_end-at.ensures ∙ ap (λ (g : Edge). other_end_of g c.loop-next.at) (sym c.index-border-edge.is) in
    let away : AreBalanced border.edges.now → (d : Edge) → start_of border.edges.now (get_or border.edges.now c.in-Some.edge d) ≡ c.loop-next.at = λ b. subst (λ (n : Option ℕ). IfSome n (λ i. (d : Edge) → start_of border.edges.now (get_or border.edges.now i d) ≡ c.loop-next.at)) c.in-Some.is (c.loop-next.invariant.away b) in
    let course : AreBalanced border.edges.now → IsLeftCourse border.edges.now c.go.new.self start c.other_end-at.result = λ b. subst (λ (v : Walk). IsLeftCourse border.edges.now v start c.other_end-at.result) (sym c.in_ok-go.ensures)
    (left_on border.edges.now c.loop-next.walk start c.loop-next.at c.other_end-at.result c.number_of-number.result c.in-Some.edge e (c.loop-next.invariant.course b) now.under.begun now.under.upto now.some c.index-border-edge.is
    (ap (λ (g : Edge). start_of border.edges.now g) c.index-border-edge.is ∙ away b e) to) in
    let marks : length c.go.new.self.walked ≡ length border.edges.now =
    ap (λ (v : Walk). length v.walked) c.in_ok-go.ensures ∙ (ap length (marks_after c.other_end-at.result c.number_of-number.result c.in-Some.edge c.loop-next.walk) ∙ (length-set c.loop-next.walk.walked c.in-Some.edge true ∙ now.under.marks)) in
    let goes = along_edge e c.loop-next.at (ap (λ (g : Edge). is_end_of g c.loop-next.at) c.index-border-edge.is ∙ now.some.end.end e) in
    let apart : c.other_end-at.result ≢ c.loop-next.at = λ q. goes.apart (sym q ∙ to) in
    record {
      walking = walking_on border.edges.now border.spokes.items c.args.walk.now c.loop-next.walk c.go.new.self start c.loop-next.at c.other_end-at.result c.args.first c.number_of-number.result c.in-Some.edge c.index-border-edge.result c.next-next.result
          c.requires.rising now c.index-border-edge.is (c.other_end-at.ensures ∙ ap (λ (e : Edge). other_end_of e c.loop-next.at) (sym c.index-border-edge.is)) c.number_of-number.ensures c.in_ok-go.ensures c.next-next.ensures.some c.next-next.ensures.none;
      links = c.next-next.ensures.links;
      course = course;
      away = λ b. goes_away border.edges.now border.leftward.items c.go.new.self start c.other_end-at.result c.loop-next.at c.next-next.result c.requires.directed marks (course b) apart c.next-next.ensures.some c.next-next.ensures.first;
    }

pub returns-clause-rest : goal.returns-clause-rest
returns-clause-rest c =
    let border = c.args.border.now in
    let now = subst (λ (n : Option ℕ). IsWalking border.edges.now border.spokes.items c.args.walk.now c.loop-next.walk c.tail-at.result c.loop-next.at c.args.first n) c.in_default.is c.loop-next.invariant.walking in
    walking_done border.edges.now border.spokes.items c.args.walk.now c.loop-next.walk c.tail-at.result c.loop-next.at c.args.first now

pub returns-clause-course : goal.returns-clause-course
returns-clause-course c b =
    let border = c.args.border.now in
    let now = subst (λ (n : Option ℕ). IsWalking border.edges.now border.spokes.items c.args.walk.now c.loop-next.walk c.tail-at.result c.loop-next.at c.args.first n) c.in_default.is c.loop-next.invariant.walking in
    left_done border.edges.now c.loop-next.walk c.tail-at.result c.loop-next.at (c.loop-next.invariant.course b) (back_at_start border.edges.now border.spokes.items c.loop-next.walk c.tail-at.result c.loop-next.at now.under now.none)

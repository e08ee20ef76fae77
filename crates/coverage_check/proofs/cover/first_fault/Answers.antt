use Rattle.std.proofs.Common.{sym, subst, List, Contains, Option, IfSome, IfNone}
use Rattle.plane_edge.specs.declared.edge.Edge.{Edge}
use Rattle.plane_strip.specs.Strip.{IsPlanar}
use Rattle.coverage_check.specs.declared.crossing.Crossing.{Crossing}
use Rattle.coverage_check.specs.declared.usage.Use.{Use}
use Rattle.coverage_check.specs.declared.overlap.Overlap.{Overlap}
use Rattle.coverage_check.specs.Cover.{IsFirstOverlap}
use Rattle.coverage_check.specs.Crossing.{IsFirstCrossing}
use Rattle.coverage_check.specs.Kept.{odds_of}
use Rattle.coverage_check.specs.Sharing.{IsShared, IsFirstShared}
use Rattle.coverage_check.specs.Uses.{AreEdgesOf, IsUsed}
use Rattle.coverage_check.proofs.CheckLemmas.{crossing_of, uncrossed_of, shared_of, planar_of}
use Rattle.coverage_check.proofs.cover.first_fault.Goals as goal

pub returns-in-Some-clause-fault : goal.returns-in-Some-clause-fault
returns-in-Some-clause-fault c =
    let us = c.in_ok-uses.uses.items in
    let es = c.in_ok-edges.edges.items in
    let l = subst (λ (ws : List Use). AreEdgesOf ws es) c.deref.ensures.value c.in_ok-edges.ensures in
    let x = c.in-Some.crossing in
    let found = subst (λ (r : Option Crossing). IfSome r (λ d. IsFirstCrossing (Contains c.deref-2.result.now) d.e d.f d.spot)) c.in-Some.is c.in_ok-crossing.ensures.found in
    crossing_of (odds_of c.args.areas.now) us es x.e x.f x.spot c.in_ok-uses.ensures l (subst (λ (fs : List Edge). IsFirstCrossing (Contains fs) x.e x.f x.spot) c.deref-2.ensures.value found)

pub returns-in-Some-first_shared-clause-fault : goal.returns-in-Some-first_shared-clause-fault
returns-in-Some-first_shared-clause-fault c =
    let us = c.in_ok-uses.uses.items in
    let es = c.in_ok-edges.edges.items in
    let odds = odds_of c.args.areas.now in
    let l = subst (λ (ws : List Use). AreEdgesOf ws es) c.deref.ensures.value c.in_ok-edges.ensures in
    let planar = subst (λ (r : Option Crossing). IfNone r (IsPlanar c.deref-2.result.now)) c.in_default.is c.in_ok-crossing.ensures.none in
    let free = uncrossed_of odds us es c.in_ok-uses.ensures l (subst (λ (fs : List Edge). IsPlanar fs) c.deref-2.ensures.value planar) in
    let e = c.in-Some-first_shared.edge in
    (free, shared_of odds us e c.in_ok-uses.ensures (subst (λ (ws : List Use). IsFirstShared (IsUsed ws) e) c.deref-3.ensures.value c.in-Some-first_shared.ensures.found))

pub overlap_of-requires-clause-few : goal.overlap_of-requires-clause-few
overlap_of-requires-clause-few c =
    let none = subst (λ (ws : List Use). (e : Edge) → ¬ IsShared (IsUsed ws) e) c.deref-3.ensures.value c.in_default-first_shared.ensures.none in
    subst (λ (ws : List Use). (e : Edge) → ¬ IsShared (IsUsed ws) e) (sym c.deref-4.ensures.value) none

pub returns-in-Some-2-clause-fault : goal.returns-in-Some-2-clause-fault
returns-in-Some-2-clause-fault c =
    let us = c.in_ok-uses.uses.items in
    let es = c.in_ok-edges.edges.items in
    let odds = odds_of c.args.areas.now in
    let l = subst (λ (ws : List Use). AreEdgesOf ws es) c.deref.ensures.value c.in_ok-edges.ensures in
    let planar = subst (λ (r : Option Crossing). IfNone r (IsPlanar c.deref-2.result.now)) c.in_default.is c.in_ok-crossing.ensures.none in
    let free = uncrossed_of odds us es c.in_ok-uses.ensures l (subst (λ (fs : List Edge). IsPlanar fs) c.deref-2.ensures.value planar) in
    let none = subst (λ (ws : List Use). (e : Edge) → ¬ IsShared (IsUsed ws) e) c.deref-3.ensures.value c.in_default-first_shared.ensures.none in
    (planar_of odds us c.in_ok-uses.ensures free none, subst (λ (r : Option Overlap). IfSome r (λ o. IsFirstOverlap odds o.a o.b o.spot)) c.in-Some-2.is c.in_ok-overlap.ensures.found)

pub returns-clause-planar : goal.returns-clause-planar
returns-clause-planar c =
    let us = c.in_ok-uses.uses.items in
    let es = c.in_ok-edges.edges.items in
    let odds = odds_of c.args.areas.now in
    let l = subst (λ (ws : List Use). AreEdgesOf ws es) c.deref.ensures.value c.in_ok-edges.ensures in
    let planar = subst (λ (r : Option Crossing). IfNone r (IsPlanar c.deref-2.result.now)) c.in_default.is c.in_ok-crossing.ensures.none in
    let free = uncrossed_of odds us es c.in_ok-uses.ensures l (subst (λ (fs : List Edge). IsPlanar fs) c.deref-2.ensures.value planar) in
    let none = subst (λ (ws : List Use). (e : Edge) → ¬ IsShared (IsUsed ws) e) c.deref-3.ensures.value c.in_default-first_shared.ensures.none in
    planar_of odds us c.in_ok-uses.ensures free none

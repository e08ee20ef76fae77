use Rattle.std.proofs.lemmas.Option.{IfSome_then}
use Rattle.region_rings.specs.Turning.{aim, parts_of}
use Rattle.region_rings.proofs.RankLemmas.{leads_on}
use Rattle.region_rings.proofs.FoundLemmas.{found_open, found_leaves, first_after, first_round, none_leaves, none_then, not_below, split_there, split_not_below}
use Rattle.region_rings.proofs.border.Border.exit.Goals as goal
use Rattle.std.proofs.Common.{refl}

pub returns-in-Some-clause-some : goal.returns-in-Some-clause-some
returns-in-Some-clause-some c =
    let b = c.args.self.now in
    let edges = b.edges.now in
    let leftward = b.leftward.items in
    let exits = b.exits.items in
    let a = c.requires.exits in
    let w = c.args.walk.now in
    let at = c.args.at.now in
    found_open edges leftward exits a w at c.requires.sides c.requires.marks c.first_past-past.result c.in-Some.edge c.in-Some.ensures.some

pub returns-in-Some-clause-leaves : goal.returns-in-Some-clause-leaves
returns-in-Some-clause-leaves c =
    let b = c.args.self.now in
    let edges = b.edges.now in
    let leftward = b.leftward.items in
    let exits = b.exits.items in
    let a = c.requires.exits in
    let w = c.args.walk.now in
    let at = c.args.at.now in
    λ v. found_leaves edges leftward exits a w at c.requires.sides c.requires.marks c.first_past-past.result c.in-Some.edge c.in-Some.ensures.some v

pub returns-in-Some-clause-first : goal.returns-in-Some-clause-first
returns-in-Some-clause-first c =
    let b = c.args.self.now in
    let edges = b.edges.now in
    let leftward = b.leftward.items in
    let exits = b.exits.items in
    let a = c.requires.exits in
    let w = c.args.walk.now in
    let at = c.args.at.now in
    λ apart k v o. (
    let back = c.args.back.now in
    let u = aim at back in
    let n = leads_on at back apart in
    let past = c.first_past-past.result in
    let s = split_there edges leftward exits a w at u (parts_of c.heading-aim_back.result) past c.heading-aim_back.ensures n c.first_past-past.ensures.bound c.first_past-past.ensures.split in
    first_after edges leftward exits a w at c.requires.sides c.requires.marks u n past s past c.in-Some.edge c.in-Some.ensures.some v refl k o
    )

pub returns-in-None-clause-some : goal.returns-in-None-clause-some
returns-in-None-clause-some c =
    let b = c.args.self.now in
    let edges = b.edges.now in
    let leftward = b.leftward.items in
    let exits = b.exits.items in
    let a = c.requires.exits in
    let w = c.args.walk.now in
    let at = c.args.at.now in
    IfSome_then c.free_exit.result c.free_exit.ensures.some (λ i f. found_open edges leftward exits a w at c.requires.sides c.requires.marks c.first_exit-first.result i f)

pub returns-in-None-clause-leaves : goal.returns-in-None-clause-leaves
returns-in-None-clause-leaves c =
    let b = c.args.self.now in
    let edges = b.edges.now in
    let leftward = b.leftward.items in
    let exits = b.exits.items in
    let a = c.requires.exits in
    let w = c.args.walk.now in
    let at = c.args.at.now in
    IfSome_then c.free_exit.result c.free_exit.ensures.some (λ i f v. found_leaves edges leftward exits a w at c.requires.sides c.requires.marks c.first_exit-first.result i f v)

pub returns-in-None-clause-first : goal.returns-in-None-clause-first
returns-in-None-clause-first c =
    let b = c.args.self.now in
    let edges = b.edges.now in
    let leftward = b.leftward.items in
    let exits = b.exits.items in
    let a = c.requires.exits in
    let w = c.args.walk.now in
    let at = c.args.at.now in
    IfSome_then c.free_exit.result c.free_exit.ensures.some (λ i f apart k v o. (
    let back = c.args.back.now in
    let u = aim at back in
    let n = leads_on at back apart in
    let past = c.first_past-past.result in
    let s = split_there edges leftward exits a w at u (parts_of c.heading-aim_back.result) past c.heading-aim_back.ensures n c.first_past-past.ensures.bound c.first_past-past.ensures.split in
    first_round edges leftward exits a w at c.requires.sides c.requires.marks u n past s c.first_exit-first.result i f v (c.in-None.ensures.none (split_not_below edges leftward exits a w at u past s)) c.first_exit-first.ensures.split k o
    ))

pub returns-in-None-clause-none : goal.returns-in-None-clause-none
returns-in-None-clause-none c =
    let b = c.args.self.now in
    let edges = b.edges.now in
    let leftward = b.leftward.items in
    let exits = b.exits.items in
    let a = c.requires.exits in
    let w = c.args.walk.now in
    let at = c.args.at.now in
    none_then c.free_exit.result c.free_exit.ensures.none (λ h k v o. none_leaves edges leftward exits a w at c.requires.sides c.requires.marks c.first_exit-first.result c.first_exit-first.ensures.split c.first_exit-first.ensures.bound (h (not_below edges leftward exits a w at c.first_exit-first.result c.first_exit-first.ensures.split)) k v o)

use Rattle.std.proofs.Common.{rules, arith, ◌≡◌, ◌≤◌, length, refl}
use Rattle.std.proofs.lemmas.List.{drop_all}
use Rattle.generalise_core.proofs.draft.read_draft.Goals as goal

pub loop-at-init : goal.loop-at-init
loop-at-init c = record { within = omega arith; same = λ all. rw c.start-draft.ensures ((λ says. says), (λ says. says)) }

pub loop-at-smaller : goal.loop-at-smaller
loop-at-smaller c =
    let next = rw c.in-Some.is at c.in_ok-next.ensures.next in
    let far = next.0 in
    let within = next.1 in
    omega arith

pub loop-at-preserved : goal.loop-at-preserved
loop-at-preserved c =
    let next = rw c.in-Some.is at c.in_ok-next.ensures.next in
    let taken = rw c.in-Some.is at c.in_ok-next.ensures.taken in
    record {
      within = next.1;
      same = λ all. ((λ says. (c.loop-at.invariant.same all).0 ((taken all).0 says)), (λ says. (taken all).1 ((c.loop-at.invariant.same all).1 says)));
    }

pub returns-in-None-clause-none : goal.returns-in-None-clause-none
returns-in-None-clause-none c =
    let never = rw c.in-None.is at c.in_ok-next.ensures.none in
    λ all says. never all ((c.loop-at.invariant.same all).1 says)

pub returns-clause-found : goal.returns-clause-found
returns-clause-found c =
    let all_words : c.count.result ≡ length c.args.words.now = search rules in
    let over : length c.args.words.now ≤ c.loop-at.at = search rules in
    let none = drop_all c.loop-at.at c.args.words.now over in
    (c.loop-at.invariant.same c.loop-at.draft).0 (rw none refl)

use Rattle.std.proofs.Common.{ℕ, List, refl, sym, subst}
use Rattle.json_text.proofs.Cases.{false_true}
use Rattle.json_text.specs.Values.{json_of, pairs_of}
use Rattle.topo_reader.specs.Names.{BeginWith}
use Rattle.topo_reader.proofs.HeadLemmas.{other_names, only_some, only_none}
use Rattle.topo_reader.proofs.head.only.Goals as goal

pub returns-then-not-have_name-clause-none : goal.returns-then-not-have_name-clause-none
returns-then-not-have_name-clause-none c = λ tree.
    let begins = subst (λ (n : List ℕ). BeginWith (pairs_of c.in_ok-members.members.now) n) (sym c.as_str-name.ensures) c.in_ok-text.ensures.found in
    other_names (json_of c.args.objects.now) tree (pairs_of c.in_ok-members.members.now) c.as_str-name.result.now c.in_ok-members.ensures.found begins (λ all. false_true (c.if-not-have_name.ensures.1 all))

pub returns-clause-found : goal.returns-clause-found
returns-clause-found c =
    only_some c.member.result (json_of c.args.objects.now) (pairs_of c.in_ok-members.members.now) c.as_str-name.result.now c.in_ok-members.ensures.found (c.if-not-have_name.ensures.0 refl) c.member.ensures

pub returns-clause-none : goal.returns-clause-none
returns-clause-none c =
    let begins = subst (λ (n : List ℕ). BeginWith (pairs_of c.in_ok-members.members.now) n) (sym c.as_str-name.ensures) c.in_ok-text.ensures.found in
    only_none c.member.result (json_of c.args.objects.now) (pairs_of c.in_ok-members.members.now) c.as_str-name.result.now c.in_ok-members.ensures.found begins c.member.ensures

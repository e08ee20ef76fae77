use Rattle.std.proofs.Common.{◌≡◌, ◌+◌, ◌-◌, [], ◌∷◌, ◌++◌, take, Bool, true, false, cond, Some, sym, ap, ◌∙◌, arith}
use Rattle.std.proofs.lemmas.List.{take_more}
use Rattle.std.specs.Str.{bytes_eq}
use Rattle.json_text.specs.Tree.{last_of, members_of}
use Rattle.json_text.specs.Values.{json_of, pairs_of}
use Rattle.json_text.proofs.Members.{last_push}
use Rattle.json_text.proofs.tree.last_of.Goals as goal

pub returns-then-eq : goal.returns-then-eq
returns-then-eq c =
    let xs = c.args.members.now.items in
    let i = c.loop-left.left - 1 in
    let m = c.index-member.result.now in
    let name = c.args.name.now in
    let next : c.loop-left.left ≡ i + 1 = omega arith in
    let front : take c.loop-left.left xs ≡ take i xs ++ m ∷ [] = ap (λ k. take k xs) next ∙ take_more xs i m (omega arith) ∙ ap (λ y. take i xs ++ y ∷ []) (sym c.index-member.ensures) in
    let step = c.loop-left.invariant.0 ∙ ap (λ ys. last_of (members_of (pairs_of ys)) name) front ∙ last_push name (take i xs) m in
    let pick = λ (b : Bool). cond b (Some (json_of m.1)) (last_of (members_of (pairs_of (take i xs))) name) in
    let same : bytes_eq m.0 name ≡ true = grind arith in
    sym (step ∙ ap pick same)

pub loop-left-preserved : goal.loop-left-preserved
loop-left-preserved c =
    let xs = c.args.members.now.items in
    let i = c.loop-left.left - 1 in
    let m = c.index-member.result.now in
    let name = c.args.name.now in
    let next : c.loop-left.left ≡ i + 1 = omega arith in
    let front : take c.loop-left.left xs ≡ take i xs ++ m ∷ [] = ap (λ k. take k xs) next ∙ take_more xs i m (omega arith) ∙ ap (λ y. take i xs ++ y ∷ []) (sym c.index-member.ensures) in
    let step = c.loop-left.invariant.0 ∙ ap (λ ys. last_of (members_of (pairs_of ys)) name) front ∙ last_push name (take i xs) m in
    let pick = λ (b : Bool). cond b (Some (json_of m.1)) (last_of (members_of (pairs_of (take i xs))) name) in
    let other : bytes_eq m.0 name ≡ false = grind arith in
    (step ∙ ap pick other, omega arith)

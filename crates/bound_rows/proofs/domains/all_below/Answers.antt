use Rattle.std.proofs.Common.{◌≡◌, ◌-◌, ◌^◌, ◌≤◌, ap, ◌∙◌, arith}
use Rattle.std.proofs.lemmas.Nat.Bits.{ones_shr}
use Rattle.bound_rows.proofs.domains.all_below.Goals as goal

pub returns : goal.returns
returns c =
    let few = c.requires.few in
    let within : 64 - c.args.classes ≤ 64 = omega arith in
    let back : 64 - (64 - c.args.classes) ≡ c.args.classes = omega arith in
    ones_shr 64 (64 - c.args.classes) within ∙ ap (λ n. 2 ^ n - 1) back

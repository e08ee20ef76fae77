use Rattle.std.proofs.Common.{◌≡◌, ◌≤◌, arith, ap, subst, sym, vec_len, Vec, ℕ, Global, List, length}
use Rattle.agg_model.specs.Problem.{areas}
use Rattle.agg_model.specs.Tops.{AreHeads}
use Rattle.agg_model.proofs.tops.find_heads.Goals as goal

pub over-forest-requires : goal.over-forest-requires
over-forest-requires c =
    let few = c.areas.ensures.rules.few_areas in
    let room = c.requires.room in
    let same = ap (λ (v : Vec ℕ Global). vec_len v) c.replace.ensures.value in
    omega arith

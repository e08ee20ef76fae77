-- When the escape row of an area alone is in form.
use Rattle.std.proofs.Common.{◌≡◌, ◌≢◌, ℕ, ◌<◌, true, [], ◌∷◌, refl, ap, sym, ◌∙◌, arith, subst, ◌⊎◌, inl, inr}
use Rattle.std.specs.Prelude.{ℤ, pos, ◌<ℤ◌, slice_index}
use Rattle.std.specs.Prelude.{Bool, false, FitsSigned, IsTrue}
use Rattle.std.specs.Int.{w128}
use mir.Val.{to_z, of_z}
use lib.Signed.{lt_z}
use Rattle.std.proofs.lemmas.Int.{ints}
use Rattle.agg_model.specs.Problem.{Problem, IsRising, areas, own_of, weight_of, threshold_of}
use Rattle.row_laws.specs.Rows.{IsEscape, set_weight}
use Rattle.relax_bound.proofs.PushLemmas.{in_alone, alone_in}

alone_rises : (v : ℕ) → IsRising (v ∷ [])
alone_rises v = λ i j h q. absurd (omega arith)

alone_weight : (p : Problem) (v : ℕ) → set_weight p (v ∷ []) ≡ weight_of p v
alone_weight p v = omega (arith, ints)

pub alone_form : (p : Problem) (v k : ℕ) → v < areas p → k < p.classes → ((own_of p v ≢ k) ⊎ (weight_of p v <ℤ threshold_of p k)) → IsEscape p v k (v ∷ [])
alone_form p v k h q why = record {
  area = h;
  class = q;
  rising = alone_rises v;
  within = λ i r. (let is : i ≡ 0 = omega arith in subst (λ (x : ℕ). slice_index (v ∷ []) x < areas p) (sym is) h);
  holds = alone_in v v refl;
  short = elim why [
    | inl ne ↦ inl (λ u _ t own. ne (ap (own_of p) (in_alone v u t) ∙ own))
    | inr light ↦ (let weight = alone_weight p v in inr (omega (arith, ints)))
  ];
}

pub alone_light : (p : Problem) (v k : ℕ) → v < areas p → IsEscape p v k (v ∷ []) → own_of p v ≡ k → weight_of p v <ℤ threshold_of p k
alone_light p v k h form own =
    elim form.short [
      | inl none ↦ absurd (none v h (alone_in v v refl) own)
      | inr light ↦ (let weight = alone_weight p v in omega (arith, ints))
    ]

-- ---- tests

pub below_one : (x : ℤ) → FitsSigned w128 x → lt_z (to_z w128 (of_z w128 x)) (pos 1) ≡ true → x <ℤ pos 1
below_one x f h = grind (arith, ints)

pub not_true : {P : Type 0} (b : Bool) → b ≡ false → IsTrue b → P
not_true true e h = cc
not_true false e h = cc

-- The first tip of a fork is that of one of its sides.
use Rattle.std.proofs.Common.{◌≡◌, ℕ, ◌<◌, Bool, true, false, refl, ap, ◌∙◌, subst}
use Rattle.row_laws.specs.Values.{Allowed}
use Rattle.row_laws.specs.Trees.{only, without}
use Rattle.branch_bound.specs.declared.tips.Rank.{Rank}
use Rattle.branch_bound.specs.Tips.{is_before}
use Rattle.branch_bound.specs.Shapes.{Shape, Forked, forked, is_second, first_tip, first_allowed, grown, AreSplits}

-- what is known of the splits of a fork
pub record AtFork (n : ℕ) (f : Allowed) (v k : ℕ) (with rest : Shape) : Type 0 where
  pub area : v < n
  pub class : k < 64
  pub allowed : f v k ≡ true
  pub other : (j : ℕ) × (f v j ≡ true) × (j ≡ k → ⊥)
  pub first : AreSplits n with (only f v k)
  pub second : AreSplits n rest (without f v k)

pub at_fork : (n : ℕ) (s : Shape) (f : Allowed) (v k : ℕ) (r : Rank) (with rest : Shape) → s ≡ Forked v k r with rest → AreSplits n s f → AtFork n f v k with rest
at_fork n s f v k r with rest e are =
    let here : AreSplits n (Forked v k r with rest) f = subst (λ (x : Shape). AreSplits n x f) e are in
    record { area = here.0; class = here.1; allowed = here.2; other = here.3; first = here.4; second = here.5 }

-- what a comparison of two ranks says of the same ranks
pub turned : (x y u v : Rank) (b z : Bool) → b ≡ is_before x y → x ≡ u → y ≡ v → b ≡ z → is_before u v ≡ z
turned x y u v b z is e f t = cc

-- the first tip of the fork is that of its second side
pub record IsSecond (s : Shape) (v k : ℕ) (with rest : Shape) : Type 0 where
  pub tip : first_tip s ≡ first_tip rest
  pub allowed : (f : Allowed) → first_allowed s f ≡ first_allowed rest (without f v k)
  pub grown_is : (new : Shape) → grown s new ≡ forked v k with (grown rest new)

pub second_is : (s : Shape) (v k : ℕ) (r : Rank) (with rest : Shape) → s ≡ Forked v k r with rest → is_second with rest ≡ true → IsSecond s v k with rest
second_is s v k r with rest e t =
    record {
      tip = ap first_tip e ∙ rw t refl;
      allowed = λ f. ap (λ (x : Shape). first_allowed x f) e ∙ rw t refl;
      grown_is = λ new. ap (λ (x : Shape). grown x new) e ∙ rw t refl;
    }

-- the first tip of the fork is that of its first side
pub record IsFirst (s : Shape) (v k : ℕ) (with rest : Shape) : Type 0 where
  pub tip : first_tip s ≡ first_tip with
  pub allowed : (f : Allowed) → first_allowed s f ≡ first_allowed with (only f v k)
  pub grown_is : (new : Shape) → grown s new ≡ forked v k (grown with new) rest

pub first_is : (s : Shape) (v k : ℕ) (r : Rank) (with rest : Shape) → s ≡ Forked v k r with rest → is_second with rest ≡ false → IsFirst s v k with rest
first_is s v k r with rest e t =
    record {
      tip = ap first_tip e ∙ rw t refl;
      allowed = λ f. ap (λ (x : Shape). first_allowed x f) e ∙ rw t refl;
      grown_is = λ new. ap (λ (x : Shape). grown x new) e ∙ rw t refl;
    }

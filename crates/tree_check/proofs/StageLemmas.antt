-- Kinds of flaws, one after another.
use Rattle.std.proofs.Common.{◌≡◌, ℕ, ◌<◌, ◌⊎◌, inl, inr, refl, sym, ◌∙◌, ap, subst, arith, Option, Some, None}
use Rattle.std.specs.Prelude.{IfSome, IsSomeAnd}
use Rattle.std.proofs.lemmas.Bool.{cases_order}
use Rattle.tree_check.specs.First.{Then, IsLeastFailing}

-- such a flaw comes only where something does not hold; there is one at most; and it is not the value that says that nothing is wrong
pub record IsStage {V : Type 0} (out : V) (holds : Type 0) (flaw : V → Type 0) : Type 0 where
  pub never : holds → (v : V) → ¬ flaw v
  pub once : (v w : V) → flaw v → flaw w → v ≡ w
  pub real : ¬ flaw out

-- one kind after the other
pub stage_then : {V : Type 0} (out : V) (holds : Type 0) (flaw : V → Type 0) (more : Type 0) (rest : V → Type 0) → IsStage out holds flaw → IsStage out more rest → IsStage out (holds × more) (Then holds flaw rest)
stage_then {V} out holds flaw more rest a b = record {
  never = λ h v f. none h.0 h.1 v f;
  once = λ v w f g. one v w f g;
  real = λ f. true_flaw f;
}
  where
    none : holds → more → (v : V) → ¬ Then holds flaw rest v
    none h k v (inl f) = a.never h v f
    none h k v (inr f) = b.never k v f.1

    one : (v w : V) → Then holds flaw rest v → Then holds flaw rest w → v ≡ w
    one v w (inl f) (inl g) = a.once v w f g
    one v w (inl f) (inr g) = absurd (a.never g.0 v f)
    one v w (inr f) (inl g) = absurd (a.never f.0 w g)
    one v w (inr f) (inr g) = b.once v w f.1 g.1

    true_flaw : ¬ Then holds flaw rest out
    true_flaw (inl f) = a.real f
    true_flaw (inr f) = b.real f.1

-- what holds may be said in other words
pub stage_where : {V : Type 0} (out : V) (holds more : Type 0) (flaw : V → Type 0) → (more → holds) → IsStage out holds flaw → IsStage out more flaw
stage_where out holds more flaw words a =
    record { never = λ h v f. a.never (words h) v f; once = a.once; real = a.real }

-- ---- single kinds

-- one flaw, where something does not hold
pub stage_of : {V : Type 0} (out : V) (holds : Type 0) (flaw : V) → (flaw ≡ out → ⊥) → IsStage out holds (λ v. (¬ holds) × (v ≡ flaw))
stage_of out holds flaw apart = record {
  never = λ h v f. f.0 h;
  once = λ v w f g. f.1 ∙ sym g.1;
  real = λ f. apart (sym f.1);
}

-- the least number that fails
pub least_failing : (n : ℕ) (Holds : ℕ → Type 0) (a b : ℕ) → IsLeastFailing n Holds a → IsLeastFailing n Holds b → a ≡ b
least_failing n Holds a b f g =
    elim (cases_order a b) [
      | inl e ↦ e
      | inr o ↦
          elim o [
            | inl h ↦ absurd (f.fails (g.before a h))
            | inr h ↦ absurd (g.fails (f.before b h))
          ]
    ]

pub stage_least : {V : Type 0} (out : V) (n : ℕ) (Holds : ℕ → Type 0) (flaw : ℕ → V) → ((m : ℕ) → flaw m ≡ out → ⊥) → IsStage out ((m : ℕ) → m < n → Holds m) (λ v. (m : ℕ) × (v ≡ flaw m) × IsLeastFailing n Holds m)
stage_least out n Holds flaw apart = record {
  never = λ h v f. f.2.fails (h f.0 f.2.below);
  once = λ v w f g. f.1 ∙ (ap flaw (least_failing n Holds f.0 g.0 f.2 g.2) ∙ sym g.1);
  real = λ f. apart f.0 (sym f.1);
}

-- what is asked of a value, where there is one
pub stage_some : {V X : Type 0} (out : V) (o : Option X) (holds : X → Type 0) (flaw : X → V → Type 0) → ((x : X) → IsStage out (holds x) (flaw x)) → IsStage out (IfSome o holds) (λ v. IsSomeAnd o (λ x. flaw x v))
stage_some out None holds flaw each =
    record { never = λ h v f. f; once = λ v w f g. absurd f; real = λ f. f }
stage_some out (Some x) holds flaw each =
    record { never = (each x).never; once = (each x).once; real = (each x).real }

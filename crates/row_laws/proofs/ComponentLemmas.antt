-- A link that passes the test joins two areas of one label.
use Rattle.std.proofs.Common.{◌≡◌, ℕ, zero, suc, ◌<◌, ◌≢◌, Bool, true, refl, ap, sym, ◌∙◌, arith, subst, max}
use Rattle.std.specs.Prelude.{◌==◌}
use Rattle.std.proofs.lemmas.Bool.Decides.{nat_tests, Decides-eqb}
use Rattle.agg_model.specs.Problem.{Problem, low_of, high_of}
use Rattle.row_laws.specs.Components.{merge, label}
use Rattle.row_laws.proofs.Tests.{by_test, clash}

merge_both : (a b : ℕ) → merge a b a ≡ merge a b b
merge_both a b =
    by_test (a == max a b) _
    (λ e. by_test (b == max a b) _ (λ f. rw (e, f) refl) (λ f. rw (e, f) (grind (arith, nat_tests))))
    (λ e. by_test (b == max a b) _ (λ f. rw (e, f) (grind (arith, nat_tests))) (λ f. rw (e, f) (grind (arith, nat_tests))))

pub one_label : (p : Problem) (test : ℕ → Bool) (n l : ℕ) → l < n → test l ≡ true → label p test n (low_of p l) ≡ label p test n (high_of p l)
one_label p test zero l h t = absurd (omega arith)
one_label p test (suc n) l h t =
    by_test (l == n) _
    (λ s.
    let e : n ≡ l = sym ((Decides-eqb l n).0 s) in
    subst (λ (m : ℕ). label p test (suc m) (low_of p l) ≡ label p test (suc m) (high_of p l)) (sym e)
    (rw t (merge_both (label p test l (low_of p l)) (label p test l (high_of p l)))))
    (λ s.
    let ne : l ≢ n = λ q. clash (sym s ∙ (Decides-eqb l n).1 q) in
    let ih = one_label p test n l (omega arith) t in
    by_test (test n) _
    (λ e. rw e (ap (λ x. merge (label p test n (low_of p n)) (label p test n (high_of p n)) x) ih))
    (λ e. rw e ih))

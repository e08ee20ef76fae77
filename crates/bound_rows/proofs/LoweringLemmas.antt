-- One number less in the lists is one number less at its place.
use Rattle.std.proofs.Common.{◌≡◌, ℕ, ◌+◌, ◌*◌, ◌<◌, ◌≢◌, Bool, true, false, length, get_or, set, refl, ap, sym, ◌∙◌, arith, get_or-set_same, get_or-set_other, length-set, add-one}
use Rattle.std.specs.Prelude.{ℤ, pos, ◌-ℤ◌, ◌==◌, ◌&&◌}
use Rattle.std.proofs.lemmas.Bool.Decides.{Decides-eqb}
use Rattle.std.proofs.lemmas.Nat.{same_from_place, mul-add-lt}
use Rattle.agg_model.specs.Problem.{Problem, areas}
use Rattle.row_laws.specs.Rows.{Place, Choice, Across}
use Rattle.row_laws.proofs.Tests.{by_test, clash, and_both}
use Rattle.row_laws.specs.Values.{least_below, with_class}
use Rattle.row_laws.specs.Exact.{lower}
use Rattle.bound_rows.specs.Scratch.{Numbers, IsAt}

and_first : (a b : Bool) → a && b ≡ true → a ≡ true
and_first true b h = refl
and_first false b h = cc

and_second : (a b : Bool) → a && b ≡ true → b ≡ true
and_second true b h = h
and_second false b h = cc

pub choice_lowered : (p : Problem) (f : Place → ℤ) (s : Numbers) (v k : ℕ) (x y : ℤ) → k < p.classes → v < areas p → y ≡ f (Choice v k) -ℤ x → IsAt p f s → IsAt p (lower f (Choice v k) x) (record { choices = set s.choices (v * p.classes + k) y; links = s.links })
choice_lowered p f s v k x y hk hv e h = record {
  choice_count = length-set s.choices (v * p.classes + k) y ∙ h.choice_count;
  link_count = h.link_count;
  choices = λ u j hu hj.
      by_test (v == u && k == j) _
      (λ same.
      let eu : v ≡ u = (Decides-eqb v u).0 (and_first (v == u) (k == j) same) in
      let ej : k ≡ j = (Decides-eqb k j).0 (and_second (v == u) (k == j) same) in
      let place : u * p.classes + j ≡ v * p.classes + k = ap (λ i. i * p.classes + j) (sym eu) ∙ ap (λ i. v * p.classes + i) (sym ej) in
      let lt : v * p.classes + k < length s.choices = omega (arith, mul-add-lt v p.classes k (areas p) hv hk, h.choice_count) in
      rw same
      (ap (λ i. get_or (set s.choices (v * p.classes + k) y) i (pos 0)) place
      ∙ (rw get_or-set_same e
      ∙ (ap (λ i. f (Choice i k) -ℤ x) eu ∙ ap (λ i. f (Choice u i) -ℤ x) ej))))
      (λ other.
      let ne : u * p.classes + j ≢ v * p.classes + k = λ q.
      (let both = same_from_place u j v k p.classes hj hk q in
      clash (sym other ∙ and_both (v == u) (k == j) ((Decides-eqb v u).1 (sym both.0)) ((Decides-eqb k j).1 (sym both.1)))) in
      rw other (rw get_or-set_other (h.choices u j hu hj)));
  links = h.links;
}

pub link_lowered : (p : Problem) (f : Place → ℤ) (s : Numbers) (l : ℕ) (x y : ℤ) → l < length p.links → y ≡ f (Across l) -ℤ x → IsAt p f s → IsAt p (lower f (Across l) x) (record { choices = s.choices; links = set s.links l y })
link_lowered p f s l x y hl e h = record {
  choice_count = h.choice_count;
  link_count = length-set s.links l y ∙ h.link_count;
  choices = h.choices;
  links = λ m hm.
      by_test (l == m) _
      (λ same.
      let el : l ≡ m = (Decides-eqb l m).0 same in
      let lt : l < length s.links = omega (arith, h.link_count) in
      rw same
      (ap (λ i. get_or (set s.links l y) i (pos 0)) (sym el) ∙ (rw get_or-set_same e ∙ ap (λ i. f (Across i) -ℤ x) el)))
      (λ other.
      let ne : m ≢ l = λ q. clash (sym other ∙ (Decides-eqb l m).1 (sym q)) in
      rw other (rw get_or-set_other (h.links m hm)));
}

-- the next step of a loop
pub least_below-more : (ok : ℕ → Bool) (f : ℕ → ℤ) (n : ℕ) → least_below ok f (n + 1) ≡ with_class ok f n (least_below ok f n)
least_below-more ok f n = rw add-one refl

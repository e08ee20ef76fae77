-- Chains that have a step in common are one chain, or each is the other backwards.
use Rattle.std.proofs.Common.{◌≡◌, ◌≢◌, ◌⊎◌, inl, inr, ℕ, zero, suc, ◌+◌, ◌-◌, ◌<◌, ◌≤◌, refl, sym, ◌∙◌, ap, subst, arith, Bool, false, if◌then◌else◌, List, length, get_or, reverse}
use Rattle.std.proofs.lemmas.List.{ext_get_or, get_or-reverse, length-reverse}
use Rattle.plane_edge.specs.declared.point.Point.{Point}
use Rattle.plane_edge.specs.Order.{is_below}
use Rattle.plane_edge.specs.Rings.{in_order}
use Rattle.ring_arcs.specs.Chains.{IsChain}
use Rattle.ring_arcs.specs.Turning.{is_backward}
use Rattle.ring_arcs.proofs.Points.{true_not_false, point_case, is_same, not_same, same_or_not, ends_of_step}
use Rattle.ring_arcs.proofs.Points.PointCase.{below, same, above}

-- each way leads back too, and at most two ways leave a point that is no break
pub record AreWays (W : Point → Point → Type 0) (B : Point → Bool) : Type 0 where
  pub back : (p q : Point) → W p q → W q p
  pub two : (p a b c : Point) → B p ≡ false → W p a → W p b → W p c → a ≢ b → a ≢ c → b ≡ c

-- the point at a place, told by an equal place
moved : (c : List Point) (d : Point) (i j : ℕ) → i ≡ j → get_or c i d ≡ get_or c j d
moved c d i j e = ap (λ k. get_or c k d) e

equal_or_not : (i j : ℕ) → (i ≡ j) ⊎ (i ≢ j)
equal_or_not i j = grind arith

along_to : {W : Point → Point → Type 0} {B : Point → Bool} (c : List Point) → IsChain W B c → (i j : ℕ) (d : Point) → i + 1 ≡ j → j < length c → W (get_or c i d) (get_or c j d)
along_to {W} c h i j d e l = subst (λ (k : ℕ). W (get_or c i d) (get_or c k d)) e (h.along i d (omega arith))

stepping_to : {W : Point → Point → Type 0} {B : Point → Bool} (c : List Point) → IsChain W B c → (i j : ℕ) (d : Point) → i + 1 ≡ j → j < length c → get_or c i d ≢ get_or c j d
stepping_to c h i j d e l = λ q. h.stepping i d (omega arith) (q ∙ moved c d j (i + 1) (sym e))

onward_to : {W : Point → Point → Type 0} {B : Point → Bool} (c : List Point) → IsChain W B c → (i j : ℕ) (d : Point) → i + 2 ≡ j → j < length c → get_or c i d ≢ get_or c j d
onward_to c h i j d e l = λ q. h.onward i d (omega arith) (q ∙ moved c d j (i + 2) (sym e))

-- a point of a chain that is no break is not its last one
before_end : {W : Point → Point → Type 0} {B : Point → Bool} (e : List Point) → IsChain W B e → (n : ℕ) (d : Point) → n < length e → B (get_or e n d) ≡ false → n + 1 < length e
before_end {W} {B} e he n d l h = elim (equal_or_not n (length e - 1)) [
  | inl q ↦ true_not_false (B (get_or e n d)) (ap B (moved e d n (length e - 1) q) ∙ he.ends d) h
  | inr q ↦ omega arith
]

-- two chains that run along one step go on to the same point
step_on : {W : Point → Point → Type 0} {B : Point → Bool} → AreWays W B → (c e : List Point) → IsChain W B c → IsChain W B e → (m n : ℕ) (d : Point) → m + 2 < length c → n + 1 < length e → get_or c m d ≡ get_or e n d → get_or c (m + 1) d ≡ get_or e (n + 1) d → (n + 2 < length e) × (get_or c (m + 2) d ≡ get_or e (n + 2) d)
step_on {W} {B} ws c e hc he m n d lc le h k =
    let mid : B (get_or c (m + 1) d) ≡ false = hc.through (m + 1) d (omega arith) (omega arith) in
    let mid2 : B (get_or e (n + 1) d) ≡ false = sym (ap B k) ∙ mid in
    let on : n + 1 + 1 < length e = before_end e he (n + 1) d le mid2 in
    let inside : n + 2 < length e = omega arith in
    let wx : W (get_or c (m + 1) d) (get_or c m d) = ws.back (get_or c m d) (get_or c (m + 1) d) (along_to c hc m (m + 1) d refl (omega arith)) in
    let wz : W (get_or c (m + 1) d) (get_or c (m + 2) d) = along_to c hc (m + 1) (m + 2) d (omega arith) lc in
    let ww : W (get_or c (m + 1) d) (get_or e (n + 2) d) = subst (λ (p : Point). W p (get_or e (n + 2) d)) (sym k) (along_to e he (n + 1) (n + 2) d (omega arith) inside) in
    let apart : get_or c m d ≢ get_or e (n + 2) d = (λ q. onward_to e he n (n + 2) d refl inside (sym h ∙ q)) in
    (inside, ws.two (get_or c (m + 1) d) (get_or c m d) (get_or c (m + 2) d) (get_or e (n + 2) d) mid wx wz ww (hc.onward m d lc) apart)

-- and so on to the end of the chain
run_on : {W : Point → Point → Type 0} {B : Point → Bool} → AreWays W B → (c e : List Point) → IsChain W B c → IsChain W B e → (k m n : ℕ) (d : Point) → m + 1 + k < length c → n + 1 < length e → get_or c m d ≡ get_or e n d → get_or c (m + 1) d ≡ get_or e (n + 1) d → (n + 1 + k < length e) × (get_or c (m + 1 + k) d ≡ get_or e (n + 1 + k) d)
run_on ws c e hc he zero m n d lc le h k = (omega arith, moved c d (m + 1 + 0) (m + 1) (omega arith) ∙ k ∙ moved e d (n + 1) (n + 1 + 0) (omega arith))
run_on ws c e hc he (suc j) m n d lc le h k =
    let s = step_on ws c e hc he m n d (omega arith) le h k in
    let there : get_or c (m + 1 + 1) d ≡ get_or e (n + 1 + 1) d = moved c d (m + 1 + 1) (m + 2) (omega arith) ∙ s.1 ∙ moved e d (n + 2) (n + 1 + 1) (omega arith) in
    let on : n + 2 < length e = s.0 in
    let r = run_on ws c e hc he j (m + 1) (n + 1) d (omega arith) (omega arith) k there in
    (omega (arith, r.0), moved c d (m + 1 + suc j) (m + 1 + 1 + j) (omega arith) ∙ r.1 ∙ moved e d (n + 1 + 1 + j) (n + 1 + suc j) (omega arith))

-- two chains that run along one step come to it from the same point
step_back : {W : Point → Point → Type 0} {B : Point → Bool} → AreWays W B → (c e : List Point) → IsChain W B c → IsChain W B e → (m n : ℕ) (d : Point) → m + 2 < length c → n + 2 < length e → get_or c (m + 1) d ≡ get_or e (n + 1) d → get_or c (m + 2) d ≡ get_or e (n + 2) d → get_or c m d ≡ get_or e n d
step_back {W} {B} ws c e hc he m n d lc le h k =
    let mid : B (get_or c (m + 1) d) ≡ false = hc.through (m + 1) d (omega arith) (omega arith) in
    let wx : W (get_or c (m + 1) d) (get_or c m d) = ws.back (get_or c m d) (get_or c (m + 1) d) (along_to c hc m (m + 1) d refl (omega arith)) in
    let wz : W (get_or c (m + 1) d) (get_or c (m + 2) d) = along_to c hc (m + 1) (m + 2) d (omega arith) lc in
    let we : W (get_or c (m + 1) d) (get_or e n d) = subst (λ (p : Point). W p (get_or e n d)) (sym h) (ws.back (get_or e n d) (get_or e (n + 1) d) (along_to e he n (n + 1) d refl (omega arith))) in
    let apart : get_or c (m + 2) d ≢ get_or e n d = (λ q. onward_to e he n (n + 2) d refl le (sym q ∙ k)) in
    ws.two (get_or c (m + 1) d) (get_or c (m + 2) d) (get_or c m d) (get_or e n d) mid wz wx we (λ q. onward_to c hc m (m + 2) d refl lc (sym q)) apart

-- and so on back to the beginning
run_back : {W : Point → Point → Type 0} {B : Point → Bool} → AreWays W B → (c e : List Point) → IsChain W B c → IsChain W B e → (m n : ℕ) (d : Point) → m + 1 < length c → n + 1 < length e → get_or c m d ≡ get_or e n d → get_or c (m + 1) d ≡ get_or e (n + 1) d → (m ≡ n) × ((t : ℕ) → t ≤ m → get_or c t d ≡ get_or e t d)
run_back {W} {B} ws c e hc he zero zero d lc le h k = (refl, λ t l. (let z : t ≡ 0 = omega arith in moved c d t 0 z ∙ h ∙ moved e d 0 t (sym z)))
run_back {W} {B} ws c e hc he zero (suc n) d lc le h k = true_not_false (B (get_or e (suc n) d)) (sym (ap B h) ∙ hc.begins d) (he.through (suc n) d (omega arith) le)
run_back {W} {B} ws c e hc he (suc m) zero d lc le h k = true_not_false (B (get_or c (suc m) d)) (ap B h ∙ he.begins d) (hc.through (suc m) d (omega arith) lc)
run_back {W} {B} ws c e hc he (suc m) (suc n) d lc le h k =
    let here : get_or c (m + 1) d ≡ get_or e (n + 1) d = moved c d (m + 1) (suc m) (omega arith) ∙ h ∙ moved e d (suc n) (n + 1) (omega arith) in
    let next : get_or c (m + 2) d ≡ get_or e (n + 2) d = moved c d (m + 2) (suc m + 1) (omega arith) ∙ k ∙ moved e d (suc n + 1) (n + 2) (omega arith) in
    let one : get_or c m d ≡ get_or e n d = step_back ws c e hc he m n d (omega arith) (omega arith) here next in
    let r = run_back ws c e hc he m n d (omega arith) (omega arith) one here in (
      ap suc r.0,
      λ t l. (elim (equal_or_not t (suc m)) [
        | inl q ↦ moved c d t (suc m) q ∙ h ∙ moved e d (suc n) t (sym (q ∙ ap suc r.0))
        | inr q ↦ r.1 t (omega arith)
      ]),
    )

-- chains that run along one step in one direction are one chain, and the step is at one place
pub chains_equal : {W : Point → Point → Type 0} {B : Point → Bool} → AreWays W B → (c e : List Point) → IsChain W B c → IsChain W B e → (m n : ℕ) (d : Point) → m + 1 < length c → n + 1 < length e → get_or c m d ≡ get_or e n d → get_or c (m + 1) d ≡ get_or e (n + 1) d → (m ≡ n) × (c ≡ e)
chains_equal ws c e hc he m n d lc le h k =
    let back = run_back ws c e hc he m n d lc le h k in
    let same : m ≡ n = back.0 in
    let far : n + 1 + (length c - m - 2) < length e = (run_on ws c e hc he (length c - m - 2) m n d (omega arith) le h k).0 in
    let near : m + 1 + (length e - n - 2) < length c = (run_on ws e c he hc (length e - n - 2) n m d (omega arith) lc (sym h) (sym k)).0 in
    let lengths : length c ≡ length e = omega arith in (
      same,
      ext_get_or d c e lengths (λ t l. (elim (cases t m) [
        | inl q ↦ back.1 t q
        | inr q ↦
            (let r = (run_on ws c e hc he (t - m - 1) m n d (omega arith) le h k).1 in
            moved c d t (m + 1 + (t - m - 1)) (omega arith) ∙ r ∙ moved e d (n + 1 + (t - m - 1)) t (omega arith))
      ])),
    )
  where
    cases : (t m : ℕ) → (t ≤ m) ⊎ (m < t)
    cases t m = grind arith

-- ---- backwards
pub reversed_at : (c : List Point) (i j : ℕ) (d : Point) → i + j + 1 ≡ length c → get_or (reverse c) i d ≡ get_or c j d
reversed_at c i j d e = get_or-reverse c i d (omega arith) ∙ moved c d (length c - 1 - i) j (omega arith)

pub IsChain-reverse : {W : Point → Point → Type 0} {B : Point → Bool} → AreWays W B → (c : List Point) → IsChain W B c → IsChain W B (reverse c)
IsChain-reverse {W} {B} ws c h =
    let same : length (reverse c) ≡ length c = length-reverse c in
    record {
      long = omega (arith, h.long);
      along = λ i d l. (
          let j : ℕ = length c - 2 - i in
          let a : get_or (reverse c) i d ≡ get_or c (j + 1) d = reversed_at c i (j + 1) d (omega arith) in
          let b : get_or (reverse c) (i + 1) d ≡ get_or c j d = reversed_at c (i + 1) j d (omega arith) in
          let w : W (get_or c (j + 1) d) (get_or c j d) = ws.back (get_or c j d) (get_or c (j + 1) d) (h.along j d (omega arith)) in
          subst (λ (p : Point). W p (get_or (reverse c) (i + 1) d)) (sym a) (subst (λ (q : Point). W (get_or c (j + 1) d) q) (sym b) w));
      stepping = λ i d l. (
          let j : ℕ = length c - 2 - i in
          let a : get_or (reverse c) i d ≡ get_or c (j + 1) d = reversed_at c i (j + 1) d (omega arith) in
          let b : get_or (reverse c) (i + 1) d ≡ get_or c j d = reversed_at c (i + 1) j d (omega arith) in
          λ e. h.stepping j d (omega arith) (sym b ∙ sym e ∙ a));
      onward = λ i d l. (
          let j : ℕ = length c - 3 - i in
          let a : get_or (reverse c) i d ≡ get_or c (j + 2) d = reversed_at c i (j + 2) d (omega arith) in
          let b : get_or (reverse c) (i + 2) d ≡ get_or c j d = reversed_at c (i + 2) j d (omega arith) in
          λ e. h.onward j d (omega arith) (sym b ∙ sym e ∙ a));
      begins = λ d. ap B (reversed_at c 0 (length c - 1) d (omega (arith, h.long))) ∙ h.ends d;
      ends = λ d. ap B (reversed_at c (length (reverse c) - 1) 0 d (omega (arith, h.long))) ∙ h.begins d;
      through = λ i d l k. ap B (reversed_at c i (length c - 1 - i) d (omega arith)) ∙ h.through (length c - 1 - i) d (omega arith) (omega arith);
    }

-- no chain is the same backwards
pub no_palindrome : {W : Point → Point → Type 0} {B : Point → Bool} (c : List Point) (d : Point) → IsChain W B c → c ≡ reverse c → ⊥
no_palindrome c d h e = elim (halves (length c)) [
  | inl q ↦
      let k : ℕ = q.0 in
      let n : length c ≡ k + k = q.1 in
      let l : 2 ≤ length c = h.long in
      stepping_to c h (k - 1) k d (omega arith) (omega arith) (ap (λ (xs : List Point). get_or xs (k - 1) d) e ∙ reversed_at c (k - 1) k d (omega arith))
  | inr q ↦
      let k : ℕ = q.0 in
      let n : length c ≡ k + k + 1 = q.1 in
      let l : 2 ≤ length c = h.long in
      onward_to c h (k - 1) (k + 1) d (omega arith) (omega arith) (ap (λ (xs : List Point). get_or xs (k - 1) d) e ∙ reversed_at c (k - 1) (k + 1) d (omega arith))
]
  where
    halves : (n : ℕ) → ((k : ℕ) × (n ≡ k + k)) ⊎ ((k : ℕ) × (n ≡ k + k + 1))
    halves zero = inl (0, refl)
    halves (suc n) = elim (halves n) [
      | inl q ↦ (let e : n ≡ q.0 + q.0 = q.1 in inr (q.0, omega arith))
      | inr q ↦ (let e : n ≡ q.0 + q.0 + 1 = q.1 in inl (q.0 + 1, omega arith))
    ]

neither_below : (p q : Point) → is_below p q ≡ false → is_below q p ≡ false → p ≡ q
neither_below p q h k = elim (point_case p q) [
  | below a b ↦ true_not_false (is_below p q) a h
  | same e ↦ e
  | above a b ↦ true_not_false (is_below q p) a k
]

-- what makes a chain backward, where it ends where it begins and where not
pub backward_closed : (d : Point) (c : List Point) → get_or c 0 d ≡ get_or c (length c - 1) d → is_backward d c ≡ is_below (get_or c (length c - 2) d) (get_or c 1 d)
backward_closed d c e = ap (λ (b : Bool). if b then is_below (get_or c (length c - 2) d) (get_or c 1 d) else is_below (get_or c (length c - 1) d) (get_or c 0 d)) (is_same (get_or c 0 d) (get_or c (length c - 1) d) e)

pub backward_open : (d : Point) (c : List Point) → get_or c 0 d ≢ get_or c (length c - 1) d → is_backward d c ≡ is_below (get_or c (length c - 1) d) (get_or c 0 d)
backward_open d c e = ap (λ (b : Bool). if b then is_below (get_or c (length c - 2) d) (get_or c 1 d) else is_below (get_or c (length c - 1) d) (get_or c 0 d)) (not_same (get_or c 0 d) (get_or c (length c - 1) d) e)

-- a chain and the same backwards: one of them is backward
pub one_is_backward : {W : Point → Point → Type 0} {B : Point → Bool} → AreWays W B → (c e : List Point) (d : Point) → IsChain W B c → c ≡ reverse e → IsChain W B e → is_backward d c ≡ false → is_backward d e ≡ false → ⊥
one_is_backward ws c e d hc r he h k =
    let n : length c ≡ length e = ap (λ (xs : List Point). length xs) r ∙ length-reverse e in
    let l : 2 ≤ length e = he.long in
    let at : (i j : ℕ) → i + j + 1 ≡ length e → get_or c i d ≡ get_or e j d = (λ i j s. ap (λ (xs : List Point). get_or xs i d) r ∙ reversed_at e i j d s) in
    let first : get_or c 0 d ≡ get_or e (length e - 1) d = at 0 (length e - 1) (omega arith) in
    let last : get_or c (length c - 1) d ≡ get_or e 0 d = at (length c - 1) 0 (omega arith) in
    let second : get_or c 1 d ≡ get_or e (length e - 2) d = at 1 (length e - 2) (omega arith) in
    let third : get_or c (length c - 2) d ≡ get_or e 1 d = at (length c - 2) 1 (omega arith) in
    elim (same_or_not (get_or e 0 d) (get_or e (length e - 1) d)) [
      | inl q ↦
          let a = sym (backward_closed d e q) ∙ k in
          let b = sym (backward_closed d c (first ∙ sym q ∙ sym last)) ∙ h in
          let b2 : is_below (get_or e 1 d) (get_or e (length e - 2) d) ≡ false = sym (ap (λ (p : Point). is_below p (get_or c 1 d)) third ∙ ap (λ (p : Point). is_below (get_or e 1 d) p) second) ∙ b in
          let s : get_or e 1 d ≡ get_or e (length e - 2) d = neither_below (get_or e 1 d) (get_or e (length e - 2) d) b2 a in
          no_palindrome e d he ((chains_equal ws e c he hc 0 0 d (omega arith) (omega arith) (q ∙ sym first) (moved e d (0 + 1) 1 refl ∙ s ∙ sym second)).1 ∙ r)
      | inr q ↦
          let a = sym (backward_open d e q) ∙ k in
          let b = sym (backward_open d c (λ s. q (sym last ∙ sym s ∙ first))) ∙ h in
          let b2 : is_below (get_or e 0 d) (get_or e (length e - 1) d) ≡ false = sym (ap (λ (p : Point). is_below p (get_or c 0 d)) last ∙ ap (λ (p : Point). is_below (get_or e 0 d) p) first) ∙ b in
          q (neither_below (get_or e 0 d) (get_or e (length e - 1) d) b2 a)
    ]

-- two arcs with a step in common
pub arcs_equal : {W : Point → Point → Type 0} {B : Point → Bool} → AreWays W B → (c e : List Point) (m n : ℕ) (d : Point) → IsChain W B c → IsChain W B e → is_backward d c ≡ false → is_backward d e ≡ false → m + 1 < length c → n + 1 < length e → in_order (get_or c m d) (get_or c (m + 1) d) ≡ in_order (get_or e n d) (get_or e (n + 1) d) → (m ≡ n) × (c ≡ e)
arcs_equal ws c e m n d hc he bc be lc le s = elim (ends_of_step (get_or c m d) (get_or c (m + 1) d) (get_or e n d) (get_or e (n + 1) d) s) [
  | inl q ↦ chains_equal ws c e hc he m n d lc le q.0 q.1
  | inr q ↦
      let same : length (reverse e) ≡ length e = length-reverse e in
      let j : ℕ = length e - 2 - n in
      let a : get_or (reverse e) j d ≡ get_or e (n + 1) d = reversed_at e j (n + 1) d (omega arith) in
      let b : get_or (reverse e) (j + 1) d ≡ get_or e n d = reversed_at e (j + 1) n d (omega arith) in
      let r : c ≡ reverse e = (chains_equal ws c (reverse e) hc (IsChain-reverse ws e he) m j d lc (omega arith) (q.0 ∙ sym a) (q.1 ∙ sym b)).1 in
      absurd (one_is_backward ws c e d hc r he bc be)
]

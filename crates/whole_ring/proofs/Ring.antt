-- Identities of polynomials over the whole numbers, by computing: `ring env e f refl` proves that e and f have one value at each env, where both come to one sum of monomials.
use Rattle.std.proofs.Common.{◌≡◌, ℕ, zero, suc, refl, sym, ◌∙◌, ap, subst, Bool, true, false, cond, T, leb, eqb, eqb→eq, List, [], ◌∷◌, ℤ, pos, negsuc, ◌+ℤ◌, ◌-ℤ◌, ◌*ℤ◌, neg_ℤ}
use Rattle.whole_ring.proofs.Laws.{*ℤ-+ℤ, *ℤ_assoc, one-*ℤ, minus_one-*ℤ, +ℤ_assoc, +ℤ_comm, *ℤ_comm, +ℤ_idl, +ℤ_idr, zero-*ℤ, *ℤ-zero}

infixl 6 ◌⊕◌ ◌⊖◌
infixl 7 ◌⊗◌
pub data Poly : Type 0 where
  var : ℕ → Poly
  con : ℤ → Poly
  ◌⊕◌ : Poly → Poly → Poly
  ◌⊖◌ : Poly → Poly → Poly
  ◌⊗◌ : Poly → Poly → Poly

abbrev pub pick : List ℤ → ℕ → ℤ
pick [] n = pos 0
pick (x ∷ xs) zero = x
pick (x ∷ xs) (suc n) = pick xs n

abbrev pub value : List ℤ → Poly → ℤ
value env (var n) = pick env n
value env (con z) = z
value env (p ⊕ q) = value env p +ℤ value env q
value env (p ⊖ q) = value env p -ℤ value env q
value env (p ⊗ q) = value env p *ℤ value env q

-- a monomial is a rising list of variables
abbrev pub put : ℕ → List ℕ → List ℕ
put i [] = i ∷ []
put i (j ∷ js) = cond (leb i j) (i ∷ j ∷ js) (j ∷ put i js)

abbrev pub join : List ℕ → List ℕ → List ℕ
join [] js = js
join (i ∷ is) js = put i (join is js)

abbrev pub power : List ℤ → List ℕ → ℤ
power env [] = pos 1
power env (i ∷ is) = pick env i *ℤ power env is

swap : (a b c : ℤ) → a *ℤ (b *ℤ c) ≡ b *ℤ (a *ℤ c)
swap a b c = sym (*ℤ_assoc a b c) ∙ ap (λ x. x *ℤ c) (*ℤ_comm a b) ∙ *ℤ_assoc b a c

power-put : (env : List ℤ) (i : ℕ) (js : List ℕ) → power env (put i js) ≡ pick env i *ℤ power env js
power-put env i [] = refl
power-put env i (j ∷ js) =
    elim (leb i j) as (λ b. power env (cond b (i ∷ j ∷ js) (j ∷ put i js)) ≡ pick env i *ℤ (pick env j *ℤ power env js))
    [ true ↦ refl | false ↦ ap (λ x. pick env j *ℤ x) (power-put env i js) ∙ swap (pick env j) (pick env i) (power env js) ]

power-join : (env : List ℤ) (is js : List ℕ) → power env (join is js) ≡ power env is *ℤ power env js
power-join env [] js = sym (one-*ℤ (power env js))
power-join env (i ∷ is) js =
    power-put env i (join is js) ∙ ap (λ x. pick env i *ℤ x) (power-join env is js) ∙ sym (*ℤ_assoc (pick env i) (power env is) (power env js))

-- a sum of monomials with their factors
pub data Sum : Type 0 where
  none : Sum
  more : ℤ → List ℕ → Sum → Sum

abbrev pub total : List ℤ → Sum → ℤ
total env none = pos 0
total env (more c m s) = c *ℤ power env m +ℤ total env s

-- the order of two monomials
pub data Order : Type 0 where
  first : Order
  equal : Order
  second : Order

abbrev pub order : List ℕ → List ℕ → Order
order [] [] = equal
order [] (j ∷ js) = first
order (i ∷ is) [] = second
order (i ∷ is) (j ∷ js) = cond (eqb i j) (order is js) (cond (leb i j) first second)

abbrev IsEqual : Order → Type 0
IsEqual first = ⊥
IsEqual equal = Unit {0}
IsEqual second = ⊥

order-equal : (is js : List ℕ) → IsEqual (order is js) → is ≡ js
order-equal [] [] h = refl
order-equal [] (j ∷ js) h = absurd h
order-equal (i ∷ is) [] h = absurd h
order-equal (i ∷ is) (j ∷ js) h = by (order-equal is js) (eqb i j) refl h
  where
    by : (IsEqual (order is js) → is ≡ js) → (b : Bool) → eqb i j ≡ b → IsEqual (cond b (order is js) (cond (leb i j) first second)) → (i ∷ is) ≡ (j ∷ js)
    by below true e h = let same : i ≡ j = eqb→eq i j (subst T (sym e) tt) in let rest : is ≡ js = below h in cc
    by below false e h = absurd (elim (leb i j) as (λ b. IsEqual (cond b first second) → ⊥) [ true ↦ λ x. x | false ↦ λ x. x ] h)

-- a factor 0 goes
abbrev pub keep : ℤ → List ℕ → Sum → Sum
keep (pos zero) m s = s
keep (pos (suc n)) m s = more (pos (suc n)) m s
keep (negsuc n) m s = more (negsuc n) m s

total-keep : (env : List ℤ) (c : ℤ) (m : List ℕ) (s : Sum) → total env (keep c m s) ≡ c *ℤ power env m +ℤ total env s
total-keep env (pos zero) m s = sym (ap (λ x. x +ℤ total env s) (zero-*ℤ (power env m)) ∙ +ℤ_idl (total env s))
total-keep env (pos (suc n)) m s = refl
total-keep env (negsuc n) m s = refl

abbrev pub enter : ℤ → List ℕ → Sum → Sum
enter c m none = keep c m none
enter c m (more d n s) = elim (order m n) [ first ↦ keep c m (more d n s) | equal ↦ keep (c +ℤ d) n s | second ↦ more d n (enter c m s) ]

*ℤ-+ℤ_right : (a b c : ℤ) → (a +ℤ b) *ℤ c ≡ a *ℤ c +ℤ b *ℤ c
*ℤ-+ℤ_right a b c = *ℤ_comm (a +ℤ b) c ∙ *ℤ-+ℤ c a b ∙ ap (λ x. x +ℤ c *ℤ b) (*ℤ_comm c a) ∙ ap (λ x. a *ℤ c +ℤ x) (*ℤ_comm c b)

swap_sum : (a b c : ℤ) → a +ℤ (b +ℤ c) ≡ b +ℤ (a +ℤ c)
swap_sum a b c = sym (+ℤ_assoc a b c) ∙ ap (λ x. x +ℤ c) (+ℤ_comm a b) ∙ +ℤ_assoc b a c

total-enter : (env : List ℤ) (c : ℤ) (m : List ℕ) (s : Sum) → total env (enter c m s) ≡ c *ℤ power env m +ℤ total env s
total-enter env c m none = total-keep env c m none
total-enter env c m (more d n s) = by (total-enter env c m s) (order m n) refl
  where
    by : total env (enter c m s) ≡ c *ℤ power env m +ℤ total env s → (o : Order) → order m n ≡ o → total env (elim o [ first ↦ keep c m (more d n s) | equal ↦ keep (c +ℤ d) n s | second ↦ more d n (enter c m s) ]) ≡ c *ℤ power env m +ℤ (d *ℤ power env n +ℤ total env s)
    by below first e = total-keep env c m (more d n s)
    by below equal e =
        let same : m ≡ n = order-equal m n (subst IsEqual (sym e) tt) in
        total-keep env (c +ℤ d) n s ∙ ap (λ x. x +ℤ total env s) (*ℤ-+ℤ_right c d (power env n)) ∙ +ℤ_assoc (c *ℤ power env n) (d *ℤ power env n) (total env s)
        ∙ ap (λ (k : List ℕ). c *ℤ power env k +ℤ (d *ℤ power env n +ℤ total env s)) (sym same)
    by below second e = ap (λ x. d *ℤ power env n +ℤ x) below ∙ swap_sum (d *ℤ power env n) (c *ℤ power env m) (total env s)

abbrev pub plus : Sum → Sum → Sum
plus none t = t
plus (more c m s) t = enter c m (plus s t)

total-plus : (env : List ℤ) (s t : Sum) → total env (plus s t) ≡ total env s +ℤ total env t
total-plus env none t = sym (+ℤ_idl (total env t))
total-plus env (more c m s) t =
    total-enter env c m (plus s t) ∙ ap (λ x. c *ℤ power env m +ℤ x) (total-plus env s t) ∙ sym (+ℤ_assoc (c *ℤ power env m) (total env s) (total env t))

abbrev pub scale : ℤ → List ℕ → Sum → Sum
scale c m none = none
scale c m (more d n s) = enter (c *ℤ d) (join m n) (scale c m s)

four : (a b c d : ℤ) → (a *ℤ b) *ℤ (c *ℤ d) ≡ (a *ℤ c) *ℤ (b *ℤ d)
four a b c d = *ℤ_assoc a b (c *ℤ d) ∙ ap (λ x. a *ℤ x) (swap b c d) ∙ sym (*ℤ_assoc a c (b *ℤ d))

total-scale : (env : List ℤ) (c : ℤ) (m : List ℕ) (s : Sum) → total env (scale c m s) ≡ (c *ℤ power env m) *ℤ total env s
total-scale env c m none = sym (*ℤ-zero (c *ℤ power env m))
total-scale env c m (more d n s) =
    total-enter env (c *ℤ d) (join m n) (scale c m s)
    ∙ ap (λ x. (c *ℤ d) *ℤ x +ℤ total env (scale c m s)) (power-join env m n)
    ∙ ap (λ x. x +ℤ total env (scale c m s)) (four c d (power env m) (power env n))
    ∙ ap (λ x. (c *ℤ power env m) *ℤ (d *ℤ power env n) +ℤ x) (total-scale env c m s)
    ∙ sym (*ℤ-+ℤ (c *ℤ power env m) (d *ℤ power env n) (total env s))

abbrev pub times : Sum → Sum → Sum
times none t = none
times (more c m s) t = plus (scale c m t) (times s t)

total-times : (env : List ℤ) (s t : Sum) → total env (times s t) ≡ total env s *ℤ total env t
total-times env none t = sym (zero-*ℤ (total env t))
total-times env (more c m s) t =
    total-plus env (scale c m t) (times s t)
    ∙ ap (λ x. x +ℤ total env (times s t)) (total-scale env c m t)
    ∙ ap (λ x. (c *ℤ power env m) *ℤ total env t +ℤ x) (total-times env s t)
    ∙ sym (*ℤ-+ℤ_right (c *ℤ power env m) (total env s) (total env t))

abbrev pub norm : Poly → Sum
norm (var n) = more (pos 1) (n ∷ []) none
norm (con z) = keep z [] none
norm (p ⊕ q) = plus (norm p) (norm q)
norm (p ⊖ q) = plus (norm p) (scale (negsuc 0) [] (norm q))
norm (p ⊗ q) = times (norm p) (norm q)

*ℤ-one : (a : ℤ) → a *ℤ pos 1 ≡ a
*ℤ-one a = *ℤ_comm a (pos 1) ∙ one-*ℤ a

total-norm : (env : List ℤ) (p : Poly) → total env (norm p) ≡ value env p
total-norm env (var n) = +ℤ_idr (pos 1 *ℤ (pick env n *ℤ pos 1)) ∙ one-*ℤ (pick env n *ℤ pos 1) ∙ *ℤ-one (pick env n)
total-norm env (con z) = total-keep env z [] none ∙ +ℤ_idr (z *ℤ pos 1) ∙ *ℤ-one z
total-norm env (p ⊕ q) = total-plus env (norm p) (norm q) ∙ ap (λ x. x +ℤ total env (norm q)) (total-norm env p) ∙ ap (λ x. value env p +ℤ x) (total-norm env q)
total-norm env (p ⊖ q) =
    total-plus env (norm p) (scale (negsuc 0) [] (norm q))
    ∙ ap (λ x. total env (norm p) +ℤ x) (total-scale env (negsuc 0) [] (norm q) ∙ ap (λ x. x *ℤ total env (norm q)) (*ℤ-one (negsuc 0)) ∙ minus_one-*ℤ (total env (norm q)))
    ∙ ap (λ x. x +ℤ neg_ℤ (total env (norm q))) (total-norm env p) ∙ ap (λ x. value env p +ℤ neg_ℤ x) (total-norm env q)
total-norm env (p ⊗ q) = total-times env (norm p) (norm q) ∙ ap (λ x. x *ℤ total env (norm q)) (total-norm env p) ∙ ap (λ x. value env p *ℤ x) (total-norm env q)

pub ring : (env : List ℤ) (p q : Poly) → norm p ≡ norm q → value env p ≡ value env q
ring env p q e = sym (total-norm env p) ∙ ap (total env) e ∙ total-norm env q

-- Lists whose items are right one after another, or of which one breaks a rule first.
use Rattle.std.proofs.Common.{◌≡◌, ◌∙◌, ◌⊎◌, inl, inr, refl, sym, ap, ap₂, subst, List, [], ◌∷◌, ◌++◌, append-nil, append_assoc, get_or}
use Rattle.topo_reader.specs.declared.fault.TopoFault.{TopoFault}
use Rattle.topo_reader.proofs.Exact.{Exact, IsOne}

-- an item behind right ones breaks a rule
pub record AtItem (T S : Type 0) (Good : List T → S → Type 0) (Breaks : List T → S → T → TopoFault → Type 0) (ts : List T) (f : TopoFault) : Type 0 where
  pub before : List T
  pub item : T
  pub after : List T
  pub state : S
  pub parts : ts ≡ before ++ item ∷ after
  pub right : Good before state
  pub broken : Breaks before state item f

-- what is right of lists, and which rules an item breaks behind right ones
pub record AreSteps (T S : Type 0) (Good : List T → S → Type 0) (Breaks : List T → S → T → TopoFault → Type 0) : Type 0 where
  pub begin : (s : S) × Good [] s
  pub next : (before : List T) (s : S) (t : T) → Good before s → ((e : S) × Good (before ++ t ∷ []) e) ⊎ ((f : TopoFault) × Breaks before s t f)
  pub back : (before after : List T) (e : S) → Good (before ++ after) e → (s : S) × Good before s
  pub same : (ts : List T) → IsOne S (Good ts)
  pub apart : (before : List T) (s e : S) (t : T) (f : TopoFault) → Good before s → Good (before ++ t ∷ []) e → Breaks before s t f → ⊥
  pub one : (before : List T) (s : S) (t : T) (f g : TopoFault) → Good before s → Breaks before s t f → Breaks before s t g → f ≡ g

abbrev tail : {T : Type 0} → List T → List T
tail [] = []
tail (t ∷ ts) = ts

-- where one list is cut at two items
data Cut (T : Type 0) (cs bs : List T) (a b : T) : Type 0 where
  here : cs ≡ bs → a ≡ b → Cut T cs bs a b
  later : (m : List T) → bs ≡ cs ++ a ∷ m → Cut T cs bs a b
  earlier : (m : List T) → cs ≡ bs ++ b ∷ m → Cut T cs bs a b

cut_more : (T : Type 0) (x y : T) (cs bs : List T) (a b : T) → x ≡ y → Cut T cs bs a b → Cut T (x ∷ cs) (y ∷ bs) a b
cut_more T x y cs bs a b same (here lists items) = here (ap₂ (λ (t : T) (ts : List T). t ∷ ts) same lists) items
cut_more T x y cs bs a b same (later m is) = later m (ap₂ (λ (t : T) (ts : List T). t ∷ ts) (sym same) is)
cut_more T x y cs bs a b same (earlier m is) = earlier m (ap₂ (λ (t : T) (ts : List T). t ∷ ts) same is)

cut : (T : Type 0) (cs bs : List T) (a b : T) (xs ys : List T) → cs ++ a ∷ xs ≡ bs ++ b ∷ ys → Cut T cs bs a b
cut T [] [] a b xs ys same = here refl (ap (λ ts. get_or ts 0 a) same)
cut T [] (d ∷ bs) a b xs ys same = later bs (ap (λ (t : T). t ∷ bs) (sym (ap (λ ts. get_or ts 0 a) same)))
cut T (c ∷ cs) [] a b xs ys same = earlier cs (ap (λ (t : T). t ∷ cs) (ap (λ ts. get_or ts 0 c) same))
cut T (c ∷ cs) (d ∷ bs) a b xs ys same = cut_more T c d cs bs a b (ap (λ ts. get_or ts 0 c) same) (cut T cs bs a b xs ys (ap tail same))

-- an item at the end of the first part
pub shifted : (T : Type 0) (before : List T) (t : T) (after : List T) → (before ++ t ∷ []) ++ after ≡ before ++ t ∷ after
shifted T before t after = append_assoc before (t ∷ []) after

-- the item is not right where those up to it are
not_behind : (T S : Type 0) (Good : List T → S → Type 0) (Breaks : List T → S → T → TopoFault → Type 0) → AreSteps T S Good Breaks → (ts : List T) (e : S) (f : TopoFault) (before : List T) (t : T) (after : List T) (s : S)
    → Good ts e → ts ≡ before ++ t ∷ after → Good before s → Breaks before s t f → ⊥
not_behind T S Good Breaks steps ts e f before t after s good parts right broken =
    let whole : Good ((before ++ t ∷ []) ++ after) e = subst (λ (us : List T). Good us e) (parts ∙ sym (shifted T before t after)) good in
    let front = steps.back (before ++ t ∷ []) after e whole in
    steps.apart before s front.0 t f right front.1 broken

same_fault : (T S : Type 0) (Good : List T → S → Type 0) (Breaks : List T → S → T → TopoFault → Type 0) → AreSteps T S Good Breaks → (ts : List T) (f g : TopoFault) (a : AtItem T S Good Breaks ts f) (b : AtItem T S Good Breaks ts g) → Cut T a.before b.before a.item b.item → f ≡ g
same_fault T S Good Breaks steps ts f g a b (here lists items) =
    let moved : Good b.before a.state = subst (λ (us : List T). Good us a.state) lists a.right in
    let state : a.state ≡ b.state = steps.same b.before a.state b.state moved b.right in
    let first : Breaks b.before a.state a.item f = subst (λ (us : List T). Breaks us a.state a.item f) lists a.broken in
    let second : Breaks b.before b.state a.item f = subst (λ (s : S). Breaks b.before s a.item f) state first in
    let third : Breaks b.before b.state b.item f = subst (λ (t : T). Breaks b.before b.state t f) items second in
    steps.one b.before b.state b.item f g b.right third b.broken
same_fault T S Good Breaks steps ts f g a b (later m is) = absurd (not_behind T S Good Breaks steps b.before b.state f a.before a.item m a.state b.right is a.right a.broken)
same_fault T S Good Breaks steps ts f g a b (earlier m is) = absurd (not_behind T S Good Breaks steps a.before a.state g b.before b.item m b.state a.right is b.right b.broken)

abbrev Outcome : (T S : Type 0) (Good : List T → S → Type 0) (Breaks : List T → S → T → TopoFault → Type 0) → List T → Type 0
Outcome T S Good Breaks ts = ((e : S) × Good ts e) ⊎ ((f : TopoFault) × AtItem T S Good Breaks ts f)

go : (T S : Type 0) (Good : List T → S → Type 0) (Breaks : List T → S → T → TopoFault → Type 0) → AreSteps T S Good Breaks → (rest before : List T) (s : S) → Good before s → Outcome T S Good Breaks (before ++ rest)
go T S Good Breaks steps [] before s right = inl (s, subst (λ (us : List T). Good us s) (sym (append-nil before)) right)
go T S Good Breaks steps (t ∷ rest) before s right = elim (steps.next before s t right) as (λ _. Outcome T S Good Breaks (before ++ t ∷ rest)) [
  | inl more ↦ subst (λ (us : List T). Outcome T S Good Breaks us) (shifted T before t rest) (go T S Good Breaks steps rest (before ++ t ∷ []) more.0 more.1)
  | inr bad ↦ inr (bad.0, record { before = before; item = t; after = rest; state = s; parts = refl; right = right; broken = bad.1 })
]

pub exact_list : (T S : Type 0) (Good : List T → S → Type 0) (Breaks : List T → S → T → TopoFault → Type 0) → AreSteps T S Good Breaks → (ts : List T) → Exact S (Good ts) (AtItem T S Good Breaks ts)
exact_list T S Good Breaks steps ts = record {
  some = go T S Good Breaks steps ts [] steps.begin.0 steps.begin.1;
  apart = λ e f good bad. not_behind T S Good Breaks steps ts e f bad.before bad.item bad.after bad.state good bad.parts bad.right bad.broken;
  one = λ f g a b. same_fault T S Good Breaks steps ts f g a b (cut T a.before b.before a.item b.item a.after b.after (sym a.parts ∙ b.parts));
}

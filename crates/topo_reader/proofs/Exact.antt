-- Rules in their order, each of which something keeps or nothing does: what keeps them all, or one first fault, and never both.
use Rattle.std.proofs.Common.{◌≡◌, ◌∙◌, ◌⊎◌, inl, inr, refl, sym, subst}
use Rattle.map_values.proofs.Decided.{Decided}
use Rattle.topo_reader.specs.Rules.{Unless, UnlessSome}
use Rattle.topo_reader.specs.declared.fault.TopoFault.{TopoFault}

pub record Exact (X : Type 0) (Good : X → Type 0) (Bad : TopoFault → Type 0) : Type 0 where
  pub some : ((x : X) × Good x) ⊎ ((f : TopoFault) × Bad f)
  pub apart : (x : X) (f : TopoFault) → Good x → Bad f → ⊥
  pub one : (f g : TopoFault) → Bad f → Bad g → f ≡ g

abbrev pub Decision : (Y : Type 0) → (Y → Type 0) → Type 0
Decision Y Keeps = ((y : Y) × Keeps y) ⊎ ((y : Y) → ¬ Keeps y)

pub decision : (Y : Type 0) (Keeps : Y → Type 0) → Decided ((y : Y) × Keeps y) → Decision Y Keeps
decision Y Keeps (inl is) = inl is
decision Y Keeps (inr other) = inr (λ y keeps. other (y, keeps))

abbrev pub IsOne : (Y : Type 0) → (Y → Type 0) → Type 0
IsOne Y Keeps = (y z : Y) → Keeps y → Keeps z → y ≡ z

-- ---- other words for what is right

some_as : (X : Type 0) (G H : X → Type 0) (Bad : TopoFault → Type 0) → ((x : X) → G x → H x) → ((x : X) × G x) ⊎ ((f : TopoFault) × Bad f) → ((x : X) × H x) ⊎ ((f : TopoFault) × Bad f)
some_as X G H Bad to (inl good) = inl (good.0, to good.0 good.1)
some_as X G H Bad to (inr bad) = inr bad

pub exact_as : (X : Type 0) (G H : X → Type 0) (Bad : TopoFault → Type 0) → ((x : X) → G x → H x) → ((x : X) → H x → G x) → Exact X G Bad → Exact X H Bad
exact_as X G H Bad to from e = record {
  some = some_as X G H Bad to e.some;
  apart = λ x f good bad. e.apart x f (from x good) bad;
  one = e.one;
}

-- ---- a rule, and those behind it

unless_some : (P : Type 0) (due : TopoFault) (X : Type 0) (Good : X → Type 0) (Later : TopoFault → Type 0) → P → ((x : X) × Good x) ⊎ ((f : TopoFault) × Later f)
    → ((x : X) × (P × Good x)) ⊎ ((f : TopoFault) × Unless P due Later f)
unless_some P due X Good Later p (inl good) = inl (good.0, (p, good.1))
unless_some P due X Good Later p (inr bad) = inr (bad.0, inr (p, bad.1))

unless_or : (P : Type 0) (due : TopoFault) (X : Type 0) (Good : X → Type 0) (Later : TopoFault → Type 0) → P ⊎ ¬ P → (P → Exact X Good Later)
    → ((x : X) × (P × Good x)) ⊎ ((f : TopoFault) × Unless P due Later f)
unless_or P due X Good Later (inl p) later = unless_some P due X Good Later p ((later p).some)
unless_or P due X Good Later (inr none) later = inr (due, inl (none, refl))

unless_apart : (P : Type 0) (due : TopoFault) (X : Type 0) (Good : X → Type 0) (Later : TopoFault → Type 0) → (P → Exact X Good Later)
    → (x : X) (f : TopoFault) → P × Good x → Unless P due Later f → ⊥
unless_apart P due X Good Later later x f good (inl none) = none.0 good.0
unless_apart P due X Good Later later x f good (inr bad) = (later good.0).apart x f good.1 bad.1

unless_one : (P : Type 0) (due : TopoFault) (X : Type 0) (Good : X → Type 0) (Later : TopoFault → Type 0) → (P → Exact X Good Later)
    → (f g : TopoFault) → Unless P due Later f → Unless P due Later g → f ≡ g
unless_one P due X Good Later later f g (inl a) (inl b) = a.1 ∙ sym b.1
unless_one P due X Good Later later f g (inl a) (inr b) = absurd (a.0 b.0)
unless_one P due X Good Later later f g (inr a) (inl b) = absurd (b.0 a.0)
unless_one P due X Good Later later f g (inr a) (inr b) = (later a.0).one f g a.1 b.1

pub exact_unless : (P : Type 0) (due : TopoFault) (X : Type 0) (Good : X → Type 0) (Later : TopoFault → Type 0) → P ⊎ ¬ P → (P → Exact X Good Later)
    → Exact X (λ x. P × Good x) (Unless P due Later)
exact_unless P due X Good Later decision later = record {
  some = unless_or P due X Good Later decision later;
  apart = unless_apart P due X Good Later later;
  one = unless_one P due X Good Later later;
}

keeps_some : (Y : Type 0) (Keeps : Y → Type 0) (due : TopoFault) (X : Type 0) (Good : Y → X → Type 0) (Later : Y → TopoFault → Type 0) (y : Y) → Keeps y
    → ((x : X) × Good y x) ⊎ ((f : TopoFault) × Later y f) → ((x : X) × ((y : Y) × Keeps y × Good y x)) ⊎ ((f : TopoFault) × UnlessSome Keeps due Later f)
keeps_some Y Keeps due X Good Later y keeps (inl good) = inl (good.0, (y, keeps, good.1))
keeps_some Y Keeps due X Good Later y keeps (inr bad) = inr (bad.0, inr (y, keeps, bad.1))

keeps_or : (Y : Type 0) (Keeps : Y → Type 0) (due : TopoFault) (X : Type 0) (Good : Y → X → Type 0) (Later : Y → TopoFault → Type 0) → Decision Y Keeps
    → ((y : Y) → Keeps y → Exact X (Good y) (Later y)) → ((x : X) × ((y : Y) × Keeps y × Good y x)) ⊎ ((f : TopoFault) × UnlessSome Keeps due Later f)
keeps_or Y Keeps due X Good Later (inl keeps) later = keeps_some Y Keeps due X Good Later keeps.0 keeps.1 ((later keeps.0 keeps.1).some)
keeps_or Y Keeps due X Good Later (inr none) later = inr (due, inl (none, refl))

keeps_apart : (Y : Type 0) (Keeps : Y → Type 0) (due : TopoFault) (X : Type 0) (Good : Y → X → Type 0) (Later : Y → TopoFault → Type 0) → IsOne Y Keeps
    → ((y : Y) → Keeps y → Exact X (Good y) (Later y)) → (x : X) (f : TopoFault) → (y : Y) × Keeps y × Good y x → UnlessSome Keeps due Later f → ⊥
keeps_apart Y Keeps due X Good Later same later x f good (inl none) = none.0 good.0 good.1
keeps_apart Y Keeps due X Good Later same later x f good (inr bad) =
    (later good.0 good.1).apart x f good.2 (subst (λ (y : Y). Later y f) (same bad.0 good.0 bad.1 good.1) bad.2)

keeps_one : (Y : Type 0) (Keeps : Y → Type 0) (due : TopoFault) (X : Type 0) (Good : Y → X → Type 0) (Later : Y → TopoFault → Type 0) → IsOne Y Keeps
    → ((y : Y) → Keeps y → Exact X (Good y) (Later y)) → (f g : TopoFault) → UnlessSome Keeps due Later f → UnlessSome Keeps due Later g → f ≡ g
keeps_one Y Keeps due X Good Later same later f g (inl a) (inl b) = a.1 ∙ sym b.1
keeps_one Y Keeps due X Good Later same later f g (inl a) (inr b) = absurd (a.0 b.0 b.1)
keeps_one Y Keeps due X Good Later same later f g (inr a) (inl b) = absurd (b.0 a.0 a.1)
keeps_one Y Keeps due X Good Later same later f g (inr a) (inr b) =
    (later b.0 b.1).one f g (subst (λ (y : Y). Later y f) (same a.0 b.0 a.1 b.1) a.2) b.2

pub exact_some : (Y : Type 0) (Keeps : Y → Type 0) (due : TopoFault) (X : Type 0) (Good : Y → X → Type 0) (Later : Y → TopoFault → Type 0) → Decision Y Keeps → IsOne Y Keeps
    → ((y : Y) → Keeps y → Exact X (Good y) (Later y)) → Exact X (λ x. (y : Y) × Keeps y × Good y x) (UnlessSome Keeps due Later)
exact_some Y Keeps due X Good Later decision same later = record {
  some = keeps_or Y Keeps due X Good Later decision later;
  apart = keeps_apart Y Keeps due X Good Later same later;
  one = keeps_one Y Keeps due X Good Later same later;
}

-- ---- one after another

both_some : (Y : Type 0) (X : Type 0) (First : Y → Type 0) (Bad : TopoFault → Type 0) (Good : Y → X → Type 0) (Later : Y → TopoFault → Type 0) (y : Y) → First y
    → ((x : X) × Good y x) ⊎ ((f : TopoFault) × Later y f) → ((x : X) × ((y : Y) × First y × Good y x)) ⊎ ((f : TopoFault) × (Bad f ⊎ ((y : Y) × First y × Later y f)))
both_some Y X First Bad Good Later y first (inl good) = inl (good.0, (y, first, good.1))
both_some Y X First Bad Good Later y first (inr bad) = inr (bad.0, inr (y, first, bad.1))

both_or : (Y : Type 0) (X : Type 0) (First : Y → Type 0) (Bad : TopoFault → Type 0) (Good : Y → X → Type 0) (Later : Y → TopoFault → Type 0)
    → ((y : Y) × First y) ⊎ ((f : TopoFault) × Bad f) → ((y : Y) → First y → Exact X (Good y) (Later y))
    → ((x : X) × ((y : Y) × First y × Good y x)) ⊎ ((f : TopoFault) × (Bad f ⊎ ((y : Y) × First y × Later y f)))
both_or Y X First Bad Good Later (inl first) later = both_some Y X First Bad Good Later first.0 first.1 ((later first.0 first.1).some)
both_or Y X First Bad Good Later (inr bad) later = inr (bad.0, inl bad.1)

both_apart : (Y : Type 0) (X : Type 0) (First : Y → Type 0) (Bad : TopoFault → Type 0) (Good : Y → X → Type 0) (Later : Y → TopoFault → Type 0) → Exact Y First Bad → IsOne Y First
    → ((y : Y) → First y → Exact X (Good y) (Later y)) → (x : X) (f : TopoFault) → (y : Y) × First y × Good y x → Bad f ⊎ ((y : Y) × First y × Later y f) → ⊥
both_apart Y X First Bad Good Later e same later x f good (inl bad) = e.apart good.0 f good.1 bad
both_apart Y X First Bad Good Later e same later x f good (inr bad) =
    (later good.0 good.1).apart x f good.2 (subst (λ (y : Y). Later y f) (same bad.0 good.0 bad.1 good.1) bad.2)

both_one : (Y : Type 0) (X : Type 0) (First : Y → Type 0) (Bad : TopoFault → Type 0) (Good : Y → X → Type 0) (Later : Y → TopoFault → Type 0) → Exact Y First Bad → IsOne Y First
    → ((y : Y) → First y → Exact X (Good y) (Later y)) → (f g : TopoFault) → Bad f ⊎ ((y : Y) × First y × Later y f) → Bad g ⊎ ((y : Y) × First y × Later y g) → f ≡ g
both_one Y X First Bad Good Later e same later f g (inl a) (inl b) = e.one f g a b
both_one Y X First Bad Good Later e same later f g (inl a) (inr b) = absurd (e.apart b.0 f b.1 a)
both_one Y X First Bad Good Later e same later f g (inr a) (inl b) = absurd (e.apart a.0 g a.1 b)
both_one Y X First Bad Good Later e same later f g (inr a) (inr b) =
    (later b.0 b.1).one f g (subst (λ (y : Y). Later y f) (same a.0 b.0 a.1 b.1) a.2) b.2

pub exact_both : (Y : Type 0) (X : Type 0) (First : Y → Type 0) (Bad : TopoFault → Type 0) (Good : Y → X → Type 0) (Later : Y → TopoFault → Type 0) → Exact Y First Bad → IsOne Y First
    → ((y : Y) → First y → Exact X (Good y) (Later y)) → Exact X (λ x. (y : Y) × First y × Good y x) (λ f. Bad f ⊎ ((y : Y) × First y × Later y f))
exact_both Y X First Bad Good Later e same later = record {
  some = both_or Y X First Bad Good Later e.some later;
  apart = both_apart Y X First Bad Good Later e same later;
  one = both_one Y X First Bad Good Later e same later;
}

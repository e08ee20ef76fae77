-- A text spells one certificate at most.
use Rattle.std.proofs.Common.{◌≡◌, ℕ, zero, suc, ◌+◌, ◌<◌, ◌≤◌, Bool, true, false, cond, List, [], ◌∷◌, ◌++◌, length, map, Option, None, Some, refl, ap, sym, subst, ◌∙◌, arith, append_assoc, length-append}
use Rattle.std.specs.Prelude.{ℤ}
use Rattle.std.proofs.lemmas.List.{length-map}
use Rattle.agg_base.specs.Texts.{text_of_lines}
use Rattle.row_laws.specs.declared.row.Row.{Row}
use Rattle.row_laws.specs.declared.leaf.Leaf.{Leaf}
use Rattle.row_laws.specs.declared.leaf.Leaf.TheVariants.{Sum, Fixed}
use Rattle.row_laws.specs.declared.tree.Tree.{Tree, Leaf as LeafNode, Split'}
use Rattle.row_laws.specs.Values.{RowSum}
use Rattle.row_laws.specs.Trees.{IsSameTree}
use Rattle.cert_reader.specs.Lines.{line_text, IsInRange}
use Rattle.cert_text.specs.TreeTexts.{IsSumInRange, IsTreeInRange}
use Rattle.cert_reader.specs.CertLines.{row_line, sum_lines, leaf_lines, tree_lines}
use Rattle.cert_text.specs.CertTexts.{is_hopeless, HasSpelling, Spells, spelling}
use Rattle.cert_reader.specs.CertLines.{group_lines, certificate_lines}
use Rattle.cert_text.specs.declared.certificate.CertStatus.{CertStatus}
use Rattle.cert_text.specs.declared.certificate.Certificate.{Certificate}
use Rattle.cert_reader.specs.declared.line.Line.{Line}
use Rattle.cert_reader.specs.declared.line.Line.TheVariants as line
use Rattle.cert_reader.specs.Faults.{texts_in}
use Rattle.cert_reader.specs.LineReading.{line_in, words_in, line_of_words, plain_line, head_line}
use Rattle.cert_reader.specs.Same.{IsSameCertificate}
use Rattle.cert_reader.proofs.BridgeLemmas.{spelling_is}
use Rattle.cert_reader.proofs.AgainLemmas.{line_again}
use Rattle.cert_reader.proofs.SpellingLemmas.{AreInRange, lines_in_range, texts_apart}

-- ---- lines

pub same_line : (l m : Line) → IsInRange l → IsInRange m → line_text l ≡ line_text m → l ≡ m
same_line l m a b e = let f : Some l ≡ Some m = sym (line_again l a) ∙ ap line_in e ∙ line_again m b in cc

head_same : {X : Type 0} (x y : X) (xs ys : List X) → x ∷ xs ≡ y ∷ ys → (x ≡ y) × (xs ≡ ys)
head_same x y xs ys e = (cc, cc)

nothing_said : line_in [] ≡ None
unfolding line_in words_in line_of_words plain_line head_line
nothing_said = refl

text_is_some : (l : Line) → IsInRange l → line_text l ≡ [] → ⊥
text_is_some l fits e = let f : Some l ≡ None = sym (line_again l fits) ∙ ap line_in e ∙ nothing_said in (cc)

same_lines : (xs ys : List Line) → AreInRange xs → AreInRange ys → map line_text xs ++ [] ∷ [] ≡ map line_text ys ++ [] ∷ [] → xs ≡ ys
same_lines [] [] a b e = refl
same_lines [] (y ∷ ys) a b e = absurd (text_is_some y b.0 (sym (head_same [] (line_text y) [] (map line_text ys ++ [] ∷ []) e).0))
same_lines (x ∷ xs) [] a b e = absurd (text_is_some x a.0 (head_same (line_text x) [] (map line_text xs ++ [] ∷ []) [] e).0)
same_lines (x ∷ xs) (y ∷ ys) a b e =
    let h = head_same (line_text x) (line_text y) (map line_text xs ++ [] ∷ []) (map line_text ys ++ [] ∷ []) e in
    ap (λ l. l ∷ xs) (same_line x y a.0 b.0 h.0) ∙ ap (λ ls. y ∷ ls) (same_lines xs ys a.1 b.1 h.1)

-- ---- lists of equal length at the front

fronts_same : {X : Type 0} (xs ys us vs : List X) → length xs ≡ length ys → xs ++ us ≡ ys ++ vs → (xs ≡ ys) × (us ≡ vs)
fronts_same [] [] us vs n e = (refl, e)
fronts_same [] (y ∷ ys) us vs n e = absurd (omega arith)
fronts_same (x ∷ xs) [] us vs n e = absurd (omega arith)
fronts_same (x ∷ xs) (y ∷ ys) us vs n e =
    let h = head_same x y (xs ++ us) (ys ++ vs) e in
    let t = fronts_same xs ys us vs (omega arith) h.1 in
    (ap (λ z. z ∷ xs) h.0 ∙ ap (λ zs. y ∷ zs) t.0, t.1)

mapped_same : {X Y : Type 0} (f : X → Y) → ((a b : X) → f a ≡ f b → a ≡ b) → (xs ys : List X) → map f xs ≡ map f ys → xs ≡ ys
mapped_same f same [] [] e = refl
mapped_same f same [] (y ∷ ys) e = (cc)
mapped_same f same (x ∷ xs) [] e = (cc)
mapped_same f same (x ∷ xs) (y ∷ ys) e =
    let h = head_same (f x) (f y) (map f xs) (map f ys) e in
    ap (λ z. z ∷ xs) (same x y h.0) ∙ ap (λ zs. y ∷ zs) (mapped_same f same xs ys h.1)

same_row : (a b : Row × ℤ) → row_line a ≡ row_line b → a ≡ b
same_row a b e =
    let row : a.0 ≡ b.0 = cc in
    let m : a.1 ≡ b.1 = cc in
    ap (λ r. (r, a.1)) row ∙ ap (λ n. (b.0, n)) m

rows_same : (xs ys : List (Row × ℤ)) (us vs : List Line) → length xs ≡ length ys → map row_line xs ++ us ≡ map row_line ys ++ vs → (xs ≡ ys) × (us ≡ vs)
rows_same xs ys us vs n e =
    let t = fronts_same (map row_line xs) (map row_line ys) us vs (length-map xs row_line ∙ n ∙ sym (length-map ys row_line)) e in
    (mapped_same row_line same_row xs ys t.0, t.1)

-- ---- sums

abbrev sum_front : Bool → ℕ → ℕ → Line
sum_front void q n = cond void (line.Void n) (line.Sum q n)

record SameFront (v w : Bool) (q r n m : ℕ) : Type 0 where
  void : v ≡ w
  denominator : q ≡ r
  count : n ≡ m

same_front : (v w : Bool) (q r n m : ℕ) → (v ≡ true → q ≡ 1) → (w ≡ true → r ≡ 1) → sum_front v q n ≡ sum_front w r m → SameFront v w q r n m
same_front true true q r n m a b e = record { void = refl; denominator = a refl ∙ sym (b refl); count = cc }
same_front true false q r n m a b e = (cc)
same_front false true q r n m a b e = (cc)
same_front false false q r n m a b e = record { void = refl; denominator = cc; count = cc }

same_sum : (s t : RowSum) → s.denominator ≡ t.denominator → s.void ≡ t.void → s.rows ≡ t.rows → s ≡ t
same_sum s t a b c =
    ap (λ q. let z : RowSum = record { denominator = q; void = s.void; rows = s.rows } in z) a
    ∙ ap (λ v. let z : RowSum = record { denominator = t.denominator; void = v; rows = s.rows } in z) b
    ∙ ap (λ r. let z : RowSum = record { denominator = t.denominator; void = t.void; rows = r } in z) c

no_fixed : (v : Bool) (q n : ℕ) → sum_front v q n ≡ line.Fixed → ⊥
no_fixed true q n e = (cc)
no_fixed false q n e = (cc)

no_split : (v : Bool) (q n u k : ℕ) → sum_front v q n ≡ line.Split u k → ⊥
no_split true q n u k e = (cc)
no_split false q n u k e = (cc)

-- ---- trees

split_parts : (v k u j : ℕ) → line.Split v k ≡ line.Split u j → (v ≡ u) × (k ≡ j)
split_parts v k u j e = (cc, cc)

fixed_split : (u j : ℕ) → line.Fixed ≡ line.Split u j → ⊥
fixed_split u j e = (cc)

-- lines that begin with those of a tree
same_tree : (t u : Tree Leaf) (xs ys : List Line) → IsTreeInRange t → IsTreeInRange u → tree_lines t ++ xs ≡ tree_lines u ++ ys → IsSameTree t u × (xs ≡ ys)
same_tree (LeafNode Fixed) (LeafNode Fixed) xs ys a b e = (refl, (head_same line.Fixed line.Fixed xs ys e).1)
same_tree (LeafNode Fixed) (LeafNode (Sum s)) xs ys a b e = absurd (no_fixed s.void s.denominator (length s.rows) (sym (head_same line.Fixed (sum_front s.void s.denominator (length s.rows)) xs (map row_line s.rows ++ ys) e).0))
same_tree (LeafNode (Sum s)) (LeafNode Fixed) xs ys a b e = absurd (no_fixed s.void s.denominator (length s.rows) (head_same (sum_front s.void s.denominator (length s.rows)) line.Fixed (map row_line s.rows ++ xs) ys e).0)
same_tree (LeafNode (Sum s)) (LeafNode (Sum t)) xs ys a b e =
    let h = head_same (sum_front s.void s.denominator (length s.rows)) (sum_front t.void t.denominator (length t.rows)) (map row_line s.rows ++ xs) (map row_line t.rows ++ ys) e in
    let f = same_front s.void t.void s.denominator t.denominator (length s.rows) (length t.rows) a.void b.void h.0 in
    let r = rows_same s.rows t.rows xs ys f.count h.1 in
    (ap Sum (same_sum s t f.denominator f.void r.0), r.1)
same_tree (LeafNode Fixed) (Split' u j p with q rest) xs ys a b e = absurd (fixed_split u j (head_same line.Fixed (line.Split u j) xs ((tree_lines with ++ tree_lines rest) ++ ys) e).0)
same_tree (Split' u j p with q rest) (LeafNode Fixed) xs ys a b e = absurd (fixed_split u j (sym (head_same (line.Split u j) line.Fixed ((tree_lines with ++ tree_lines rest) ++ xs) ys e).0))
same_tree (LeafNode (Sum s)) (Split' u j p with q rest) xs ys a b e =
    absurd (no_split s.void s.denominator (length s.rows) u j (head_same (sum_front s.void s.denominator (length s.rows)) (line.Split u j) (map row_line s.rows ++ xs) ((tree_lines with ++ tree_lines rest) ++ ys) e).0)
same_tree (Split' u j p with q rest) (LeafNode (Sum s)) xs ys a b e =
    absurd (no_split s.void s.denominator (length s.rows) u j (sym (head_same (line.Split u j) (sum_front s.void s.denominator (length s.rows)) ((tree_lines with ++ tree_lines rest) ++ xs) (map row_line s.rows ++ ys) e).0))
same_tree (Split' v k p with q rest) (Split' u j p' with' q' rest') xs ys a b e =
    let h = head_same (line.Split v k) (line.Split u j) ((tree_lines with ++ tree_lines rest) ++ xs) ((tree_lines with' ++ tree_lines rest') ++ ys) e in
    let parts = split_parts v k u j h.0 in
    let first = same_tree with with' (tree_lines rest ++ xs) (tree_lines rest' ++ ys) a.2 b.2
    (sym (append_assoc (tree_lines with) (tree_lines rest) xs) ∙ h.1 ∙ append_assoc (tree_lines with') (tree_lines rest') ys) in
    let second = same_tree rest rest' xs ys a.3 b.3 first.1 in
    ((parts.0, parts.1, first.0, second.0), second.1)

-- ---- certificates

same_class : (a b : ℕ) → line.Class a ≡ line.Class b → a ≡ b
same_class a b e = cc

same_region : (a b : ℕ) → line.Region a ≡ line.Region b → a ≡ b
same_region a b e = cc

record SameHead (s t : CertStatus) (o p b q : Option ℤ) (n m r k : ℕ) (xs ys : List Line) : Type 0 where
  status : s ≡ t
  cost : o ≡ p
  bound : b ≡ q
  areas : n ≡ m
  regions : r ≡ k
  rest : xs ≡ ys

same_head : (s t : CertStatus) (o p b q : Option ℤ) (n m r k : ℕ) (xs ys : List Line)
    → line.Version ∷ line.Status s ∷ line.Cost o ∷ line.Bound b ∷ line.Areas n ∷ line.Regions r ∷ xs ≡ line.Version ∷ line.Status t ∷ line.Cost p ∷ line.Bound q ∷ line.Areas m ∷ line.Regions k ∷ ys
    → SameHead s t o p b q n m r k xs ys
same_head s t o p b q n m r k xs ys e = record { status = cc; cost = cc; bound = cc; areas = cc; regions = cc; rest = cc }

same_certificate : (c d : Certificate) → HasSpelling c → HasSpelling d → certificate_lines c ≡ certificate_lines d → IsSameCertificate c d
same_certificate c d a b e =
    let classes = map line.Class c.grouping.class_of in
    let regions = map line.Region c.grouping.region_of in
    let classes' = map line.Class d.grouping.class_of in
    let regions' = map line.Region d.grouping.region_of in
    let tail = ((classes ++ regions) ++ tree_lines c.tree) ++ line.End ∷ [] in
    let tail' = ((classes' ++ regions') ++ tree_lines d.tree) ++ line.End ∷ [] in
    let h = same_head c.status d.status c.cost d.cost c.bound d.bound c.areas d.areas (length c.grouping.class_of) (length d.grouping.class_of) tail tail' e in
    let places : length c.grouping.region_of ≡ length d.grouping.region_of =
    a.one_each ∙ ap (λ s. cond (is_hopeless s) 0 c.areas) h.status ∙ ap (λ n. cond (is_hopeless d.status) 0 n) h.areas ∙ sym b.one_each in
    let apart : classes ++ (regions ++ (tree_lines c.tree ++ line.End ∷ [])) ≡ classes' ++ (regions' ++ (tree_lines d.tree ++ line.End ∷ [])) =
    sym (regroup classes regions (tree_lines c.tree) (line.End ∷ [])) ∙ h.rest ∙ regroup classes' regions' (tree_lines d.tree) (line.End ∷ []) in
    let one = fronts_same classes classes' _ _ (length-map c.grouping.class_of line.Class ∙ h.regions ∙ sym (length-map d.grouping.class_of line.Class)) apart in
    let two = fronts_same regions regions' _ _ (length-map c.grouping.region_of line.Region ∙ places ∙ sym (length-map d.grouping.region_of line.Region)) one.1 in
    let tree = same_tree c.tree d.tree (line.End ∷ []) (line.End ∷ []) a.tree.in_range b.tree.in_range two.1 in
    record {
      status_is = h.status;
      cost_is = h.cost;
      bound_is = h.bound;
      areas_are = h.areas;
      classes_are = mapped_same line.Class same_class c.grouping.class_of d.grouping.class_of one.0;
      regions_are = mapped_same line.Region same_region c.grouping.region_of d.grouping.region_of two.0;
      tree_is = tree.0;
    }
  where
    regroup : (w x y z : List Line) → ((w ++ x) ++ y) ++ z ≡ w ++ (x ++ (y ++ z))
    regroup w x y z = append_assoc (w ++ x) y z ∙ append_assoc w x (y ++ z)

pub one_certificate : (text : List ℕ) (c d : Certificate) → Spells text c → Spells text d → IsSameCertificate c d
one_certificate text c d s t =
    let a = lines_in_range c s.has_spelling in
    let b = lines_in_range d t.has_spelling in
    let e : map line_text (certificate_lines c) ++ [] ∷ [] ≡ map line_text (certificate_lines d) ++ [] ∷ [] =
    sym (texts_apart (certificate_lines c) a) ∙ ap texts_in (sym (s.text_is ∙ spelling_is c) ∙ (t.text_is ∙ spelling_is d)) ∙ texts_apart (certificate_lines d) b in
    same_certificate c d s.has_spelling t.has_spelling (same_lines (certificate_lines c) (certificate_lines d) a b e)

-- A text that spells a certificate has no first fault.
use Rattle.std.proofs.Common.{◌≡◌, ℕ, zero, suc, ◌+◌, ◌-◌, ◌<◌, ◌≤◌, Bool, true, false, cond, not, nat_lt, ◌==◌, ◌&&◌, List, [], ◌∷◌, ◌++◌, length, map, replicate, Option, None, Some, refl, ap, sym, subst, ◌∙◌, arith, rules, All, append_assoc, append-nil}
use Rattle.std.specs.Prelude.{ℤ, is_none}
use Rattle.std.specs.List.{slice_split}
use Rattle.std.proofs.lemmas.Bool.{ltb-true}
use Rattle.std.proofs.lemmas.List.{map-append}
use Rattle.agg_base.specs.Texts.{text_of_lines}
use Rattle.agg_base.specs.declared.limits.TheConstants.{AREAS, CLASSES, DEPTH, SPLITS, MARKS, DENOMINATOR}
use Rattle.row_laws.specs.declared.row.Row.{Row}
use Rattle.row_laws.specs.declared.row.Row.TheVariants.{Border, Escape}
use Rattle.row_laws.specs.declared.leaf.Leaf.{Leaf}
use Rattle.row_laws.specs.declared.leaf.Leaf.TheVariants.{Sum, Fixed}
use Rattle.row_laws.specs.declared.tree.Tree.{Tree, Leaf as LeafNode, Split'}
use Rattle.row_laws.specs.Values.{RowSum, row_marks, mark_count}
use Rattle.row_laws.specs.Trees.{split_count, depth_of}
use Rattle.cert_text.specs.Lines.{IsRowInRange, IsMultiplier}
use Rattle.cert_reader.specs.Lines.{line_text, IsInRange}
use Rattle.cert_text.specs.TreeTexts.{leaf_marks, tree_marks, IsSumInRange, IsTreeInRange}
use Rattle.cert_reader.specs.CertLines.{row_line, sum_lines, leaf_lines, tree_lines}
use Rattle.cert_text.specs.CertTexts.{is_hopeless, IsStated, HasSpelling, Spells, spelling}
use Rattle.cert_reader.specs.CertLines.{head_lines, group_lines, certificate_lines}
use Rattle.cert_text.specs.declared.certificate.CertStatus.{CertStatus}
use Rattle.cert_text.specs.declared.certificate.Certificate.{Certificate}
use Rattle.cert_reader.specs.declared.line.Line.{Line}
use Rattle.cert_reader.specs.declared.line.Line.TheVariants as line
use Rattle.cert_reader.specs.Due.{Due, VersionDue, StatusDue, CostDue, BoundDue, AreasDue, RegionsDue, ClassDue, RegionDue, NodeDue, RowDue, EndDue, behind_regions, fits_status, has_too_many, after}
use Rattle.cert_reader.specs.Faults.{Size, no_size, grown, is_past_limit, is_too_deep, texts_in, fault_from, first_fault}
use Rattle.cert_reader.specs.Reads.{Left, IsNext, Reads}
use Rattle.cert_reader.proofs.BridgeLemmas.{spelling_is}
use Rattle.cert_reader.proofs.PlainLemmas.{line_cut_off}
use Rattle.cert_reader.proofs.AgainLemmas.{line_again}
use Rattle.cert_reader.proofs.SourceLemmas.{right_line, reads_then, reads_front}
use Rattle.cert_reader.proofs.TreeLemmas.{not_less}
use Rattle.cert_reader.proofs.HeadLemmas.{right_cost, right_bound, right_regions}

abbrev pub AreInRange : List Line → Type 0
AreInRange [] = Unit {0}
AreInRange (l ∷ ls) = IsInRange l × AreInRange ls

pub range_append : (xs ys : List Line) → AreInRange xs → AreInRange ys → AreInRange (xs ++ ys)
range_append [] ys a b = b
range_append (x ∷ xs) ys a b = (a.0, range_append xs ys a.1 b)

abbrev left : ℕ → Size → List (List ℕ) → Left
left n size texts = record { number = n; size = size; texts = texts }

-- The texts of these lines are read, whatever stands behind them, where something stands there.
record Walk (due later : List Due) (lines : List Line) (old new : Size) : Type 0 where
  in_range : AreInRange lines
  goes : (n : ℕ) (texts : List (List ℕ)) → 0 < length texts → (m : ℕ) × Reads due later lines (left n old (map line_text lines ++ texts)) (left m new texts)

next_line : (n : ℕ) (size : Size) (l : Line) (texts : List (List ℕ)) → 0 < length texts → IsInRange l → IsNext (left n size (line_text l ∷ texts)) (left (n + 1) size texts) l
next_line n size l texts more fits = record { text = line_text l; texts_are = refl; more = more; said = line_again l fits; number_is = refl; size_is = refl }

walk_line : (next : Due) (later : List Due) (l : Line) (size : Size) → IsInRange l → after next l ≡ Some later → is_too_deep next ≡ false → is_past_limit l size ≡ false → Walk (next ∷ []) later (l ∷ []) size (grown l size)
walk_line next later l size fits e deep past = record {
  in_range = (fits, tt);
  goes = λ n texts more. (n + 1, right_line next (left n size (line_text l ∷ texts)) (left (n + 1) size texts) l later (next_line n size l texts more fits) e deep past (left (n + 1) (grown l size) texts) refl);
}

more_texts : (xs : List Line) (texts : List (List ℕ)) → 0 < length texts → 0 < length (map line_text xs ++ texts)
more_texts [] texts h = h
more_texts (x ∷ xs) texts h = omega arith

walk_then : (a b c : List Due) (xs ys : List Line) (r s t : Size) → Walk a b xs r s → Walk b c ys s t → Walk a c (xs ++ ys) r t
walk_then a b c xs ys r s t v w = record {
  in_range = range_append xs ys v.in_range w.in_range;
  goes = λ n texts more.
      (let first = v.goes n (map line_text ys ++ texts) (more_texts ys texts more) in
      let second = w.goes first.0 texts more in
      let e : map line_text xs ++ (map line_text ys ++ texts) ≡ map line_text (xs ++ ys) ++ texts = sym (append_assoc (map line_text xs) (map line_text ys) texts) ∙ ap (λ z. z ++ texts) (sym (map-append line_text xs ys)) in (
        second.0,
        subst (λ z. Reads a c (xs ++ ys) (left n r z) (left second.0 t texts)) e
            (reads_then a b c xs ys (left n r (map line_text xs ++ (map line_text ys ++ texts))) (left first.0 s (map line_text ys ++ texts)) (left second.0 t texts) first.1 second.1),
      ));
}

walk_front : (a b rest : List Due) (xs : List Line) (s t : Size) → Walk a b xs s t → Walk (a ++ rest) (b ++ rest) xs s t
walk_front a b rest xs s t w = record {
  in_range = w.in_range;
  goes = λ n texts more. (let g = w.goes n texts more in (g.0, reads_front a b rest xs (left n s (map line_text xs ++ texts)) (left g.0 t texts) g.1));
}

walk_nothing : (due : List Due) (size : Size) → Walk due due [] size size
walk_nothing due size = record { in_range = tt; goes = λ n texts more. (n, record { texts_are = refl; faults = λ more. refl }) }

same_size : (s t : Size) → s.marks ≡ t.marks → s.splits ≡ t.splits → s ≡ t
same_size s t e f = ap (λ m. let z : Size = record { marks = m; splits = s.splits } in z) e ∙ ap (λ n. let z : Size = record { marks = t.marks; splits = n } in z) f

-- the size behind is another name of the same
walk_size : (a b : List Due) (xs : List Line) (s t u : Size) → t ≡ u → Walk a b xs s t → Walk a b xs s u
walk_size a b xs s t u e w = subst (Walk a b xs s) e w

-- ---- rows

rest_all : {X : Type 0} (P : X → Type 0) (x : X) (xs : List X) → All P (x ∷ xs) → All P xs
rest_all P x xs all k d h = all (suc k) d (omega arith)

walk_rows : (rows : List (Row × ℤ)) (s t : Size) → All (λ row. IsRowInRange row.0) rows → All (λ row. IsMultiplier row.1) rows
    → t.marks ≡ s.marks + mark_count rows → t.splits ≡ s.splits → t.marks ≤ MARKS → Walk (replicate (length rows) RowDue) [] (map row_line rows) s t
walk_rows [] s t fits small marks splits few = walk_size [] [] [] s s t (same_size s t (let e = marks in omega arith) (sym splits)) (walk_nothing [] s)
walk_rows (row ∷ rows) s t fits small marks splits few =
    let mid : Size = grown (row_line row) s in
    let rest = replicate (length rows) RowDue in
    let past : is_past_limit (row_line row) s ≡ false = not_less MARKS (s.marks + row_marks row.0) (omega arith) in
    let first : Walk (RowDue ∷ []) [] (row_line row ∷ []) s mid = walk_line RowDue [] (row_line row) s (fits 0 row (omega arith), small 0 row (omega arith)) refl refl past in
    walk_then (RowDue ∷ rest) rest [] (row_line row ∷ []) (map row_line rows) s mid t (walk_front (RowDue ∷ []) [] rest (row_line row ∷ []) s mid first)
    (walk_rows rows mid t (rest_all (λ row. IsRowInRange row.0) row rows fits) (rest_all (λ row. IsMultiplier row.1) row rows small) (let e = marks in omega arith) splits few)

-- ---- trees

walk_sum_line : (depth q n : ℕ) (void : Bool) (s : Size) → depth ≤ DEPTH → 1 ≤ q → q ≤ DENOMINATOR → n ≤ MARKS → Walk (NodeDue depth ∷ []) (replicate n RowDue) ((cond void (line.Void n) (line.Sum q n)) ∷ []) s s
walk_sum_line depth q n true s deep low high few = walk_line (NodeDue depth) (replicate n RowDue) (line.Void n) s few refl (not_less DEPTH depth deep) refl
walk_sum_line depth q n false s deep low high few = walk_line (NodeDue depth) (replicate n RowDue) (line.Sum q n) s (low, high, few) refl (not_less DEPTH depth deep) refl

some_marks : (row : Row) → 1 ≤ row_marks row
some_marks (Border l s k) = omega arith
some_marks (Escape v k set) = omega arith

few_rows : (rows : List (Row × ℤ)) → length rows ≤ mark_count rows
few_rows [] = omega arith
few_rows (row ∷ rows) = let h = few_rows rows in let k = some_marks row.0 in omega arith

walk_tree : (tree : Tree Leaf) (depth : ℕ) (s t : Size) → IsTreeInRange tree → depth_of tree + depth ≤ DEPTH → t.splits ≡ s.splits + split_count tree → t.splits ≤ SPLITS
    → t.marks ≡ s.marks + tree_marks tree → t.marks ≤ MARKS → Walk (NodeDue depth ∷ []) [] (tree_lines tree) s t
walk_tree (LeafNode Fixed) depth s t fits deep splits few_splits marks few_marks =
    walk_size (NodeDue depth ∷ []) [] (line.Fixed ∷ []) s s t (same_size s t (let e = marks in omega arith) (let e = splits in omega arith))
    (walk_line (NodeDue depth) [] line.Fixed s tt refl (not_less DEPTH depth (omega arith)) refl)
walk_tree (LeafNode (Sum sum)) depth s t fits deep splits few_splits marks few_marks =
    let count = few_rows sum.rows in
    let some = fits.some in
    let most = fits.most in
    walk_then (NodeDue depth ∷ []) (replicate (length sum.rows) RowDue) [] _ (map row_line sum.rows) s s t
    (walk_sum_line depth sum.denominator (length sum.rows) sum.void s (omega arith) some most (omega arith))
    (walk_rows sum.rows s t fits.rows fits.multipliers marks (let e = splits in omega arith) few_marks)
walk_tree (Split' v k p with q rest) depth s t fits deep splits few_splits marks few_marks =
    let one : Size = grown (line.Split v k) s in
    let mid : Size = record { marks = s.marks + tree_marks with; splits = s.splits + 1 + split_count with } in
    let node : Walk (NodeDue depth ∷ []) (NodeDue (depth + 1) ∷ NodeDue (depth + 1) ∷ []) (line.Split v k ∷ []) s one =
    walk_line (NodeDue depth) (NodeDue (depth + 1) ∷ NodeDue (depth + 1) ∷ []) (line.Split v k) s (fits.0, fits.1) refl (not_less DEPTH depth (omega arith)) (not_less SPLITS (s.splits + 1) (omega arith)) in
    let lower : Walk (NodeDue (depth + 1) ∷ []) [] (tree_lines with) one mid = walk_tree with (depth + 1) one mid fits.2 (omega arith) refl (omega arith) refl (omega arith) in
    let other : Walk (NodeDue (depth + 1) ∷ []) [] (tree_lines rest) mid t = walk_tree rest (depth + 1) mid t fits.3 (omega arith) (omega arith) few_splits (omega arith) few_marks in
    walk_then (NodeDue depth ∷ []) (NodeDue (depth + 1) ∷ NodeDue (depth + 1) ∷ []) [] (line.Split v k ∷ []) (tree_lines with ++ tree_lines rest) s one t node
    (walk_then (NodeDue (depth + 1) ∷ NodeDue (depth + 1) ∷ []) (NodeDue (depth + 1) ∷ []) [] (tree_lines with) (tree_lines rest) one mid t
    (walk_front (NodeDue (depth + 1) ∷ []) [] (NodeDue (depth + 1) ∷ []) (tree_lines with) one mid lower) other)

-- ---- regions and areas

walk_classes : (xs : List ℕ) (s : Size) → All (λ class. class < CLASSES) xs → Walk (replicate (length xs) ClassDue) [] (map line.Class xs) s s
walk_classes [] s all = walk_nothing [] s
walk_classes (x ∷ xs) s all =
    let rest = replicate (length xs) ClassDue in
    let first : Walk (ClassDue ∷ []) [] (line.Class x ∷ []) s s = walk_line ClassDue [] (line.Class x) s (all 0 0 (omega arith)) refl refl refl in
    walk_then (ClassDue ∷ rest) rest [] (line.Class x ∷ []) (map line.Class xs) s s s (walk_front (ClassDue ∷ []) [] rest (line.Class x ∷ []) s s first) (walk_classes xs s (rest_all (λ class. class < CLASSES) x xs all))

walk_places : (xs : List ℕ) (s : Size) → All (λ region. region < AREAS) xs → Walk (replicate (length xs) RegionDue) [] (map line.Region xs) s s
walk_places [] s all = walk_nothing [] s
walk_places (x ∷ xs) s all =
    let rest = replicate (length xs) RegionDue in
    let first : Walk (RegionDue ∷ []) [] (line.Region x ∷ []) s s = walk_line RegionDue [] (line.Region x) s (all 0 0 (omega arith)) refl refl refl in
    walk_then (RegionDue ∷ rest) rest [] (line.Region x ∷ []) (map line.Region xs) s s s (walk_front (RegionDue ∷ []) [] rest (line.Region x ∷ []) s s first) (walk_places xs s (rest_all (λ region. region < AREAS) x xs all))

-- ---- the head

fits_there : (hopeless : Bool) (o : Option ℤ) → is_none o ≡ hopeless → fits_status hopeless o ≡ true
fits_there true o e = e
fits_there false o e = ap not e

none_too_many : (hopeless : Bool) (n : ℕ) → (hopeless ≡ true → n ≡ 0) → has_too_many hopeless n ≡ false
none_too_many true n none = ap (λ n. not (n == 0)) (none refl)
none_too_many false n none = refl

walk_head : (c : Certificate) (s : Size) → HasSpelling c → Walk (VersionDue ∷ []) (behind_regions (is_hopeless c.status) c.areas (length c.grouping.class_of)) (head_lines c) s s
walk_head c s has =
    let h = is_hopeless c.status in
    walk_then _ (StatusDue ∷ []) _ (line.Version ∷ []) _ s s s (walk_line VersionDue (StatusDue ∷ []) line.Version s tt refl refl refl)
    (walk_then _ (CostDue h ∷ []) _ (line.Status c.status ∷ []) _ s s s (walk_line StatusDue (CostDue h ∷ []) (line.Status c.status) s tt refl refl refl)
    (walk_then _ (BoundDue h ∷ []) _ (line.Cost c.cost ∷ []) _ s s s (walk_line (CostDue h) (BoundDue h ∷ []) (line.Cost c.cost) s has.cost.fits (right_cost h c.cost (fits_there h c.cost has.cost.there)) refl refl)
    (walk_then _ (AreasDue h ∷ []) _ (line.Bound c.bound ∷ []) _ s s s (walk_line (BoundDue h) (AreasDue h ∷ []) (line.Bound c.bound) s has.bound.fits (right_bound h c.bound (fits_there h c.bound has.bound.there)) refl refl)
    (walk_then _ (RegionsDue h c.areas ∷ []) _ (line.Areas c.areas ∷ []) _ s s s (walk_line (AreasDue h) (RegionsDue h c.areas ∷ []) (line.Areas c.areas) s has.areas refl refl refl)
    (walk_line (RegionsDue h c.areas) (behind_regions h c.areas (length c.grouping.class_of)) (line.Regions (length c.grouping.class_of)) s has.few
    (right_regions h c.areas (length c.grouping.class_of) (none_too_many h (length c.grouping.class_of) has.none)) refl refl)))))

-- ---- the whole

walk_certificate : (c : Certificate) → HasSpelling c → Walk (VersionDue ∷ []) [] (certificate_lines c) no_size (record { marks = tree_marks c.tree; splits = split_count c.tree })
unfolding behind_regions
walk_certificate c has =
    let size : Size = record { marks = tree_marks c.tree; splits = split_count c.tree } in
    let xs = replicate (length c.grouping.class_of) ClassDue in
    let places = cond (is_hopeless c.status) 0 c.areas in
    let ys = replicate places RegionDue in
    let ends = NodeDue 0 ∷ EndDue ∷ [] in
    let classes = map line.Class c.grouping.class_of in
    let regions = map line.Region c.grouping.region_of in
    let first : Walk xs [] classes no_size no_size = walk_classes c.grouping.class_of no_size has.classes in
    let second : Walk ys [] regions no_size no_size = subst (λ n. Walk (replicate n RegionDue) [] regions no_size no_size) has.one_each (walk_places c.grouping.region_of no_size has.regions) in
    let groups : Walk (xs ++ ys) [] (classes ++ regions) no_size no_size = walk_then (xs ++ ys) ys [] classes regions no_size no_size no_size (walk_front xs [] ys classes no_size no_size first) second in
    let deep : depth_of c.tree + 0 ≤ DEPTH = let h = has.tree.depth in omega arith in
    let tree : Walk (NodeDue 0 ∷ []) [] (tree_lines c.tree) no_size size = walk_tree c.tree 0 no_size size has.tree.in_range deep (omega arith) has.tree.splits (omega arith) has.tree.marks in
    let last : Walk (EndDue ∷ []) [] (line.End ∷ []) size size = walk_line EndDue [] line.End size tt refl refl refl in
    let with_tree : Walk ((xs ++ ys) ++ ends) (EndDue ∷ []) ((classes ++ regions) ++ tree_lines c.tree) no_size size =
    walk_then ((xs ++ ys) ++ ends) ends (EndDue ∷ []) (classes ++ regions) (tree_lines c.tree) no_size no_size size
    (walk_front (xs ++ ys) [] ends (classes ++ regions) no_size no_size groups) (walk_front (NodeDue 0 ∷ []) [] (EndDue ∷ []) (tree_lines c.tree) no_size size tree) in
    walk_then (VersionDue ∷ []) ((xs ++ ys) ++ ends) [] (head_lines c) (((classes ++ regions) ++ tree_lines c.tree) ++ line.End ∷ []) no_size no_size size (walk_head c no_size has)
    (walk_then ((xs ++ ys) ++ ends) (EndDue ∷ []) [] ((classes ++ regions) ++ tree_lines c.tree) (line.End ∷ []) no_size size size with_tree last)

pub lines_in_range : (c : Certificate) → HasSpelling c → AreInRange (certificate_lines c)
lines_in_range c has = (walk_certificate c has).in_range

no_text : texts_in [] ≡ [] ∷ []
unfolding texts_in
no_text = refl

-- lines are cut apart again
pub texts_apart : (lines : List Line) → AreInRange lines → texts_in (text_of_lines (map line_text lines)) ≡ map line_text lines ++ [] ∷ []
texts_apart [] fits = no_text
texts_apart (l ∷ lines) fits = line_cut_off l (text_of_lines (map line_text lines)) fits.0 ∙ ap (λ t. line_text l ∷ t) (texts_apart lines fits.1)

pub spelled_without_fault : (text : List ℕ) (c : Certificate) → Spells text c → first_fault text ≡ None
unfolding first_fault
spelled_without_fault text c s =
    let lines = certificate_lines c in
    let w = walk_certificate c s.has_spelling in
    let g = w.goes 1 ([] ∷ []) (omega arith) in
    ap (λ t. fault_from (VersionDue ∷ []) 1 no_size (texts_in t)) (s.text_is ∙ spelling_is c)
    ∙ ap (fault_from (VersionDue ∷ []) 1 no_size) (texts_apart lines w.in_range)
    ∙ g.1.faults []

-- What is read of a tree, from what is read of its lines.
use Rattle.std.proofs.Common.{◌≡◌, ℕ, zero, suc, ◌+◌, ◌-◌, ◌<◌, ◌≤◌, ◌^◌, Bool, true, false, cond, not, nat_lt, List, [], ◌∷◌, ◌++◌, length, map, replicate, Option, None, Some, refl, ap, sym, subst, ◌∙◌, arith, All, append_assoc, length-append}
use Rattle.std.specs.Prelude.{ℤ, slice_index_or}
use Rattle.std.proofs.lemmas.Bool.{ltb-true, ltb-false, lt-ltb}
use Rattle.std.proofs.lemmas.List.{map-append}
use Rattle.agg_base.specs.declared.limits.TheConstants.{DEPTH, SPLITS, MARKS, DENOMINATOR}
use Rattle.row_laws.specs.declared.row.Row.{Row}
use Rattle.row_laws.specs.declared.leaf.Leaf.{Leaf}
use Rattle.row_laws.specs.declared.leaf.Leaf.TheVariants as leaf
use Rattle.row_laws.specs.declared.tree.Tree.{Tree, Leaf as LeafNode, Split'}
use Rattle.row_laws.specs.Values.{RowSum, row_marks, mark_count}
use Rattle.row_laws.specs.Trees.{split_count, depth_of}
use Rattle.cert_text.specs.Lines.{IsRowInRange, IsMultiplier}
use Rattle.cert_reader.specs.Lines.{IsInRange}
use Rattle.cert_text.specs.TreeTexts.{tree_marks, IsTreeInRange}
use Rattle.cert_reader.specs.CertLines.{row_line, tree_lines}
use Rattle.cert_reader.specs.declared.line.Line.{Line}
use Rattle.cert_reader.specs.declared.line.Line.TheVariants as line
use Rattle.cert_text.specs.declared.fault.CertFault.{CertFault}
use Rattle.cert_text.specs.declared.fault.CertFault.TheVariants as fault
use Rattle.cert_reader.specs.Due.{Due, NodeDue, RowDue, after, after_node}
use Rattle.cert_reader.specs.Faults.{Size, grown, is_past_limit, is_too_deep}
use Rattle.cert_reader.specs.Reads.{Left, IsNext, Fails, Reads, sized, with_marks}
use Rattle.cert_reader.specs.Nodes.{node_line, later_nodes, IsSplitOf, ReadsNode, ReadsRow, ReadsRows, ReadsTree}
use Rattle.cert_reader.specs.declared.tree_reader.Node.{Node}
use Rattle.cert_reader.specs.declared.tree_reader.Node.TheVariants.{Split, Fixed, Sum, Void}
use Rattle.cert_reader.proofs.SourceLemmas.{wrong_line, deep_line, limit_line, right_line, next_in_range, reads_then, reads_front, fails_front, fails_later, reads_more, reads_all, reads_nothing, all_none, all_snoc}

-- ---- nodes

pub after_of_node : (depth : ℕ) (node : Node) → after (NodeDue depth) (node_line node) ≡ Some (later_nodes depth node)
after_of_node depth (Split v k) = refl
after_of_node depth Fixed = refl
after_of_node depth (Sum q n) = refl
after_of_node depth (Void n) = refl

-- a node that is too deep
pub deep_node : (depth : ℕ) (node : Node) (old new : Left) → IsNext old new (node_line node) → DEPTH < depth → Fails (NodeDue depth ∷ []) old (fault.TooDeep old.number)
deep_node depth node old new is h = deep_line (NodeDue depth) old new (node_line node) (later_nodes depth node) is (after_of_node depth node) (lt-ltb DEPTH depth h)

pub not_less : (a b : ℕ) → b ≤ a → nat_lt a b ≡ false
not_less a b h = by_case (nat_lt a b) refl
  where
    by_case : (t : Bool) → nat_lt a b ≡ t → t ≡ false
    by_case true e = let less = ltb-true a b e in absurd (omega arith)
    by_case false e = refl

not_true : (a b : Bool) → not a ≡ b → a ≡ false → b ≡ true
not_true a b e f = sym e ∙ ap not f

not_false : (a b : Bool) → not a ≡ b → a ≡ true → b ≡ false
not_false a b e f = sym e ∙ ap not f

-- a split too many
pub limit_node : (depth : ℕ) (node : Node) (old new : Left) (room : Bool) → IsNext old new (node_line node) → depth ≤ DEPTH
    → not room ≡ is_past_limit (node_line node) new.size → room ≡ false → Fails (NodeDue depth ∷ []) old (fault.Limit old.number)
limit_node depth node old new room is h past none =
    limit_line (NodeDue depth) old new (node_line node) (later_nodes depth node) is (after_of_node depth node) (not_less DEPTH depth h)
    (ap (is_past_limit (node_line node)) (sym is.size_is) ∙ not_true room _ past none)

-- a split within the limit
few_splits_of : (node : Node) (size : Size) → is_past_limit (node_line node) size ≡ false → size.splits ≤ SPLITS → (grown (node_line node) size).splits ≤ SPLITS
few_splits_of (Split v k) size e h = ltb-false SPLITS (size.splits + 1) e
few_splits_of Fixed size e h = h
few_splits_of (Sum q n) size e h = h
few_splits_of (Void n) size e h = h

pub node_read : (depth : ℕ) (node : Node) (old new counted : Left) (room : Bool) → IsNext old new (node_line node) → depth ≤ DEPTH
    → not room ≡ is_past_limit (node_line node) new.size → room ≡ true → counted ≡ sized new (grown (node_line node) new.size) → ReadsNode depth node old counted
node_read depth node old new counted room is h past some same =
    let few : is_past_limit (node_line node) old.size ≡ false = ap (is_past_limit (node_line node)) (sym is.size_is) ∙ not_false room _ past some in
    let e : counted ≡ sized new (grown (node_line node) old.size) = same ∙ ap (λ s. sized new (grown (node_line node) s)) is.size_is in
    record {
      reads = right_line (NodeDue depth) old new (node_line node) (later_nodes depth node) is (after_of_node depth node) (not_less DEPTH depth h) few counted e;
      in_range = next_in_range old new (node_line node) is;
      deep = h;
      size_is = ap (λ l. l.size) e;
      splits = λ below. subst (λ s. s.splits ≤ SPLITS) (sym (ap (λ l. l.size) e)) (few_splits_of node old.size few below);
    }

-- ---- rows

pub limit_row : (row : Row) (m : ℤ) (old new : Left) (room : Bool) → IsNext old new (line.Row row m) → not room ≡ nat_lt MARKS (new.size.marks + row_marks row) → room ≡ false → Fails (RowDue ∷ []) old (fault.Limit old.number)
limit_row row m old new room is past none =
    limit_line RowDue old new (line.Row row m) [] is refl refl (ap (λ s. nat_lt MARKS (s.marks + row_marks row)) (sym is.size_is) ∙ not_true room _ past none)

pub row_read : (row : Row) (m : ℤ) (old new counted : Left) (room : Bool) → IsNext old new (line.Row row m) → not room ≡ nat_lt MARKS (new.size.marks + row_marks row) → room ≡ true
    → counted ≡ with_marks new (new.size.marks + row_marks row) → ReadsRow (row, m) old counted
row_read row m old new counted room is past some same =
    let few : nat_lt MARKS (old.size.marks + row_marks row) ≡ false = ap (λ s. nat_lt MARKS (s.marks + row_marks row)) (sym is.size_is) ∙ not_false room _ past some in
    let e : counted ≡ sized new (grown (line.Row row m) old.size) = same ∙ ap (λ s. sized new (record { marks = s.marks + row_marks row; splits = s.splits })) is.size_is in
    let fits = next_in_range old new (line.Row row m) is in
    record {
      reads = right_line RowDue old new (line.Row row m) [] is refl refl few counted e;
      in_range = fits.0;
      multiplier = fits.1;
      marks = ap (λ l. l.size.marks) e;
      splits = ap (λ l. l.size.splits) e;
      few = subst (λ n. n ≤ MARKS) (sym (ap (λ l. l.size.marks) e)) (ltb-false MARKS (old.size.marks + row_marks row) few);
    }

-- the same, with the multiplier by another name
pub row_read_as : (row : Row) (m n : ℤ) (old new counted : Left) (room : Bool) → IsNext old new (line.Row row m) → not room ≡ nat_lt MARKS (new.size.marks + row_marks row) → room ≡ true
    → counted ≡ with_marks new (new.size.marks + row_marks row) → n ≡ m → ReadsRow (row, n) old counted
row_read_as row m n old new counted room is past some same e = subst (λ n. ReadsRow (row, n) old counted) (sym e) (row_read row m old new counted room is past some same)

pub marks_snoc : (rows : List (Row × ℤ)) (row : Row × ℤ) → mark_count (rows ++ row ∷ []) ≡ mark_count rows + row_marks row.0
marks_snoc [] row = omega arith
marks_snoc (r ∷ rows) row = let more = marks_snoc rows row in omega arith

-- so many of a leaf's rows were read
pub record SomeRows (count place : ℕ) (rows : List (Row × ℤ)) (old new : Left) : Type 0 where
  pub reads : Reads (replicate count RowDue) (replicate (count - place) RowDue) (map row_line rows) old new
  pub count_is : length rows ≡ place
  pub in_range : All (λ row. IsRowInRange row.0) rows
  pub multipliers : All (λ row. IsMultiplier row.1) rows
  pub marks : new.size.marks ≡ old.size.marks + mark_count rows
  pub splits : new.size.splits ≡ old.size.splits
  pub few : old.size.marks ≤ MARKS → new.size.marks ≤ MARKS

pub no_rows : (count : ℕ) (a : Left) → SomeRows count 0 [] a a
no_rows count a = record {
  reads = subst (λ n. Reads (replicate count RowDue) (replicate n RowDue) [] a a) (let e : count ≡ count - 0 = omega arith in e) (reads_nothing (replicate count RowDue) a a refl);
  count_is = refl;
  in_range = all_none (λ row. IsRowInRange row.0);
  multipliers = all_none (λ row. IsMultiplier row.1);
  marks = omega arith;
  splits = refl;
  few = λ h. h;
}

pub one_row_more : (count place : ℕ) (rows : List (Row × ℤ)) (row : Row × ℤ) (a b c : Left) → place < count → SomeRows count place rows a b → ReadsRow row b c → SomeRows count (place + 1) (rows ++ row ∷ []) a c
one_row_more count place rows row a b c h r s = record {
  reads = subst (λ ls. Reads (replicate count RowDue) (replicate (count - (place + 1)) RowDue) ls a c) (sym (map-append row_line rows (row ∷ []))) (reads_more RowDue count place (map row_line rows) (row_line row) a b c h r.reads s.reads);
  count_is = length-append rows (row ∷ []) ∙ ap (λ n. n + 1) r.count_is;
  in_range = all_snoc (λ row. IsRowInRange row.0) rows row r.in_range s.in_range;
  multipliers = all_snoc (λ row. IsMultiplier row.1) rows row r.multipliers s.multiplier;
  marks = let e = marks_snoc rows row in let f = r.marks in let g = s.marks in omega arith;
  splits = s.splits ∙ r.splits;
  few = λ below. s.few;
}

pub all_rows : (count place : ℕ) (rows : List (Row × ℤ)) (a b : Left) → count ≤ place → place ≤ count → SomeRows count place rows a b → ReadsRows count rows a b
all_rows count place rows a b h k r = record {
  reads = reads_all RowDue count place (map row_line rows) a b h r.reads;
  count_is = let e = r.count_is in omega arith;
  in_range = r.in_range;
  multipliers = r.multipliers;
  marks = r.marks;
  splits = r.splits;
  few = r.few;
}

-- ---- trees

pub fixed_read : (depth : ℕ) (a b : Left) → ReadsNode depth Fixed a b → ReadsTree depth (LeafNode leaf.Fixed) a b
fixed_read depth a b r = record {
  reads = r.reads;
  in_range = tt;
  deep = let h = r.deep in omega arith;
  splits = let e = ap (λ s. s.splits) r.size_is in omega arith;
  marks = let e = ap (λ s. s.marks) r.size_is in omega arith;
  few_splits = r.splits;
  few_marks = let e = ap (λ s. s.marks) r.size_is in λ h. omega arith;
}

-- a leaf whose first line is that of a node without room in the size
sum_read : (depth : ℕ) (node : Node) (sum : RowSum) (a b c : Left) → later_nodes depth node ≡ replicate (length sum.rows) RowDue → tree_lines (LeafNode (leaf.Sum sum)) ≡ node_line node ∷ map row_line sum.rows
    → (grown (node_line node) a.size ≡ a.size) → IsTreeInRange (LeafNode (leaf.Sum sum)) → ReadsNode depth node a b → ReadsRows (length sum.rows) sum.rows b c → ReadsTree depth (LeafNode (leaf.Sum sum)) a c
sum_read depth node sum a b c later lines same fits r s =
    let due : Reads (NodeDue depth ∷ []) (replicate (length sum.rows) RowDue) (node_line node ∷ []) a b = subst (λ d. Reads (NodeDue depth ∷ []) d (node_line node ∷ []) a b) later r.reads in
    let size : b.size ≡ a.size = r.size_is ∙ same in
    let split_size : b.size.splits ≡ a.size.splits = ap (λ s. s.splits) size in
    let mark_size : b.size.marks ≡ a.size.marks = ap (λ s. s.marks) size in
    let rows_splits = s.splits in
    let rows_marks = s.marks in
    record {
      reads = subst (λ ls. Reads (NodeDue depth ∷ []) [] ls a c) (sym lines) (reads_then (NodeDue depth ∷ []) (replicate (length sum.rows) RowDue) [] (node_line node ∷ []) (map row_line sum.rows) a b c due s.reads);
      in_range = fits;
      deep = let h = r.deep in omega arith;
      splits = omega arith;
      marks = omega arith;
      few_splits = λ h. omega arith;
      few_marks = λ h. s.few (omega arith);
    }

pub cost_read : (depth q count : ℕ) (rows : List (Row × ℤ)) (a b c : Left) → ReadsNode depth (Sum q count) a b → ReadsRows count rows b c
    → ReadsTree depth (LeafNode (leaf.Sum (record { denominator = q; void = false; rows = rows }))) a c
cost_read depth q count rows a b c r s =
    let e : count ≡ length rows = sym s.count_is in
    let node : ReadsNode depth (Sum q (length rows)) a b = subst (λ n. ReadsNode depth (Sum q n) a b) e r in
    sum_read depth (Sum q (length rows)) (record { denominator = q; void = false; rows = rows }) a b c refl refl refl
    (record { some = node.in_range.0; most = node.in_range.1; void = λ is. absurd (false_true is); rows = s.in_range; multipliers = s.multipliers })
    node (subst (λ n. ReadsRows n rows b c) e s)
  where
    false_true : false ≡ true → ⊥
    false_true is = (cc)

pub void_read : (depth count : ℕ) (rows : List (Row × ℤ)) (a b c : Left) → ReadsNode depth (Void count) a b → ReadsRows count rows b c
    → ReadsTree depth (LeafNode (leaf.Sum (record { denominator = 1; void = true; rows = rows }))) a c
void_read depth count rows a b c r s =
    let e : count ≡ length rows = sym s.count_is in
    let node : ReadsNode depth (Void (length rows)) a b = subst (λ n. ReadsNode depth (Void n) a b) e r in
    sum_read depth (Void (length rows)) (record { denominator = 1; void = true; rows = rows }) a b c refl refl refl
    (record { some = omega arith; most = omega arith; void = λ is. refl; rows = s.in_range; multipliers = s.multipliers })
    node (subst (λ n. ReadsRows n rows b c) e s)

pub split_read : (depth v k : ℕ) (tree first second : Tree Leaf) (a b c d : Left) → IsSplitOf v k first second tree → ReadsNode depth (Split v k) a b → ReadsTree (depth + 1) first b c → ReadsTree (depth + 1) second c d → ReadsTree depth tree a d
split_read depth v k (LeafNode l) first second a b c d is r s t = absurd is
split_read depth v k (Split' u j p with q rest) first second a b c d is r s t =
    let s' : ReadsTree (depth + 1) with b c = subst (λ t. ReadsTree (depth + 1) t b c) (sym is.2) s in
    let t' : ReadsTree (depth + 1) rest c d = subst (λ t. ReadsTree (depth + 1) t c d) (sym is.3) t in
    let node : ReadsNode depth (Split u j) a b = subst (λ u. ReadsNode depth (Split u j) a b) (sym is.0) (subst (λ j. ReadsNode depth (Split v j) a b) (sym is.1) r) in
    let children = reads_then (NodeDue (depth + 1) ∷ NodeDue (depth + 1) ∷ []) (NodeDue (depth + 1) ∷ []) [] (tree_lines with) (tree_lines rest) b c d
    (reads_front (NodeDue (depth + 1) ∷ []) [] (NodeDue (depth + 1) ∷ []) (tree_lines with) b c s'.reads) t'.reads in
    let one_more : b.size.splits ≡ a.size.splits + 1 = ap (λ s. s.splits) node.size_is in
    let same_marks : b.size.marks ≡ a.size.marks = ap (λ s. s.marks) node.size_is in
    let left_splits = s'.splits in
    let right_splits = t'.splits in
    let left_marks = s'.marks in
    let right_marks = t'.marks in
    let left_deep = s'.deep in
    let right_deep = t'.deep in
    record {
      reads = reads_then (NodeDue depth ∷ []) (NodeDue (depth + 1) ∷ NodeDue (depth + 1) ∷ []) [] (line.Split u j ∷ []) (tree_lines with ++ tree_lines rest) a b d node.reads children;
      in_range = (node.in_range.0, node.in_range.1, s'.in_range, t'.in_range);
      deep = omega arith;
      splits = omega arith;
      marks = omega arith;
      few_splits = λ h. t'.few_splits (s'.few_splits (node.splits h));
      few_marks = λ h. t'.few_marks (s'.few_marks (omega arith));
    }

-- a fault of a child
pub left_fails : (depth v k : ℕ) (a b : Left) (f : CertFault) → ReadsNode depth (Split v k) a b → Fails (NodeDue (depth + 1) ∷ []) b f → Fails (NodeDue depth ∷ []) a f
left_fails depth v k a b f r e = fails_later (NodeDue depth ∷ []) (NodeDue (depth + 1) ∷ NodeDue (depth + 1) ∷ []) (line.Split v k ∷ []) a b f r.reads (fails_front (NodeDue (depth + 1) ∷ []) (NodeDue (depth + 1) ∷ []) b f e)

pub right_fails : (depth v k : ℕ) (first : Tree Leaf) (a b c : Left) (f : CertFault) → ReadsNode depth (Split v k) a b → ReadsTree (depth + 1) first b c → Fails (NodeDue (depth + 1) ∷ []) c f → Fails (NodeDue depth ∷ []) a f
right_fails depth v k first a b c f r s e =
    fails_later (NodeDue depth ∷ []) (NodeDue (depth + 1) ∷ NodeDue (depth + 1) ∷ []) (line.Split v k ∷ []) a b f r.reads
    (fails_later (NodeDue (depth + 1) ∷ NodeDue (depth + 1) ∷ []) (NodeDue (depth + 1) ∷ []) (tree_lines first) b c f (reads_front (NodeDue (depth + 1) ∷ []) [] (NodeDue (depth + 1) ∷ []) (tree_lines first) b c s.reads) e)

-- a fault of a row
pub cost_fails : (depth q count : ℕ) (a b : Left) (f : CertFault) → ReadsNode depth (Sum q count) a b → Fails (replicate count RowDue) b f → Fails (NodeDue depth ∷ []) a f
cost_fails depth q count a b f r e = fails_later (NodeDue depth ∷ []) (replicate count RowDue) (line.Sum q count ∷ []) a b f r.reads e

pub void_fails : (depth count : ℕ) (a b : Left) (f : CertFault) → ReadsNode depth (Void count) a b → Fails (replicate count RowDue) b f → Fails (NodeDue depth ∷ []) a f
void_fails depth count a b f r e = fails_later (NodeDue depth ∷ []) (replicate count RowDue) (line.Void count ∷ []) a b f r.reads e

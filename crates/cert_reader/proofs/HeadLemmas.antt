-- What is read of a certificate, from what is read of its lines.
use Rattle.std.proofs.Common.{◌≡◌, ℕ, ◌+◌, ◌-◌, ◌<◌, ◌≤◌, ◌==◌, Bool, true, false, cond, not, List, [], ◌∷◌, ◌++◌, length, map, replicate, Option, None, Some, refl, ap, sym, subst, ◌∙◌, arith, rules, All, append_assoc, append-nil, FitsSigned, inl, inr}
use Rattle.std.specs.Prelude.{ℤ, is_none, ◌⊎◌}
use Rattle.std.specs.Option.{ForSome}
use Rattle.std.specs.Int.{w128}
use Rattle.std.specs.List.{slice_split, join_with_byte}
use Rattle.std.proofs.lemmas.List.Splits.{join_with_byte-slice_split}
use Rattle.std.proofs.lemmas.Bool.Decides.{Decides-eqb}
use Rattle.agg_base.specs.Texts.{text_of_lines}
use Rattle.agg_base.specs.declared.limits.TheConstants.{AREAS, CLASSES, DEPTH, SPLITS, MARKS}
use Rattle.row_laws.specs.declared.leaf.Leaf.{Leaf}
use Rattle.row_laws.specs.declared.tree.Tree.{Tree}
use Rattle.row_laws.specs.Trees.{split_count, depth_of}
use Rattle.cert_reader.specs.Lines.{line_text}
use Rattle.cert_text.specs.TreeTexts.{tree_marks}
use Rattle.cert_reader.specs.CertLines.{tree_lines}
use Rattle.cert_text.specs.CertTexts.{is_hopeless, IsStated, HasSpelling, Spells, spelling}
use Rattle.cert_reader.specs.CertLines.{certificate_lines}
use Rattle.cert_text.specs.declared.certificate.CertStatus.{CertStatus}
use Rattle.cert_text.specs.declared.certificate.Certificate.{Certificate}
use Rattle.cert_reader.specs.declared.line.Line.{Line}
use Rattle.cert_reader.specs.declared.line.Line.TheVariants as line
use Rattle.cert_text.specs.declared.fault.CertFault.{CertFault}
use Rattle.cert_text.specs.declared.fault.CertFault.TheVariants as fault
use Rattle.cert_reader.specs.Due.{Due, VersionDue, StatusDue, CostDue, BoundDue, AreasDue, RegionsDue, ClassDue, RegionDue, NodeDue, EndDue, behind_regions, fits_status, has_too_many, after_cost, after_bound, after_regions}
use Rattle.cert_reader.specs.Faults.{Size, no_size, texts_in, fault_from, first_fault}
use Rattle.cert_reader.specs.Reads.{Left, fault_at, Fails, Reads, ReadsPlainly}
use Rattle.cert_reader.specs.Nodes.{ReadsTree}
use Rattle.cert_reader.specs.Heads.{head_of, places_in, behind_head, lines_of_head, ReadsHead, ReadsBody}
use Rattle.cert_reader.specs.declared.reader.Head.{Head}
use Rattle.cert_reader.proofs.BridgeLemmas.{spelling_is}
use Rattle.cert_reader.proofs.SourceLemmas.{reads_then, reads_front, fails_front, fails_later, plainly_then}

-- ---- costs, bounds and counts of regions

pub right_cost : (hopeless : Bool) (o : Option ℤ) → fits_status hopeless o ≡ true → after_cost hopeless (line.Cost o) ≡ Some (BoundDue hopeless ∷ [])
right_cost hopeless o e = ap (λ b. cond b (Some (BoundDue hopeless ∷ [])) None) e

pub wrong_cost : (hopeless : Bool) (o : Option ℤ) → fits_status hopeless o ≡ false → after_cost hopeless (line.Cost o) ≡ None
wrong_cost hopeless o e = ap (λ b. cond b (Some (BoundDue hopeless ∷ [])) None) e

pub right_bound : (hopeless : Bool) (o : Option ℤ) → fits_status hopeless o ≡ true → after_bound hopeless (line.Bound o) ≡ Some (AreasDue hopeless ∷ [])
right_bound hopeless o e = ap (λ b. cond b (Some (AreasDue hopeless ∷ [])) None) e

pub wrong_bound : (hopeless : Bool) (o : Option ℤ) → fits_status hopeless o ≡ false → after_bound hopeless (line.Bound o) ≡ None
wrong_bound hopeless o e = ap (λ b. cond b (Some (AreasDue hopeless ∷ [])) None) e

pub right_regions : (hopeless : Bool) (areas n : ℕ) → has_too_many hopeless n ≡ false → after_regions hopeless areas (line.Regions n) ≡ Some (behind_regions hopeless areas n)
right_regions hopeless areas n e = ap (λ b. cond b None (Some (behind_regions hopeless areas n))) e

pub wrong_regions : (hopeless : Bool) (areas n : ℕ) → has_too_many hopeless n ≡ true → after_regions hopeless areas (line.Regions n) ≡ None
wrong_regions hopeless areas n e = ap (λ b. cond b None (Some (behind_regions hopeless areas n))) e

-- a dash stands exactly where no grouping is feasible
pub is_there : (hopeless : Bool) (o : Option ℤ) → fits_status hopeless o ≡ true → is_none o ≡ hopeless
is_there true o e = e
is_there false None e = (cc)
is_there false (Some n) e = refl

true_false : true ≡ false → ⊥
true_false h = (cc)

is_none_left : (n : ℕ) (b : Bool) → (n == 0) ≡ b → not (n == 0) ≡ false → n ≡ 0
is_none_left n true f e = (Decides-eqb n 0).0 f
is_none_left n false f e = absurd (true_false (sym (ap not f) ∙ e))

pub no_region : (hopeless : Bool) (n : ℕ) → has_too_many hopeless n ≡ false → hopeless ≡ true → n ≡ 0
no_region true n e is = is_none_left n (n == 0) refl e
no_region false n e is = (cc)

-- ---- the head

pub head_read : (head : Head) (a b c d e f g : Left)
    → ReadsPlainly (VersionDue ∷ []) (StatusDue ∷ []) (line.Version ∷ []) a b
    → ReadsPlainly (StatusDue ∷ []) (CostDue (is_hopeless head.status) ∷ []) (line.Status head.status ∷ []) b c
    → ReadsPlainly (CostDue (is_hopeless head.status) ∷ []) (BoundDue (is_hopeless head.status) ∷ []) (line.Cost head.cost ∷ []) c d
    → ReadsPlainly (BoundDue (is_hopeless head.status) ∷ []) (AreasDue (is_hopeless head.status) ∷ []) (line.Bound head.bound ∷ []) d e
    → ReadsPlainly (AreasDue (is_hopeless head.status) ∷ []) (RegionsDue (is_hopeless head.status) head.areas ∷ []) (line.Areas head.areas ∷ []) e f
    → ReadsPlainly (RegionsDue (is_hopeless head.status) head.areas ∷ []) (behind_head head) (line.Regions head.regions ∷ []) f g
    → ReadsPlainly (VersionDue ∷ []) (behind_head head) (lines_of_head head) a g
head_read head a b c d e f g r1 r2 r3 r4 r5 r6 =
    plainly_then _ _ _ _ _ a b g r1 (plainly_then _ _ _ _ _ b c g r2 (plainly_then _ _ _ _ _ c d g r3 (plainly_then _ _ _ _ _ d e g r4 (plainly_then _ _ _ _ _ e f g r5 r6))))

-- ---- what stands behind it

pub body_read : (head : Head) (classes places : List Line) (nodes : List Line) (a b c d e : Left)
    → Reads (replicate head.regions ClassDue) [] classes a b → Reads (replicate (places_in head) RegionDue) [] places b c
    → Reads (NodeDue 0 ∷ []) [] nodes c d → Reads (EndDue ∷ []) [] (line.End ∷ []) d e
    → Reads (behind_head head) [] (((classes ++ places) ++ nodes) ++ line.End ∷ []) a e
unfolding behind_regions
body_read head classes places nodes a b c d e r1 r2 r3 r4 =
    let xs = replicate head.regions ClassDue in
    let ys = replicate (places_in head) RegionDue in
    let groups : Reads (xs ++ ys) [] (classes ++ places) a c = reads_then (xs ++ ys) ys [] classes places a b c (reads_front xs [] ys classes a b r1) r2 in
    let front = reads_front (xs ++ ys) [] (NodeDue 0 ∷ EndDue ∷ []) (classes ++ places) a c groups in
    let tree = reads_front (NodeDue 0 ∷ []) [] (EndDue ∷ []) nodes c d r3 in
    reads_then _ (EndDue ∷ []) [] ((classes ++ places) ++ nodes) (line.End ∷ []) a d e
    (reads_then _ (NodeDue 0 ∷ EndDue ∷ []) (EndDue ∷ []) (classes ++ places) nodes a c d front tree) r4

pub classes_fail : (head : Head) (a : Left) (f : CertFault) → Fails (replicate head.regions ClassDue) a f → Fails (behind_head head) a f
unfolding behind_regions
classes_fail head a f e =
    let xs = replicate head.regions ClassDue in
    let ys = replicate (places_in head) RegionDue in
    fails_front (xs ++ ys) (NodeDue 0 ∷ EndDue ∷ []) a f (fails_front xs ys a f e)

pub places_fail : (head : Head) (classes : List Line) (a b : Left) (f : CertFault) → Reads (replicate head.regions ClassDue) [] classes a b
    → Fails (replicate (places_in head) RegionDue) b f → Fails (behind_head head) a f
unfolding behind_regions
places_fail head classes a b f r e =
    let xs = replicate head.regions ClassDue in
    let ys = replicate (places_in head) RegionDue in
    fails_front (xs ++ ys) (NodeDue 0 ∷ EndDue ∷ []) a f (fails_later (xs ++ ys) ys classes a b f (reads_front xs [] ys classes a b r) e)

groups_then_fail : (head : Head) (classes places : List Line) (a b c : Left) (f : CertFault) → Reads (replicate head.regions ClassDue) [] classes a b
    → Reads (replicate (places_in head) RegionDue) [] places b c → Fails (NodeDue 0 ∷ EndDue ∷ []) c f → Fails (behind_head head) a f
unfolding behind_regions
groups_then_fail head classes places a b c f r s e =
    let xs = replicate head.regions ClassDue in
    let ys = replicate (places_in head) RegionDue in
    let groups : Reads (xs ++ ys) [] (classes ++ places) a c = reads_then (xs ++ ys) ys [] classes places a b c (reads_front xs [] ys classes a b r) s in
    fails_later _ (NodeDue 0 ∷ EndDue ∷ []) (classes ++ places) a c f (reads_front (xs ++ ys) [] (NodeDue 0 ∷ EndDue ∷ []) (classes ++ places) a c groups) e

pub tree_fails : (head : Head) (classes places : List Line) (a b c : Left) (f : CertFault) → Reads (replicate head.regions ClassDue) [] classes a b
    → Reads (replicate (places_in head) RegionDue) [] places b c → Fails (NodeDue 0 ∷ []) c f → Fails (behind_head head) a f
tree_fails head classes places a b c f r s e = groups_then_fail head classes places a b c f r s (fails_front (NodeDue 0 ∷ []) (EndDue ∷ []) c f e)

pub end_fails : (head : Head) (classes places nodes : List Line) (a b c d : Left) (f : CertFault) → Reads (replicate head.regions ClassDue) [] classes a b
    → Reads (replicate (places_in head) RegionDue) [] places b c → Reads (NodeDue 0 ∷ []) [] nodes c d → Fails (EndDue ∷ []) d f → Fails (behind_head head) a f
end_fails head classes places nodes a b c d f r s t e =
    groups_then_fail head classes places a b c f r s (fails_later (NodeDue 0 ∷ EndDue ∷ []) (EndDue ∷ []) nodes c d f (reads_front (NodeDue 0 ∷ []) [] (EndDue ∷ []) nodes c d t) e)

-- ---- the whole text

joined : (lines : List (List ℕ)) → join_with_byte 10 (lines ++ [] ∷ []) ≡ text_of_lines lines
joined [] = refl
joined (l ∷ []) = refl
joined (l ∷ m ∷ lines) = ap (λ t. l ++ 10 ∷ t) (joined (m ∷ lines))

text_back : (text : List ℕ) (lines : List (List ℕ)) → texts_in text ≡ lines ++ [] ∷ [] → text ≡ text_of_lines lines
unfolding texts_in
text_back text lines e = sym (join_with_byte-slice_split 10 text) ∙ ap (join_with_byte 10) e ∙ joined lines

abbrev pub start_of : List ℕ → Left
start_of text = record { number = 1; size = no_size; texts = texts_in text }

spells_of : (text : List ℕ) (c : Certificate) (a b : Left) → ReadsHead (head_of c) (start_of text) a → ReadsBody (head_of c) c a b → b.texts ≡ [] ∷ [] → Spells text c
spells_of text c a b h r last =
    let same : a.size ≡ no_size = h.reads.size_is in
    let no_splits : a.size.splits ≡ 0 = ap (λ s. s.splits) same in
    let no_marks : a.size.marks ≡ 0 = ap (λ s. s.marks) same in
    let splits = r.splits (omega arith) in
    let marks = r.marks (omega arith) in
    let whole : Reads (VersionDue ∷ []) [] (certificate_lines c) (start_of text) b = reads_then (VersionDue ∷ []) (behind_head (head_of c)) [] (lines_of_head (head_of c)) _ (start_of text) a b h.reads.reads r.reads in
    record {
      has_spelling = record {
        cost = h.cost;
        bound = h.bound;
        areas = h.areas;
        few = h.regions;
        classes = r.classes;
        regions = r.regions;
        one_each = r.one_each;
        none = h.none;
        tree = record { in_range = r.in_range; depth = r.deep; splits = omega arith; marks = omega arith };
      };
      text_is = text_back text (map line_text (certificate_lines c)) (whole.texts_are ∙ ap (λ t. map line_text (certificate_lines c) ++ t) last) ∙ sym (spelling_is c);
    }

pub spells_read : (text : List ℕ) (head : Head) (c : Certificate) (a b : Left) → ReadsHead head (start_of text) a → ReadsBody head c a b → b.texts ≡ [] ∷ [] → Spells text c
spells_read text head c a b h r last =
    spells_of text c a b (subst (λ k. ReadsHead k (start_of text) a) r.head_is h) (subst (λ k. ReadsBody k c a b) r.head_is r) last

-- a fault of the whole text
pub first_of : (text : List ℕ) (f : CertFault) → Fails (VersionDue ∷ []) (start_of text) f → (f ≡ fault.Memory) ⊎ first_fault text ≡ Some f
unfolding first_fault
first_of text (fault.Line n) e = inr (e [])
first_of text (fault.TooDeep n) e = inr (e [])
first_of text (fault.Limit n) e = inr (e [])
first_of text fault.Memory e = inl refl

-- a line behind the last one
pub first_behind : (text : List ℕ) (head : Head) (c : Certificate) (a b : Left) (f : CertFault) → ReadsHead head (start_of text) a → ReadsBody head c a b → fault_at [] b ≡ Some f → first_fault text ≡ Some f
unfolding first_fault
first_behind text head c a b f h r e = h.reads.reads.faults [] ∙ r.reads.faults [] ∙ e

-- a text that was read to its end has no first fault
pub no_fault : (text : List ℕ) (head : Head) (c : Certificate) (a b : Left) → ReadsHead head (start_of text) a → ReadsBody head c a b → fault_at [] b ≡ None → first_fault text ≡ None
unfolding first_fault
no_fault text head c a b h r e = h.reads.reads.faults [] ∙ r.reads.faults [] ∙ e

pub body_fails : (text : List ℕ) (head : Head) (a : Left) (f : CertFault) → ReadsHead head (start_of text) a → Fails (behind_head head) a f → Fails (VersionDue ∷ []) (start_of text) f
body_fails text head a f h e = fails_later (VersionDue ∷ []) (behind_head head) (lines_of_head head) (start_of text) a f h.reads.reads e

-- the head, with its number of regions by another name
pub same_head : (head : Head) (n : ℕ) → n ≡ head.regions → head ≡ record head { regions = n }
same_head head n e = ap (λ m. record head { regions = m }) (sym e)

pub body_is : (head : Head) (cert : Certificate) (a b c d e : Left) → head ≡ head_of cert
    → ReadsPlainly (replicate head.regions ClassDue) [] (map line.Class cert.grouping.class_of) a b → All (λ class. class < CLASSES) cert.grouping.class_of
    → ReadsPlainly (replicate (places_in head) RegionDue) [] (map line.Region cert.grouping.region_of) b c → All (λ region. region < AREAS) cert.grouping.region_of
    → length cert.grouping.region_of ≡ places_in head → ReadsTree 0 cert.tree c d → ReadsPlainly (EndDue ∷ []) [] (line.End ∷ []) d e → ReadsBody head cert a e
body_is head cert a b c d e same r1 classes r2 regions count r3 r4 =
    let size : c.size ≡ a.size = r2.size_is ∙ r1.size_is in
    let splits : c.size.splits ≡ a.size.splits = ap (λ s. s.splits) size in
    let marks : c.size.marks ≡ a.size.marks = ap (λ s. s.marks) size in
    let tree_splits = r3.splits in
    let tree_marks = r3.marks in
    let deep = r3.deep in
    record {
      reads = body_read head (map line.Class cert.grouping.class_of) (map line.Region cert.grouping.region_of) (tree_lines cert.tree) a b c d e r1.reads r2.reads r3.reads r4.reads;
      head_is = same;
      classes = classes;
      regions = regions;
      one_each = count;
      in_range = r3.in_range;
      deep = omega arith;
      splits = λ h. (let few = r3.few_splits (omega arith) in omega arith);
      marks = λ h. (let few = r3.few_marks (omega arith) in omega arith);
    }

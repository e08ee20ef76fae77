-- The lines of a table, stage by stage: the version, the unit and the border, the classes, the rows.
use Rattle.std.proofs.Common.{◌≡◌, ◌≢◌, ℕ, zero, suc, ◌+◌, ◌*◌, ◌<◌, ◌≤◌, nat_le, ◌==◌, true, false, ℤ, List, [], ◌∷◌, ◌++◌, length, get_or, All, inl, inr, sym, ap, refl, ◌∙◌, subst, arith}
use Rattle.std.specs.List.{AllZip, concat}
use Rattle.std.proofs.lemmas.Bool.Decides.{Decides-eqb}
use Rattle.std.proofs.lemmas.List.{length-append, append_assoc, append-nil, get_or_append_left, get_or_at}
use Rattle.agg_base.specs.declared.limits.TheConstants.{CLASSES}
use Rattle.class_table.specs.Table.{Table, IsTable}
use Rattle.class_table.specs.Content.{Content, no_content, table_of, is_among}
use Rattle.class_table.specs.Reading.{is_whole}
use Rattle.class_table.specs.TableTexts.{IsVersionLine, IsBorderLine, IsRowLine, AreUnitLines, AreClassLines, AreTableLines}
use Rattle.class_table.specs.Steps.{AddAll}
use Rattle.class_table.specs.declared.draft.Due.TheVariants.{Head, Scale, Border, Body}
use Rattle.class_table.proofs.Steps.{both, zip_length}
use Rattle.class_table.proofs.Rounds.{apart_among, row_home, kept_start, kept_all, whole_table, one_more}

-- the classes and rows are due, and this is what stands in the table
abbrev pub body_at : ℕ → Table → Content
body_at r c = record { due = Body; rows = r; wide = c.wide; high = c.high; border = c.border; names = c.names; threshold = c.threshold; distance = c.distance }

abbrev pub push : Table → ℤ → List ℕ → Table
push c t name = record c { names = c.names ++ name ∷ []; threshold = c.threshold ++ t ∷ [] }

abbrev pub extend : Table → List ℕ → Table
extend c row = record c { distance = c.distance ++ row }

-- where the names so far are apart from each other and from those that follow
abbrev pub Apart : List (List ℕ) → Type 0
Apart names = (j k : ℕ) → j < k → k < length names → get_or names j [] ≢ get_or names k []

all_cons : {X : Type 0} (P : X → Type 0) (x : X) (xs : List X) → P x → All P xs → All P (x ∷ xs)
all_cons P x xs here rest zero d l = here
all_cons P x xs here rest (suc k) d l = rest k d (omega arith)

-- from the grammar to the steps

rows_add : (c : Table) (r : ℕ) (lines rows : List (List ℕ)) → AllZip IsRowLine lines rows → All (λ row. length row ≡ length c.names) rows → r + length rows ≤ length c.names → length c.distance ≡ r * length c.names
    → ((k : ℕ) → k < r + length rows → get_or (c.distance ++ concat rows) (k * length c.names + k) 0 ≡ 0) → AddAll (body_at r c) lines (body_at (r + length rows) (extend c (concat rows)))
rows_add c r [] [] all square few long home = ap (λ n. body_at n c) (let e : r ≡ r + 0 = omega arith in e) ∙ ap (λ ds. body_at (r + 0) (record c { distance = ds })) (sym (append-nil c.distance))
rows_add c r [] (row ∷ rows) all square few long home = absurd all
rows_add c r (line ∷ lines) [] all square few long home = absurd all
rows_add c r (line ∷ lines) (row ∷ rows) all square few long home =
    let n : ℕ = length c.names in
    let count : length row ≡ n = square 0 [] (omega arith) in
    let home_r : get_or (c.distance ++ (row ++ concat rows)) (r * n + r) 0 ≡ 0 = home r (omega arith) in
    let inside : r < length row = omega arith in
    let diagonal : get_or row r 0 ≡ 0 = sym (get_or_append_left row (concat rows) 0 r inside) ∙ sym (row_home c.distance (row ++ concat rows) r n long) ∙ home_r in
    let longer : length (c.distance ++ row) ≡ (r + 1) * n = length-append c.distance row ∙ ap (λ m. m + length row) long ∙ ap (λ m. r * n + m) count ∙ one_more r n in
    let place : r + 1 + length rows ≡ r + length (row ∷ rows) = omega arith in
    let regroup : (c.distance ++ row) ++ concat rows ≡ c.distance ++ (row ++ concat rows) = append_assoc c.distance row (concat rows) in
    let rest = rows_add (extend c row) (r + 1) lines rows all.1 (λ k d l. square (suc k) d (omega arith)) (omega arith) longer
    (λ k l. ap (λ ds. get_or ds (k * n + k) 0) regroup ∙ home k (omega arith)) in (
      body_at (r + 1) (extend c row),
      inr (record { row = row; line_is = all.0; room = omega arith; count = count; diagonal = diagonal; then_is = refl }),
      subst (λ (e : Content). AddAll (body_at (r + 1) (extend c row)) lines e) (ap (λ m. body_at m (record c { distance = (c.distance ++ row) ++ concat rows })) place ∙ ap (λ ds. body_at (r + length (row ∷ rows)) (record c { distance = ds })) regroup) rest,
    )

classes_add : (c : Table) (lines : List (List ℕ)) (ts : List ℤ) (names : List (List ℕ)) (rest : List (List ℕ)) (e : Content) → AreClassLines lines ts names → length (c.names ++ names) ≤ CLASSES → Apart (c.names ++ names)
    → AddAll (body_at 0 (record c { names = c.names ++ names; threshold = c.threshold ++ ts })) rest e → AddAll (body_at 0 c) (lines ++ rest) e
classes_add c [] [] [] rest e all few apart adds =
    subst (λ (d : Content). AddAll d rest e) (ap (λ ns. body_at 0 (record c { names = ns; threshold = c.threshold ++ [] })) (append-nil c.names) ∙ ap (λ ts. body_at 0 (record c { threshold = ts })) (append-nil c.threshold)) adds
classes_add c (line ∷ lines) (t ∷ ts) (name ∷ names) rest e all few apart adds =
    let regroup : (c.names ++ name ∷ []) ++ names ≡ c.names ++ name ∷ names = append_assoc c.names (name ∷ []) names in
    let also : (c.threshold ++ t ∷ []) ++ ts ≡ c.threshold ++ t ∷ ts = append_assoc c.threshold (t ∷ []) ts in
    let size : length (c.names ++ name ∷ names) ≡ length c.names + length (name ∷ names) = length-append c.names (name ∷ names) in
    let new : is_among c.names name ≡ false = apart_among c.names name (λ k l same. apart k (length c.names) l (omega arith)
    (get_or_append_left c.names (name ∷ names) [] k l ∙ same ∙ sym (get_or_at c.names name names [] (length c.names) refl))) in (
      body_at 0 (push c t name),
      inl (record { threshold = t; name = name; line_is = all.0; before_rows = refl; room = omega arith; new = new; then_is = refl }),
      classes_add (push c t name) lines ts names rest e all.1 (subst (λ ns. length ns ≤ CLASSES) (sym regroup) few) (subst Apart (sym regroup) apart)
          (subst (λ (d : Content). AddAll d rest e) (ap (λ ns. body_at 0 (record c { names = ns; threshold = c.threshold ++ t ∷ ts })) (sym regroup) ∙ ap (λ us. body_at 0 (record c { names = (c.names ++ name ∷ []) ++ names; threshold = us })) (sym also)) adds),
    )
classes_add c lines ts names rest e all few apart adds = absurd all

-- what is said once the border was
abbrev pub begun : ℕ → ℕ → ℕ → Table
begun wide high border = record { wide = wide; high = high; border = border; names = []; threshold = []; distance = [] }

front_add : (version : List ℕ) (unit : List (List ℕ)) (border : List ℕ) (rest : List (List ℕ)) (wide high b : ℕ) (e : Content) → IsVersionLine version → AreUnitLines unit wide high → IsBorderLine border b
    → AddAll (body_at 0 (begun wide high b)) rest e → AddAll no_content (version ∷ unit ++ border ∷ rest) e
front_add version [] border rest wide high b e version_is unit_is border_is adds = (
  record no_content { due = Scale },
  (version_is, refl),
  (
    body_at 0 (begun 1 1 b),
    inr (record { border = b; line_is = border_is; then_is = refl }),
    subst (λ (d : Content). AddAll d rest e) (ap (λ x. body_at 0 (begun x high b)) unit_is.0 ∙ ap (λ y. body_at 0 (begun 1 y b)) unit_is.1) adds,
  ),
)
front_add version (line ∷ []) border rest wide high b e version_is unit_is border_is adds = (
  record no_content { due = Scale },
  (version_is, refl),
  (
    record no_content { due = Border; wide = wide; high = high },
    inl (record { wide = wide; high = high; line_is = unit_is; then_is = refl }),
    (body_at 0 (begun wide high b), record { border = b; line_is = border_is; then_is = refl }, adds),
  ),
)
front_add version (line ∷ next ∷ unit) border rest wide high b e version_is unit_is border_is adds = absurd unit_is

-- Lines that spell a table are right steps.
pub table_adds : (lines : List (List ℕ)) (t : Table) → AreTableLines lines t → AddAll no_content lines (body_at (length t.names) t)
table_adds lines t is =
    let rows = is.rows_are in
    let c : Table = record t { distance = [] } in
    let count : length rows.rows ≡ length t.names = sym (zip_length IsRowLine is.rows rows.rows rows.rows_are) ∙ is.one_each in
    let none : 0 ≡ 0 * length t.names = omega arith in
    let body : AddAll (body_at 0 c) is.rows (body_at (0 + length rows.rows) (record t { distance = concat rows.rows })) =
    rows_add c 0 is.rows rows.rows rows.rows_are rows.square (omega arith) none (λ k l. ap (λ ds. get_or ds (k * length t.names + k) 0) (sym rows.distances_are) ∙ is.content.no_distance k (omega arith)) in
    let number : 0 + length rows.rows ≡ length t.names = omega arith in
    let whole : AddAll (body_at 0 c) is.rows (body_at (length t.names) t) =
    subst (λ (e : Content). AddAll (body_at 0 c) is.rows e) (ap (λ n. body_at n (record t { distance = concat rows.rows })) number ∙ ap (λ ds. body_at (length t.names) (record t { distance = ds })) (sym rows.distances_are)) body in
    let classes : AddAll (body_at 0 (begun t.wide t.high t.border)) (is.classes ++ is.rows) (body_at (length t.names) t) =
    classes_add (begun t.wide t.high t.border) is.classes t.threshold t.names is.rows _ is.classes_are is.content.few is.content.apart whole in
    let regroup : ((is.version ∷ is.unit) ++ is.border ∷ is.classes) ++ is.rows ≡ (is.version ∷ is.unit) ++ is.border ∷ (is.classes ++ is.rows) = append_assoc (is.version ∷ is.unit) (is.border ∷ is.classes) is.rows in
    subst (λ ls. AddAll no_content ls (body_at (length t.names) t)) (sym (is.lines_are ∙ regroup))
    (front_add is.version is.unit is.border (is.classes ++ is.rows) t.wide t.high t.border _ is.version_is is.unit_is is.border_is classes)

-- from the steps to the grammar

record RowSplit (c : Table) (r : ℕ) (lines : List (List ℕ)) (e : Content) : Type 0 where
  ds : List (List ℕ)
  rows_are : AllZip IsRowLine lines ds
  square : All (λ row. length row ≡ length c.names) ds
  ends : e ≡ body_at (r + length ds) (extend c (concat ds))

rows_split : (c : Table) (r : ℕ) (lines : List (List ℕ)) (e : Content) → 1 ≤ r → AddAll (body_at r c) lines e → RowSplit c r lines e
rows_split c r [] e some adds = record {
  ds = [];
  rows_are = tt;
  square = λ k d l. absurd (omega arith);
  ends = sym adds ∙ ap (λ n. body_at n c) (let same : r ≡ r + 0 = omega arith in same) ∙ ap (λ ds. body_at (r + 0) (record c { distance = ds })) (sym (append-nil c.distance));
}
rows_split c r (line ∷ lines) e some adds = elim adds.1 as (λ _. RowSplit c r (line ∷ lines) e) [
  | inl class ↦ absurd (let none = class.before_rows in omega arith)
  | inr row ↦
      (let more = rows_split (extend c row.row) (r + 1) lines e (omega arith) (subst (λ (d : Content). AddAll d lines e) row.then_is adds.2) in
      let place : r + 1 + length more.ds ≡ r + length (row.row ∷ more.ds) = omega arith in
      record {
        ds = row.row ∷ more.ds;
        rows_are = (row.line_is, more.rows_are);
        square = all_cons (λ d. length d ≡ length c.names) row.row more.ds row.count more.square;
        ends = more.ends ∙ ap (λ n. body_at n (record c { distance = (c.distance ++ row.row) ++ concat more.ds })) place
            ∙ ap (λ ds. body_at (r + length (row.row ∷ more.ds)) (record c { distance = ds })) (append_assoc c.distance row.row (concat more.ds));
      })
]

record BodySplit (c : Table) (lines : List (List ℕ)) (e : Content) : Type 0 where
  classes : List (List ℕ)
  rows : List (List ℕ)
  ts : List ℤ
  names : List (List ℕ)
  ds : List (List ℕ)
  lines_are : lines ≡ classes ++ rows
  classes_are : AreClassLines classes ts names
  rows_are : AllZip IsRowLine rows ds
  square : All (λ row. length row ≡ length (c.names ++ names)) ds
  ends : e ≡ body_at (length ds) (record c { names = c.names ++ names; threshold = c.threshold ++ ts; distance = c.distance ++ concat ds })

same_ends : (c : Table) (n m : ℕ) (names more : List (List ℕ)) (ts us : List ℤ) (ds es : List ℕ) → n ≡ m → names ≡ more → ts ≡ us → ds ≡ es
    → body_at n (record c { names = names; threshold = ts; distance = ds }) ≡ body_at m (record c { names = more; threshold = us; distance = es })
same_ends c n m names more ts us ds es a b f g = cc

body_split : (c : Table) (lines : List (List ℕ)) (e : Content) → AddAll (body_at 0 c) lines e → BodySplit c lines e
body_split c [] e adds = record {
  classes = [];
  rows = [];
  ts = [];
  names = [];
  ds = [];
  lines_are = refl;
  classes_are = tt;
  rows_are = tt;
  square = λ k d l. absurd (omega arith);
  ends = sym adds ∙ same_ends c 0 0 c.names (c.names ++ []) c.threshold (c.threshold ++ []) c.distance (c.distance ++ []) refl (sym (append-nil c.names)) (sym (append-nil c.threshold)) (sym (append-nil c.distance));
}
body_split c (line ∷ lines) e adds = elim adds.1 as (λ _. BodySplit c (line ∷ lines) e) [
  | inl class ↦
      (let more = body_split (push c class.threshold class.name) lines e (subst (λ (d : Content). AddAll d lines e) class.then_is adds.2) in
      let regroup : (c.names ++ class.name ∷ []) ++ more.names ≡ c.names ++ class.name ∷ more.names = append_assoc c.names (class.name ∷ []) more.names in
      record {
        classes = line ∷ more.classes;
        rows = more.rows;
        ts = class.threshold ∷ more.ts;
        names = class.name ∷ more.names;
        ds = more.ds;
        lines_are = ap (λ ls. line ∷ ls) more.lines_are;
        classes_are = (class.line_is, more.classes_are);
        rows_are = more.rows_are;
        square = subst (λ ns. All (λ row. length row ≡ length ns) more.ds) regroup more.square;
        ends = more.ends ∙ same_ends c (length more.ds) (length more.ds) ((c.names ++ class.name ∷ []) ++ more.names) (c.names ++ class.name ∷ more.names) ((c.threshold ++ class.threshold ∷ []) ++ more.ts) (c.threshold ++ class.threshold ∷ more.ts)
            (c.distance ++ concat more.ds) (c.distance ++ concat more.ds) refl regroup (append_assoc c.threshold (class.threshold ∷ []) more.ts) refl;
      })
  | inr row ↦
      (let more = rows_split (extend c row.row) 1 lines e (omega arith) (subst (λ (d : Content). AddAll d lines e) (row.then_is ∙ ap (λ n. body_at n (extend c row.row)) (let one : 0 + 1 ≡ 1 = omega arith in one)) adds.2) in
      let square : All (λ d. length d ≡ length c.names) (row.row ∷ more.ds) = all_cons (λ d. length d ≡ length c.names) row.row more.ds row.count more.square in
      record {
        classes = [];
        rows = line ∷ lines;
        ts = [];
        names = [];
        ds = row.row ∷ more.ds;
        lines_are = refl;
        classes_are = tt;
        rows_are = (row.line_is, more.rows_are);
        square = subst (λ ns. All (λ d. length d ≡ length ns) (row.row ∷ more.ds)) (sym (append-nil c.names)) square;
        ends = more.ends ∙ same_ends c (1 + length more.ds) (length (row.row ∷ more.ds)) c.names (c.names ++ []) c.threshold (c.threshold ++ []) ((c.distance ++ row.row) ++ concat more.ds) (c.distance ++ (row.row ++ concat more.ds))
            (omega arith) (sym (append-nil c.names)) (sym (append-nil c.threshold)) (append_assoc c.distance row.row (concat more.ds));
      })
]

not_body : (d e : Content) → d ≡ e → e.due ≡ Body → d.due ≡ Body
not_body d e is due = ap (λ m. m.due) is ∙ due

begun_table : (version : List ℕ) (unit : List (List ℕ)) (border : List ℕ) (lines : List (List ℕ)) (wide high b : ℕ) (e : Content) → IsVersionLine version → AreUnitLines unit wide high → IsBorderLine border b
    → IsTable (table_of e) → is_whole e ≡ true → AddAll (body_at 0 (begun wide high b)) lines e → AreTableLines (version ∷ unit ++ border ∷ lines) (table_of e)
begun_table version unit border lines wide high b e version_is unit_is border_is content is adds =
    let split = body_split (begun wide high b) lines e adds in
    let end : e ≡ body_at (length split.ds) (record (begun wide high b) { names = split.names; threshold = split.ts; distance = concat split.ds }) = split.ends in
    let names : split.names ≡ e.names = ap (λ m. m.names) (sym end) in
    let all : e.rows ≡ length e.names = (Decides-eqb e.rows (length e.names)).0 (both (nat_le 1 (length e.names)) (e.rows == length e.names) is).1 in
    let counted : length split.ds ≡ e.rows = ap (λ m. m.rows) (sym end) in
    record {
      content = content;
      version = version;
      unit = unit;
      border = border;
      classes = split.classes;
      rows = split.rows;
      lines_are = ap (λ ls. version ∷ unit ++ border ∷ ls) split.lines_are ∙ sym (append_assoc (version ∷ unit) (border ∷ split.classes) split.rows);
      version_is = version_is;
      unit_is = subst (λ (m : Content). AreUnitLines unit m.wide m.high) (sym end) unit_is;
      border_is = subst (λ (m : Content). IsBorderLine border m.border) (sym end) border_is;
      classes_are = subst (λ (m : Content). AreClassLines split.classes m.threshold m.names) (sym end) split.classes_are;
      one_each = zip_length IsRowLine split.rows split.ds split.rows_are ∙ counted ∙ all;
      rows_are = record {
        rows = split.ds;
        rows_are = split.rows_are;
        square = subst (λ ns. All (λ row. length row ≡ length ns) split.ds) names split.square;
        distances_are = ap (λ m. m.distance) end;
      };
    }

border_table : (version : List ℕ) (unit : List (List ℕ)) (lines : List (List ℕ)) (wide high : ℕ) (e : Content) → IsVersionLine version → AreUnitLines unit wide high
    → IsTable (table_of e) → e.due ≡ Body → is_whole e ≡ true → AddAll (record no_content { due = Border; wide = wide; high = high }) lines e → AreTableLines (version ∷ unit ++ lines) (table_of e)
border_table version unit [] wide high e version_is unit_is content due is adds = absurd (let never : Border ≡ Body = not_body (record no_content { due = Border; wide = wide; high = high }) e adds due in cc)
border_table version unit (line ∷ lines) wide high e version_is unit_is content due is adds =
    begun_table version unit line lines wide high adds.1.border e version_is unit_is adds.1.line_is content is (subst (λ (d : Content). AddAll d lines e) adds.1.then_is adds.2)

scale_table : (version : List ℕ) (lines : List (List ℕ)) (e : Content) → IsVersionLine version → IsTable (table_of e) → e.due ≡ Body → is_whole e ≡ true → AddAll (record no_content { due = Scale }) lines e
    → AreTableLines (version ∷ lines) (table_of e)
scale_table version [] e version_is content due is adds = absurd (let never : Scale ≡ Body = not_body (record no_content { due = Scale }) e adds due in cc)
scale_table version (line ∷ lines) e version_is content due is adds = elim adds.1 as (λ _. AreTableLines (version ∷ line ∷ lines) (table_of e)) [
  | inl unit ↦ border_table version (line ∷ []) lines unit.wide unit.high e version_is unit.line_is content due is (subst (λ (d : Content). AddAll d lines e) unit.then_is adds.2)
  | inr border ↦ begun_table version [] line lines 1 1 border.border e version_is (refl, refl) border.line_is content is (subst (λ (d : Content). AddAll d lines e) border.then_is adds.2)
]

-- Right steps to a whole table are lines that spell it.
pub adds_table : (lines : List (List ℕ)) (e : Content) → AddAll no_content lines e → e.due ≡ Body → is_whole e ≡ true → AreTableLines lines (table_of e)
adds_table [] e adds due is = absurd (let never : Head ≡ Body = not_body no_content e adds due in cc)
adds_table (line ∷ lines) e adds due is =
    scale_table line lines e adds.1.0 (whole_table e (kept_all no_content (line ∷ lines) e kept_start adds) is) due is (subst (λ (d : Content). AddAll d lines e) adds.1.1 adds.2)

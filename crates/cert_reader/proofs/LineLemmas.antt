-- What lines say: each is the text of what it says, in range.
use Rattle.std.proofs.Common.{◌≡◌, ℕ, ◌+◌, ◌^◌, ◌<◌, ◌≤◌, Bool, true, false, cond, ◌==◌, ◌&&◌, List, [], ◌∷◌, ◌++◌, length, map, Option, None, Some, refl, ap, sym, subst, ◌∙◌, arith, rules, pos, negsuc, zero, suc, FitsSigned}
use Rattle.std.specs.Prelude.{ℤ, codes, All, nat_lt, slice_index, unsigned_abs}
use Rattle.std.specs.Option.{ForSome}
use Rattle.std.specs.Int.{w128}
use Rattle.std.specs.List.{slice_split, join_with_byte}
use Rattle.std.proofs.lemmas.List.Splits.{join_with_byte-slice_split}
use Rattle.std.proofs.lemmas.Bool.{ltb-true, lt-ltb}
use Rattle.std.proofs.lemmas.Bool.Decides.{Decides-eqb}
use Rattle.std.specs.Fmt.{decimal, signed_decimal}
use Rattle.std.specs.Str.{bytes_eq}
use Rattle.std.proofs.lemmas.Slice.Eq.{bytes_eq-Decides}
use Rattle.agg_base.specs.declared.limits.TheConstants.{DENOMINATOR, AREAS, CLASSES}
use Rattle.agg_model.specs.Problem.{IsRising}
use Rattle.row_laws.specs.declared.row.Row.TheVariants.{Border, Escape}
use Rattle.cert_text.specs.Lines.{status_word, number_or_dash}
use Rattle.cert_reader.specs.Lines.{words_of, line_text, IsInRange}
use Rattle.cert_reader.specs.LineReading.{◌>>=◌, whole_in, number_in, number_at, multiplier_at, multiplier_in, alone, only, version_line, status_in, status_line, stated_in, cost_line, bound_line, areas_line, regions_line, class_line, region_line, split_line, sum_line, void_line, border_line, members_in, is_rising, set_in, escape_front, escape_line, head_line, plain_line, line_of_words, words_in, line_in, is_wide}
use Rattle.cert_text.specs.declared.certificate.CertStatus.{CertStatus}
use Rattle.cert_text.specs.declared.certificate.CertStatus.TheVariants.{Optimal, Within, Hopeless}
use Rattle.cert_reader.specs.declared.line_reader.Front.{Front}
use Rattle.cert_reader.specs.declared.line.Line.{Line}
use Rattle.cert_reader.specs.declared.line.Line.TheVariants.{Version, Status, Cost, Bound, Areas, Regions, Class, Region, Split, Fixed, Sum, Void, Row, End}
use Rattle.cert_reader.specs.declared.limits.TheConstants.{LAST_AREA, LAST_CLASS, LAST_LINK, MOST_AREAS, MOST_MARKS}
use Rattle.cert_reader.proofs.NumberLemmas.{wide_fits, guard_some, both, bind_some, same_bytes, whole_in_is, number_in_is, multiplier_in_is}

-- the words are those of the line, and its numbers are in range
abbrev pub IsLineOf : List (List ℕ) → Line → Type 0
IsLineOf ws line = (ws ≡ words_of line) × IsInRange line

some_same : {X : Type 0} (x y : X) → Some x ≡ Some y → x ≡ y
some_same x y e = (cc)

pub number_at_is : (least most : ℕ) (ws : List (List ℕ)) (x : ℕ × List (List ℕ)) → number_at least most ws ≡ Some x → (ws ≡ decimal x.0 ∷ x.1) × (least ≤ x.0) × (x.0 ≤ most)
unfolding number_at
number_at_is least most [] x e = (cc)
number_at_is least most (w ∷ ws) x e =
    let b = bind_some (number_in least most w) (λ n. Some (n, ws)) x e in
    let i = number_in_is least most w b.0 b.1 in
    subst (λ y. (w ∷ ws ≡ decimal y.0 ∷ y.1) × (least ≤ y.0) × (y.0 ≤ most)) (some_same (b.0, ws) x b.2) (ap (λ t. t ∷ ws) i.0, i.1, i.2)

alone_is : (line : Line) (ws : List (List ℕ)) (l : Line) → alone line ws ≡ Some l → (ws ≡ []) × (line ≡ l)
alone_is line [] l e = (refl, some_same line l e)
alone_is line (w ∷ ws) l e = (cc)

only_is : (ws : List (List ℕ)) (w : List ℕ) → only ws ≡ Some w → ws ≡ w ∷ []
only_is [] w e = (cc)
only_is (v ∷ []) w e = ap (λ t. t ∷ []) (some_same v w e)
only_is (v ∷ u ∷ ws) w e = (cc)

areas_is : (ws : List (List ℕ)) (line : Line) → areas_line ws ≡ Some line → IsLineOf (codes "areas" ∷ ws) line
unfolding areas_line
areas_is ws line e =
    let b0 = bind_some (number_at 0 MOST_AREAS ws) (λ x0. alone (Areas x0.0) x0.1) line e in
    let j0 = number_at_is 0 MOST_AREAS ws b0.0 b0.1 in
    let l = alone_is (Areas b0.0.0) b0.0.1 line b0.2 in
    subst (IsLineOf (codes "areas" ∷ ws)) l.1 (ap (λ t. codes "areas" ∷ t) (j0.0 ∙ ap (λ t. decimal b0.0.0 ∷ t) (l.0)), omega arith)

regions_is : (ws : List (List ℕ)) (line : Line) → regions_line ws ≡ Some line → IsLineOf (codes "regions" ∷ ws) line
unfolding regions_line
regions_is ws line e =
    let b0 = bind_some (number_at 0 MOST_AREAS ws) (λ x0. alone (Regions x0.0) x0.1) line e in
    let j0 = number_at_is 0 MOST_AREAS ws b0.0 b0.1 in
    let l = alone_is (Regions b0.0.0) b0.0.1 line b0.2 in
    subst (IsLineOf (codes "regions" ∷ ws)) l.1 (ap (λ t. codes "regions" ∷ t) (j0.0 ∙ ap (λ t. decimal b0.0.0 ∷ t) (l.0)), omega arith)

class_is : (ws : List (List ℕ)) (line : Line) → class_line ws ≡ Some line → IsLineOf (codes "r" ∷ ws) line
unfolding class_line
class_is ws line e =
    let b0 = bind_some (number_at 0 LAST_CLASS ws) (λ x0. alone (Class x0.0) x0.1) line e in
    let j0 = number_at_is 0 LAST_CLASS ws b0.0 b0.1 in
    let l = alone_is (Class b0.0.0) b0.0.1 line b0.2 in
    subst (IsLineOf (codes "r" ∷ ws)) l.1 (ap (λ t. codes "r" ∷ t) (j0.0 ∙ ap (λ t. decimal b0.0.0 ∷ t) (l.0)), omega arith)

region_is : (ws : List (List ℕ)) (line : Line) → region_line ws ≡ Some line → IsLineOf (codes "a" ∷ ws) line
unfolding region_line
region_is ws line e =
    let b0 = bind_some (number_at 0 LAST_AREA ws) (λ x0. alone (Region x0.0) x0.1) line e in
    let j0 = number_at_is 0 LAST_AREA ws b0.0 b0.1 in
    let l = alone_is (Region b0.0.0) b0.0.1 line b0.2 in
    subst (IsLineOf (codes "a" ∷ ws)) l.1 (ap (λ t. codes "a" ∷ t) (j0.0 ∙ ap (λ t. decimal b0.0.0 ∷ t) (l.0)), omega arith)

split_is : (ws : List (List ℕ)) (line : Line) → split_line ws ≡ Some line → IsLineOf (codes "s" ∷ ws) line
unfolding split_line
split_is ws line e =
    let b0 = bind_some (number_at 0 LAST_AREA ws) (λ x0. (number_at 0 LAST_CLASS x0.1 >>= λ x1. alone (Split x0.0 x1.0) x1.1)) line e in
    let j0 = number_at_is 0 LAST_AREA ws b0.0 b0.1 in
    let b1 = bind_some (number_at 0 LAST_CLASS b0.0.1) (λ x1. alone (Split b0.0.0 x1.0) x1.1) line b0.2 in
    let j1 = number_at_is 0 LAST_CLASS b0.0.1 b1.0 b1.1 in
    let l = alone_is (Split b0.0.0 b1.0.0) b1.0.1 line b1.2 in
    subst (IsLineOf (codes "s" ∷ ws)) l.1 (ap (λ t. codes "s" ∷ t) (j0.0 ∙ ap (λ t. decimal b0.0.0 ∷ t) (j1.0 ∙ ap (λ t. decimal b1.0.0 ∷ t) (l.0))), (omega arith, omega arith))

sum_is : (ws : List (List ℕ)) (line : Line) → sum_line ws ≡ Some line → IsLineOf (codes "c" ∷ ws) line
unfolding sum_line
sum_is ws line e =
    let b0 = bind_some (number_at 1 DENOMINATOR ws) (λ x0. (number_at 0 MOST_MARKS x0.1 >>= λ x1. alone (Sum x0.0 x1.0) x1.1)) line e in
    let j0 = number_at_is 1 DENOMINATOR ws b0.0 b0.1 in
    let b1 = bind_some (number_at 0 MOST_MARKS b0.0.1) (λ x1. alone (Sum b0.0.0 x1.0) x1.1) line b0.2 in
    let j1 = number_at_is 0 MOST_MARKS b0.0.1 b1.0 b1.1 in
    let l = alone_is (Sum b0.0.0 b1.0.0) b1.0.1 line b1.2 in
    subst (IsLineOf (codes "c" ∷ ws)) l.1 (ap (λ t. codes "c" ∷ t) (j0.0 ∙ ap (λ t. decimal b0.0.0 ∷ t) (j1.0 ∙ ap (λ t. decimal b1.0.0 ∷ t) (l.0))), (omega arith, omega arith, omega arith))

void_is : (ws : List (List ℕ)) (line : Line) → void_line ws ≡ Some line → IsLineOf (codes "v" ∷ ws) line
unfolding void_line
void_is ws line e =
    let b0 = bind_some (number_at 0 MOST_MARKS ws) (λ x0. alone (Void x0.0) x0.1) line e in
    let j0 = number_at_is 0 MOST_MARKS ws b0.0 b0.1 in
    let l = alone_is (Void b0.0.0) b0.0.1 line b0.2 in
    subst (IsLineOf (codes "v" ∷ ws)) l.1 (ap (λ t. codes "v" ∷ t) (j0.0 ∙ ap (λ t. decimal b0.0.0 ∷ t) (l.0)), omega arith)

version_is : (ws : List (List ℕ)) (line : Line) → version_line ws ≡ Some line → IsLineOf (codes "aggregation" ∷ ws) line
unfolding version_line
version_is ws line e =
    let b = bind_some (only ws) (λ w. cond (bytes_eq w (codes "1")) (Some Version) None) line e in
    let g = guard_some (bytes_eq b.0 (codes "1")) Version line b.2 in
    subst (IsLineOf (codes "aggregation" ∷ ws)) g.1 (ap (λ t. codes "aggregation" ∷ t) (only_is ws b.0 b.1 ∙ ap (λ w. w ∷ []) ((bytes_eq-Decides b.0 (codes "1")).0 g.0)), tt)

-- a choice that answers something
chosen : {X : Type 0} (b : Bool) (x y : Option X) (z : X) (P : Type 0) → (b ≡ true → x ≡ Some z → P) → (y ≡ Some z → P) → cond b x y ≡ Some z → P
chosen true x y z P f g e = f refl e
chosen false x y z P f g e = g e

-- a choice by a word
by_word : {X : Type 0} (w v : List ℕ) (x y : Option X) (z : X) (P : Type 0) → (w ≡ v → x ≡ Some z → P) → (y ≡ Some z → P) → cond (bytes_eq w v) x y ≡ Some z → P
by_word w v x y z P f g e = chosen (bytes_eq w v) x y z P (λ t is. f ((bytes_eq-Decides w v).0 t) is) g e

status_in_is : (w : List ℕ) (s : CertStatus) → status_in w ≡ Some s → w ≡ status_word s
status_in_is w s e =
    by_word w (codes "optimal") _ _ s (w ≡ status_word s) (λ is f. is ∙ ap status_word (some_same Optimal s f))
    (by_word w (codes "within") _ _ s (w ≡ status_word s) (λ is f. is ∙ ap status_word (some_same Within s f))
    (by_word w (codes "none") (Some Hopeless) None s (w ≡ status_word s) (λ is f. is ∙ ap status_word (some_same Hopeless s f)) (λ f. (cc)))) e

status_is : (ws : List (List ℕ)) (line : Line) → status_line ws ≡ Some line → IsLineOf (codes "status" ∷ ws) line
unfolding status_line
status_is ws line e =
    let b = bind_some (only ws) (λ w. status_in w >>= λ s. Some (Status s)) line e in
    let s = bind_some (status_in b.0) (λ s. Some (Status s)) line b.2 in
    subst (IsLineOf (codes "status" ∷ ws)) (some_same (Status s.0) line s.2)
    (ap (λ t. codes "status" ∷ t) (only_is ws b.0 b.1 ∙ ap (λ w. w ∷ []) (status_in_is b.0 s.0 s.1)), tt)

stated_is : (w : List ℕ) (o : Option ℤ) → stated_in w ≡ Some o → (w ≡ number_or_dash o) × ForSome o (FitsSigned w128)
unfolding stated_in
stated_is w o e =
    by_word w (codes "-") (Some None) (whole_in w >>= λ n. Some (Some n)) o ((w ≡ number_or_dash o) × ForSome o (FitsSigned w128))
    (λ is f. subst (λ o. (w ≡ number_or_dash o) × ForSome o (FitsSigned w128)) (some_same None o f) (is, λ n none. (cc)))
    (λ f.
    (let b = bind_some (whole_in w) (λ n. Some (Some n)) o f in
    let is = whole_in_is w b.0 b.1 in
    subst (λ o. (w ≡ number_or_dash o) × ForSome o (FitsSigned w128)) (some_same (Some b.0) o b.2) (is.0, λ n same. subst (FitsSigned w128) (some_same b.0 n same) (wide_fits b.0 is.1)))) e

cost_is : (ws : List (List ℕ)) (line : Line) → cost_line ws ≡ Some line → IsLineOf (codes "cost" ∷ ws) line
unfolding cost_line
cost_is ws line e =
    let b = bind_some (only ws) (λ w. stated_in w >>= λ o. Some (Cost o)) line e in
    let s = bind_some (stated_in b.0) (λ o. Some (Cost o)) line b.2 in
    let i = stated_is b.0 s.0 s.1 in
    subst (IsLineOf (codes "cost" ∷ ws)) (some_same (Cost s.0) line s.2) (ap (λ t. codes "cost" ∷ t) (only_is ws b.0 b.1 ∙ ap (λ w. w ∷ []) i.0), i.1)

bound_is : (ws : List (List ℕ)) (line : Line) → bound_line ws ≡ Some line → IsLineOf (codes "bound" ∷ ws) line
unfolding bound_line
bound_is ws line e =
    let b = bind_some (only ws) (λ w. stated_in w >>= λ o. Some (Bound o)) line e in
    let s = bind_some (stated_in b.0) (λ o. Some (Bound o)) line b.2 in
    let i = stated_is b.0 s.0 s.1 in
    subst (IsLineOf (codes "bound" ∷ ws)) (some_same (Bound s.0) line s.2) (ap (λ t. codes "bound" ∷ t) (only_is ws b.0 b.1 ∙ ap (λ w. w ∷ []) i.0), i.1)

multiplier_at_is : (ws : List (List ℕ)) (x : ℤ × List (List ℕ)) → multiplier_at ws ≡ Some x → (ws ≡ signed_decimal x.0 ∷ x.1) × (unsigned_abs x.0 < 2 ^ 127)
unfolding multiplier_at
multiplier_at_is [] x e = (cc)
multiplier_at_is (w ∷ ws) x e =
    let b = bind_some (multiplier_in w) (λ n. Some (n, ws)) x e in
    let i = multiplier_in_is w b.0 b.1 in
    subst (λ y. (w ∷ ws ≡ signed_decimal y.0 ∷ y.1) × (unsigned_abs y.0 < 2 ^ 127)) (some_same (b.0, ws) x b.2) (ap (λ t. t ∷ ws) i.0, i.1)

border_is : (ws : List (List ℕ)) (line : Line) → border_line ws ≡ Some line → IsLineOf (codes "b" ∷ ws) line
unfolding border_line
border_is ws line e =
    let b0 = bind_some (number_at 0 LAST_LINK ws) (λ x0. number_at 0 1 x0.1 >>= λ x1. number_at 0 LAST_CLASS x1.1 >>= λ x2. multiplier_at x2.1 >>= λ x3. alone (Row (Border x0.0 x1.0 x2.0) x3.0) x3.1) line e in
    let j0 = number_at_is 0 LAST_LINK ws b0.0 b0.1 in
    let b1 = bind_some (number_at 0 1 b0.0.1) (λ x1. number_at 0 LAST_CLASS x1.1 >>= λ x2. multiplier_at x2.1 >>= λ x3. alone (Row (Border b0.0.0 x1.0 x2.0) x3.0) x3.1) line b0.2 in
    let j1 = number_at_is 0 1 b0.0.1 b1.0 b1.1 in
    let b2 = bind_some (number_at 0 LAST_CLASS b1.0.1) (λ x2. multiplier_at x2.1 >>= λ x3. alone (Row (Border b0.0.0 b1.0.0 x2.0) x3.0) x3.1) line b1.2 in
    let j2 = number_at_is 0 LAST_CLASS b1.0.1 b2.0 b2.1 in
    let b3 = bind_some (multiplier_at b2.0.1) (λ x3. alone (Row (Border b0.0.0 b1.0.0 b2.0.0) x3.0) x3.1) line b2.2 in
    let j3 = multiplier_at_is b2.0.1 b3.0 b3.1 in
    let l = alone_is (Row (Border b0.0.0 b1.0.0 b2.0.0) b3.0.0) b3.0.1 line b3.2 in
    subst (IsLineOf (codes "b" ∷ ws)) l.1 (
      ap (λ t. codes "b" ∷ t) (j0.0 ∙ ap (λ t. decimal b0.0.0 ∷ t) (j1.0 ∙ ap (λ t. decimal b1.0.0 ∷ t) (j2.0 ∙ ap (λ t. decimal b2.0.0 ∷ t) (j3.0 ∙ ap (λ t. signed_decimal b3.0.0 ∷ t) l.0)))),
      ((omega arith, omega arith, omega arith), j3.1),
    )

-- ---- sets

members_are : (ws : List (List ℕ)) (set : List ℕ) → members_in ws ≡ Some set → (ws ≡ map decimal set) × All (λ s. s < AREAS) set
members_are [] set e = subst (λ set. ([] ≡ map decimal set) × All (λ s. s < AREAS) set) (some_same [] set e) (refl, λ k d h. absurd (omega arith))
members_are (w ∷ ws) set e =
    let b = bind_some (number_in 0 LAST_AREA w) (λ n. members_in ws >>= λ ns. Some (n ∷ ns)) set e in
    let i = number_in_is 0 LAST_AREA w b.0 b.1 in
    let m = bind_some (members_in ws) (λ ns. Some (b.0 ∷ ns)) set b.2 in
    let j = members_are ws m.0 m.1 in
    subst (λ set. (w ∷ ws ≡ map decimal set) × All (λ s. s < AREAS) set) (some_same (b.0 ∷ m.0) set m.2)
    (ap (λ t. t ∷ ws) i.0 ∙ ap (λ t. decimal b.0 ∷ t) j.0, all_more b.0 m.0 (omega arith) j.1)
  where
    all_more : (x : ℕ) (xs : List ℕ) → x < AREAS → All (λ s. s < AREAS) xs → All (λ s. s < AREAS) (x ∷ xs)
    all_more x xs h t zero d k = h
    all_more x xs h t (suc i) d k = t i d (omega arith)

-- each member is below those behind it
first_least : (x : ℕ) (xs : List ℕ) → is_rising (x ∷ xs) ≡ true → (j : ℕ) → j < length xs → x < slice_index xs j
first_least x [] e j h = absurd (omega arith)
first_least x (y ∷ xs) e zero h = ltb-true x y (both (nat_lt x y) (is_rising (y ∷ xs)) e).0
first_least x (y ∷ xs) e (suc j) h =
    let b = both (nat_lt x y) (is_rising (y ∷ xs)) e in
    let less = ltb-true x y b.0 in
    let more = first_least y xs b.1 j (omega arith) in
    omega arith

tail_rises : (x : ℕ) (xs : List ℕ) → is_rising (x ∷ xs) ≡ true → is_rising xs ≡ true
tail_rises x [] e = refl
tail_rises x (y ∷ xs) e = (both (nat_lt x y) (is_rising (y ∷ xs)) e).1

pub rises : (xs : List ℕ) → is_rising xs ≡ true → IsRising xs
rises [] e i j h k = absurd (omega arith)
rises (x ∷ xs) e zero zero h k = absurd (omega arith)
rises (x ∷ xs) e zero (suc j) h k = first_least x xs e j (omega arith)
rises (x ∷ xs) e (suc i) zero h k = absurd (omega arith)
rises (x ∷ xs) e (suc i) (suc j) h k = rises xs (tail_rises x xs e) i j (omega arith) (omega arith)

pub is_rising-from : (xs : List ℕ) → IsRising xs → is_rising xs ≡ true
is_rising-from [] r = refl
is_rising-from (x ∷ []) r = refl
is_rising-from (x ∷ y ∷ xs) r =
    ap (λ b. b && is_rising (y ∷ xs)) (lt-ltb x y (r 0 1 (omega arith) (omega arith)))
    ∙ is_rising-from (y ∷ xs) (λ i j h k. r (suc i) (suc j) (omega arith) (omega arith))

set_is : (count : ℕ) (ws : List (List ℕ)) (set : List ℕ) → set_in count ws ≡ Some set → (ws ≡ map decimal set) × (length set ≡ count) × All (λ s. s < AREAS) set × IsRising set
unfolding set_in
set_is count ws set e =
    let b = bind_some (members_in ws) (λ set. cond ((length set == count) && is_rising set) (Some set) None) set e in
    let g = guard_some ((length b.0 == count) && is_rising b.0) b.0 set b.2 in
    let t = both (length b.0 == count) (is_rising b.0) g.0 in
    let m = members_are ws b.0 b.1 in
    subst (λ set. (ws ≡ map decimal set) × (length set ≡ count) × All (λ s. s < AREAS) set × IsRising set) g.1 (m.0, (Decides-eqb (length b.0) count).0 t.0, m.1, rises b.0 t.1)

record IsFrontOf (ws : List (List ℕ)) (f : Front) (behind : List (List ℕ)) : Type 0 where
  words_are : ws ≡ signed_decimal f.multiplier ∷ decimal f.area ∷ decimal f.class ∷ decimal f.count ∷ behind
  multiplier : unsigned_abs f.multiplier < 2 ^ 127
  area : f.area < AREAS
  class : f.class < CLASSES

front_is : (ws : List (List ℕ)) (x : Front × List (List ℕ)) → escape_front ws ≡ Some x → IsFrontOf ws x.0 x.1
unfolding escape_front
front_is ws x e =
    let b0 = bind_some (multiplier_at ws) (λ m. number_at 0 LAST_AREA m.1 >>= λ x1. number_at 0 LAST_CLASS x1.1 >>= λ x2. number_at 0 MOST_MARKS x2.1 >>= λ x3. Some (record { multiplier = m.0; area = x1.0; class = x2.0; count = x3.0 }, x3.1)) x e in
    let j0 = multiplier_at_is ws b0.0 b0.1 in
    let b1 = bind_some (number_at 0 LAST_AREA b0.0.1) (λ x1. number_at 0 LAST_CLASS x1.1 >>= λ x2. number_at 0 MOST_MARKS x2.1 >>= λ x3. Some (record { multiplier = b0.0.0; area = x1.0; class = x2.0; count = x3.0 }, x3.1)) x b0.2 in
    let j1 = number_at_is 0 LAST_AREA b0.0.1 b1.0 b1.1 in
    let b2 = bind_some (number_at 0 LAST_CLASS b1.0.1) (λ x2. number_at 0 MOST_MARKS x2.1 >>= λ x3. Some (record { multiplier = b0.0.0; area = b1.0.0; class = x2.0; count = x3.0 }, x3.1)) x b1.2 in
    let j2 = number_at_is 0 LAST_CLASS b1.0.1 b2.0 b2.1 in
    let b3 = bind_some (number_at 0 MOST_MARKS b2.0.1) (λ x3. Some (record { multiplier = b0.0.0; area = b1.0.0; class = b2.0.0; count = x3.0 }, x3.1)) x b2.2 in
    let j3 = number_at_is 0 MOST_MARKS b2.0.1 b3.0 b3.1 in
    let f : Front = record { multiplier = b0.0.0; area = b1.0.0; class = b2.0.0; count = b3.0.0 } in
    subst (λ y. IsFrontOf ws y.0 y.1) (some_same (f, b3.0.1) x b3.2)
    (record {
      words_are = j0.0 ∙ ap (λ t. signed_decimal b0.0.0 ∷ t) (j1.0 ∙ ap (λ t. decimal b1.0.0 ∷ t) (j2.0 ∙ ap (λ t. decimal b2.0.0 ∷ t) j3.0));
      multiplier = j0.1;
      area = omega arith;
      class = omega arith;
    })

escape_is : (ws : List (List ℕ)) (line : Line) → escape_line ws ≡ Some line → IsLineOf (codes "e" ∷ ws) line
unfolding escape_line
escape_is ws line e =
    let b0 = bind_some (escape_front ws) (λ x. set_in x.0.count x.1 >>= λ set. Some (Row (Escape x.0.area x.0.class set) x.0.multiplier)) line e in
    let f = front_is ws b0.0 b0.1 in
    let b1 = bind_some (set_in b0.0.0.count b0.0.1) (λ set. Some (Row (Escape b0.0.0.area b0.0.0.class set) b0.0.0.multiplier)) line b0.2 in
    let s = set_is b0.0.0.count b0.0.1 b1.0 b1.1 in
    let front = λ (count : ℕ) (t : List (List ℕ)). codes "e" ∷ signed_decimal b0.0.0.multiplier ∷ decimal b0.0.0.area ∷ decimal b0.0.0.class ∷ decimal count ∷ t in
    subst (IsLineOf (codes "e" ∷ ws)) (some_same (Row (Escape b0.0.0.area b0.0.0.class b1.0) b0.0.0.multiplier) line b1.2)
    (ap (λ t. codes "e" ∷ t) f.words_are ∙ ap (front b0.0.0.count) s.0 ∙ ap (λ n. front n (map decimal b1.0)) (sym s.1), ((f.area, f.class, s.2, s.3), f.multiplier))

-- ---- by the first word

alone_line : (word : List ℕ) (said : Line) (ws : List (List ℕ)) (line : Line) → words_of said ≡ word ∷ [] → IsInRange said → alone said ws ≡ Some line → IsLineOf (word ∷ ws) line
alone_line word said ws line is fits e =
    let l = alone_is said ws line e in
    subst (IsLineOf (word ∷ ws)) l.1 (ap (λ t. word ∷ t) l.0 ∙ sym is, fits)

-- the first word is that one
led : (first word : List ℕ) (ws : List (List ℕ)) (line : Line) → first ≡ word → IsLineOf (word ∷ ws) line → IsLineOf (first ∷ ws) line
led first word ws line e is = subst (λ w. IsLineOf (w ∷ ws) line) (sym e) is

head_is : (first : List ℕ) (ws : List (List ℕ)) (line : Line) → head_line first ws ≡ Some line → IsLineOf (first ∷ ws) line
unfolding head_line
head_is first ws line e =
    let P = IsLineOf (first ∷ ws) line in
    by_word first (codes "aggregation") _ _ line P (λ w f. led first _ ws line w (version_is ws line f))
    (by_word first (codes "status") _ _ line P (λ w f. led first _ ws line w (status_is ws line f))
    (by_word first (codes "cost") _ _ line P (λ w f. led first _ ws line w (cost_is ws line f))
    (by_word first (codes "bound") _ _ line P (λ w f. led first _ ws line w (bound_is ws line f))
    (by_word first (codes "areas") _ _ line P (λ w f. led first _ ws line w (areas_is ws line f))
    (by_word first (codes "regions") _ _ line P (λ w f. led first _ ws line w (regions_is ws line f))
    (by_word first (codes "end") (alone End ws) None line P (λ w f. led first _ ws line w (alone_line (codes "end") End ws line refl tt f))
    (λ f. (cc)))))))) e

plain_is : (first : List ℕ) (ws : List (List ℕ)) (line : Line) → plain_line first ws ≡ Some line → IsLineOf (first ∷ ws) line
unfolding plain_line
plain_is first ws line e =
    let P = IsLineOf (first ∷ ws) line in
    by_word first (codes "b") _ _ line P (λ w f. led first _ ws line w (border_is ws line f))
    (by_word first (codes "a") _ _ line P (λ w f. led first _ ws line w (region_is ws line f))
    (by_word first (codes "s") _ _ line P (λ w f. led first _ ws line w (split_is ws line f))
    (by_word first (codes "f") _ _ line P (λ w f. led first _ ws line w (alone_line (codes "f") Fixed ws line refl tt f))
    (by_word first (codes "c") _ _ line P (λ w f. led first _ ws line w (sum_is ws line f))
    (by_word first (codes "v") _ _ line P (λ w f. led first _ ws line w (void_is ws line f))
    (by_word first (codes "r") _ _ line P (λ w f. led first _ ws line w (class_is ws line f))
    (head_is first ws line))))))) e

pub line_of_words_is : (ws : List (List ℕ)) (line : Line) → line_of_words ws ≡ Some line → IsLineOf ws line
unfolding line_of_words
line_of_words_is [] line e = (cc)
line_of_words_is (first ∷ ws) line e =
    by_word first (codes "e") _ _ line (IsLineOf (first ∷ ws) line) (λ w f. led first _ ws line w (escape_is ws line f)) (plain_is first ws line) e

-- a line that says something is the text of what it says, which is in range
pub line_in_is : (text : List ℕ) (line : Line) → line_in text ≡ Some line → (text ≡ line_text line) × IsInRange line
unfolding line_in words_in line_text
line_in_is text line e =
    let is = line_of_words_is (slice_split (λ b. b == 32) text) line e in
    (sym (join_with_byte-slice_split 32 text) ∙ ap (join_with_byte 32) is.0, is.1)

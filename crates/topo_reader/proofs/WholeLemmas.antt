-- The whole numbers that the values of rings are.
use Rattle.std.proofs.Common.{◌≡◌, ◌<◌, ◌≤◌, refl, sym, ap, subst, inl, inr, ℕ, zero, suc, List, [], ◌∷◌, length, map, get_or, Bor, arith, ℤ}
use Rattle.std.specs.Prelude.{FitsSigned}
use Rattle.std.specs.Int.{w64}
use Rattle.std.specs.List.{AllZip}
use Rattle.std.proofs.lemmas.List.{length-map}
use Rattle.agg_base.specs.Numbers.{SpellsWhole, IsWholeAnswer}
use Rattle.agg_base.specs.declared.numeral.Whole.{Whole}
use Rattle.agg_base.specs.declared.numeral.Whole.TheVariants.{Not, Beyond, Is}
use Rattle.json_text.specs.Tree.{Json, Number}
use Rattle.json_text.specs.Values.{json_of, list_of}
use Rattle.json_text.specs.declared.tree.Tree.{Tree}
use Rattle.map_values.proofs.ClassDecided.{fits_or}
use Rattle.map_values.proofs.Unique.{one_integer}
use Rattle.map_values.proofs.Values.{number_same}
use Rattle.map_values.proofs.WholeDecided.{whole_or}
use Rattle.map_values.specs.Positions.{SpellsInteger}
use Rattle.topo_reader.specs.Indexes.{rings_in, ring_numbers, AreWholes}
use Rattle.topo_reader.proofs.IndexLemmas.{AreAnswers, AreRingAnswers}
use Rattle.topo_reader.proofs.ThinLemmas.{zip_count}
use Rattle.topo_reader.proofs.TreeLists.{length_listed}

-- ---- each text is one

answer_of : (text : List ℕ) → (whole : Whole) × IsWholeAnswer (SpellsWhole text) whole
answer_of text = elim (whole_or text) as (λ _. (whole : Whole) × IsWholeAnswer (SpellsWhole text) whole) [
  | inl is ↦ elim (fits_or is.0) as (λ _. (whole : Whole) × IsWholeAnswer (SpellsWhole text) whole) [ inl fits ↦ (Is is.0, (is.1, fits)) | inr far ↦ (Beyond, (is.0, is.1, far)) ]
  | inr none ↦ (Not, none)
]

answers_of : (texts : List (List ℕ)) → (wholes : List Whole) × AreAnswers texts wholes
answers_of [] = ([], tt)
answers_of (t ∷ ts) = let here = answer_of t in let more = answers_of ts in (here.0 ∷ more.0, (here.1, more.1))

pub ring_answers_of : (texts : List (List (List ℕ))) → (wholes : List (List Whole)) × AreRingAnswers texts wholes
ring_answers_of [] = ([], tt)
ring_answers_of (t ∷ ts) = let here = answers_of t in let more = ring_answers_of ts in (here.0 ∷ more.0, (here.1, more.1))

-- ---- and so is the number with these characters

number_whole : (text : List ℕ) (n : ℤ) → SpellsWhole text n → SpellsInteger (Number text) n
number_whole text n s = record { number = text; is = refl; whole = s }

whole_number : (text : List ℕ) (n : ℤ) → SpellsInteger (Number text) n → SpellsWhole text n
whole_number text n s = subst (λ (t : List ℕ). SpellsWhole t n) (sym (number_same text s.number s.is)) s.whole

number_answer : (text : List ℕ) (whole : Whole) → IsWholeAnswer (SpellsWhole text) whole → IsWholeAnswer (SpellsInteger (Number text)) whole
number_answer text Not none = λ n s. none n (whole_number text n s)
number_answer text Beyond is = (is.0, number_whole text is.0 is.1, is.2)
number_answer text (Is n) is = (number_whole text n is.0, is.1)

numbers_answers : (texts : List (List ℕ)) (wholes : List Whole) → AreAnswers texts wholes → AreWholes (map Number texts) wholes
numbers_answers [] [] s = tt
numbers_answers [] (w ∷ ws) s = s
numbers_answers (t ∷ ts) [] s = s
numbers_answers (t ∷ ts) (w ∷ ws) s = (number_answer t w s.0, numbers_answers ts ws s.1)

rings_answers : (texts : List (List (List ℕ))) (wholes : List (List Whole)) → AreRingAnswers texts wholes → AllZip AreWholes (ring_numbers texts) wholes
rings_answers [] [] s = tt
rings_answers [] (w ∷ ws) s = s
rings_answers (t ∷ ts) [] s = s
rings_answers (t ∷ ts) (w ∷ ws) s = (numbers_answers t w s.0, rings_answers ts ws s.1)

-- what the rings are, of which these are the characters
pub ring_wholes : (rings : List (List Json)) (texts : List (List (List ℕ))) → rings ≡ ring_numbers texts → (wholes : List (List Whole)) × AreRingAnswers texts wholes × AllZip AreWholes rings wholes
ring_wholes rings texts are =
    let wholes = ring_answers_of texts in
    (wholes.0, wholes.1, subst (λ (rs : List (List Json)). AllZip AreWholes rs wholes.0) (sym are) (rings_answers texts wholes.0 wholes.1))

-- ---- a value is one whole number at most

one_whole_answer : (Spells : ℤ → Type 0) → ((m n : ℤ) → Spells m → Spells n → m ≡ n) → (a b : Whole) → IsWholeAnswer Spells a → IsWholeAnswer Spells b → a ≡ b
one_whole_answer S one Not Not s t = refl
one_whole_answer S one Not Beyond s t = absurd (s t.0 t.1)
one_whole_answer S one Not (Is n) s t = absurd (s n t.0)
one_whole_answer S one Beyond Not s t = absurd (t s.0 s.1)
one_whole_answer S one Beyond Beyond s t = refl
one_whole_answer S one Beyond (Is n) s t = absurd (s.2 (subst (FitsSigned w64) (one n s.0 t.0 s.1) t.1))
one_whole_answer S one (Is m) Not s t = absurd (t m s.0)
one_whole_answer S one (Is m) Beyond s t = absurd (t.2 (subst (FitsSigned w64) (one m t.0 s.0 t.1) s.1))
one_whole_answer S one (Is m) (Is n) s t = ap Is (one m n s.0 t.0)

-- ---- at a place

-- the whole number at a place is what the value there is read as
pub whole_at : (ring : List Tree) (wholes : List Whole) (i : ℕ) (x : Tree) (w : Whole) → AreWholes (list_of ring) wholes → i < length ring → x ≡ get_or ring i x → IsWholeAnswer (SpellsInteger (json_of x)) w → (i < length wholes) × (w ≡ get_or wholes i w)
whole_at [] ws i x w s low is answer = absurd (omega arith)
whole_at (t ∷ ts) [] i x w s low is answer = absurd s
whole_at (t ∷ ts) (v ∷ vs) zero x w s low is answer =
    (omega arith, one_whole_answer (SpellsInteger (json_of x)) (one_integer (json_of x)) w v answer (subst (λ (y : Tree). IsWholeAnswer (SpellsInteger (json_of y)) v) (sym is) s.0))
whole_at (t ∷ ts) (v ∷ vs) (suc i) x w s low is answer = let rest = whole_at ts vs i x w s.1 (omega arith) is answer in let inside = rest.0 in (omega arith, rest.1)

-- the whole numbers at a place are those of the ring there
pub ring_at : (rings : List (Bor (List Tree))) (wholes : List (List Whole)) (i : ℕ) (x : Bor (List Tree)) → AllZip AreWholes (rings_in rings) wholes → i < length rings → x ≡ get_or rings i x
    → (ring : List Whole) × (i < length wholes) × (ring ≡ get_or wholes i ring) × AreWholes (list_of x.now) ring
ring_at [] ws i x s low is = absurd (omega arith)
ring_at (r ∷ rs) [] i x s low is = absurd s
ring_at (r ∷ rs) (v ∷ vs) zero x s low is = (v, omega arith, refl, subst (λ (y : Bor (List Tree)). AreWholes (list_of y.now) v) (sym is) s.0)
ring_at (r ∷ rs) (v ∷ vs) (suc i) x s low is = let rest = ring_at rs vs i x s.1 (omega arith) is in let inside = rest.1 in (rest.0, omega arith, rest.2, rest.3)

pub whole_count : (ring : List Tree) (wholes : List Whole) (i : ℕ) → AreWholes (list_of ring) wholes → length ring ≤ i → length wholes ≤ i
whole_count ring wholes i s long =
    let same = zip_count (λ (tree : Json) (whole : Whole). IsWholeAnswer (SpellsInteger tree) whole) (list_of ring) wholes s in
    let count = length_listed ring in omega arith

pub ring_count : (rings : List (Bor (List Tree))) (wholes : List (List Whole)) (i : ℕ) → AllZip AreWholes (rings_in rings) wholes → length rings ≤ i → length wholes ≤ i
ring_count rings wholes i s long =
    let same = zip_count AreWholes (rings_in rings) wholes s in
    let count = length-map rings (λ (r : Bor (List Tree)). list_of r.now) in omega arith

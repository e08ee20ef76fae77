-- The lines, as they are printed piece by piece.
use Rattle.std.proofs.Common.{◌≡◌, ◌∙◌, ℕ, ℤ, List, [], ◌∷◌, ◌++◌, codes, refl, ap, sym, append_assoc, IfOk, Result}
use Rattle.std.specs.Fmt.{decimal, signed_decimal}
use Rattle.std.proofs.lemmas.Result.{IfOk-weaker}
use Rattle.agg_base.specs.Texts.{text_of_words}
use Rattle.plane_edge.specs.declared.edge.Edge.{Edge}
use Rattle.plane_edge.specs.declared.spot.Spot.{Spot}
use Rattle.plane_edge.specs.declared.frame.Limit.{Limit}
use Rattle.class_table.specs.declared.fault.Why.{Why}
use Rattle.class_table.specs.declared.fault.TableFault.TheVariants as tables
use Rattle.coverage_check.specs.declared.fault.CoverFault.TheVariants as cover
use Rattle.generalise_steps.specs.FaultLines.{refusal, limit_word, table_line, cover_line, weight_line, why_word, edge_words, spot_words}

-- the text of what was printed is the line
pub text_is : {E : Type 0} (r : Result (List ℕ) E) (now printed line : List ℕ) → IfOk r (λ t. t ≡ now) → now ≡ printed → printed ≡ line → IfOk r (λ t. t ≡ line)
text_is r now printed line told e f = IfOk-weaker r (λ t. t ≡ now) (λ t. t ≡ line) (λ t h. h ∙ (e ∙ f)) told

-- two words and the end of the line
pub two : (a b : List ℕ) → a ++ (32 ∷ (b ++ 10 ∷ [])) ≡ (a ++ (32 ∷ b)) ++ 10 ∷ []
two a b = sym (append_assoc a (32 ∷ b) (10 ∷ []))

-- words behind words
text_of_words-more : (x y : List ℕ) (xs ys : List (List ℕ)) → text_of_words ((x ∷ xs) ++ (y ∷ ys)) ≡ text_of_words (x ∷ xs) ++ (32 ∷ text_of_words (y ∷ ys))
text_of_words-more x y [] ys = refl
text_of_words-more x y (z ∷ xs) ys = ap (λ t. x ++ (32 ∷ t)) (text_of_words-more z y xs ys) ∙ sym (append_assoc x (32 ∷ text_of_words (z ∷ xs)) (32 ∷ text_of_words (y ∷ ys)))

-- three words and the end of the line
pub three : (a b c : List ℕ) → a ++ (32 ∷ (b ++ (32 ∷ (c ++ 10 ∷ [])))) ≡ (a ++ (32 ∷ (b ++ (32 ∷ c)))) ++ 10 ∷ []
three a b c = ap (λ t. a ++ (32 ∷ t)) (two b c) ∙ two a (b ++ (32 ∷ c))

pub plain_line : (place name : List ℕ) → codes "refused: " ++ (place ++ (32 ∷ (name ++ 10 ∷ []))) ≡ refusal place (name ∷ [])
plain_line place name = ap (λ t. codes "refused: " ++ t) (two place name)

pub number_line : (place name : List ℕ) (n : ℕ) → codes "refused: " ++ (place ++ (32 ∷ (name ++ (32 ∷ (decimal n ++ 10 ∷ []))))) ≡ refusal place (name ∷ decimal n ∷ [])
number_line place name n = ap (λ t. codes "refused: " ++ t) (three place name (decimal n))

pub limit_line : (place : List ℕ) (limit : Limit) → codes "refused: " ++ (place ++ (codes " Limit " ++ (limit_word limit ++ 10 ∷ []))) ≡ refusal place (codes "Limit" ∷ limit_word limit ∷ [])
limit_line place limit = ap (λ t. codes "refused: " ++ t) (three place (codes "Limit") (limit_word limit))

pub cell_line : (row column : ℕ) → codes "refused: map Cell " ++ (decimal row ++ (32 ∷ (decimal column ++ 10 ∷ []))) ≡ refusal (codes "map") (codes "Cell" ∷ decimal row ∷ decimal column ∷ [])
cell_line row column = ap (λ t. codes "refused: map Cell " ++ t) (two (decimal row) (decimal column))

pub rule_line : (number : ℕ) (why : Why) → codes "refused: table Line " ++ (decimal number ++ (32 ∷ (why_word why ++ 10 ∷ []))) ≡ table_line (tables.Line number why)
unfolding table_line
rule_line number why = ap (λ t. codes "refused: table Line " ++ t) (two (decimal number) (why_word why))

pub light_line : (area : ℕ) (sum : ℤ) → codes "refused: weights NoWeight " ++ (decimal area ++ (32 ∷ (signed_decimal sum ++ 10 ∷ []))) ≡ weight_line area sum
unfolding weight_line
light_line area sum = ap (λ t. codes "refused: weights NoWeight " ++ t) (two (decimal area) (signed_decimal sum))

pub overlap_line : (a b : ℕ) (s : Spot)
    → codes "refused: coverage Overlap " ++ (decimal a ++ (32 ∷ (decimal b ++ (32 ∷ (text_of_words (spot_words s) ++ 10 ∷ []))))) ≡ cover_line (cover.Overlap a b s)
unfolding cover_line
overlap_line a b s = ap (λ t. codes "refused: coverage Overlap " ++ t)
    (ap (λ t. decimal a ++ (32 ∷ t)) (two (decimal b) (text_of_words (spot_words s))) ∙ two (decimal a) (decimal b ++ (32 ∷ text_of_words (spot_words s))))

pub crossing_line : (e f : Edge) (s : Spot)
    → codes "refused: coverage Crossing " ++ (text_of_words (edge_words e) ++ (32 ∷ (text_of_words (edge_words f) ++ (32 ∷ (text_of_words (spot_words s) ++ 10 ∷ []))))) ≡ cover_line (cover.Crossing e f s)
unfolding cover_line
crossing_line e f s = ap (λ t. codes "refused: coverage Crossing " ++ t) (
    ap (λ t. text_of_words (edge_words e) ++ (32 ∷ t)) (two (text_of_words (edge_words f)) (text_of_words (spot_words s)))
    ∙ two (text_of_words (edge_words e)) (text_of_words (edge_words f) ++ (32 ∷ text_of_words (spot_words s)))
    ∙ ap (λ t. (text_of_words (edge_words e) ++ (32 ∷ t)) ++ 10 ∷ []) (sym (joined f s))
    ∙ ap (λ t. t ++ 10 ∷ []) (sym (text_of_words-more (signed_decimal e.low.x) (signed_decimal f.low.x) (signed_decimal e.low.y ∷ signed_decimal e.high.x ∷ signed_decimal e.high.y ∷ [])
    (signed_decimal f.low.y ∷ signed_decimal f.high.x ∷ signed_decimal f.high.y ∷ spot_words s))))
  where
    joined : (f : Edge) (s : Spot) → text_of_words (edge_words f ++ spot_words s) ≡ text_of_words (edge_words f) ++ (32 ∷ text_of_words (spot_words s))
    joined f s = text_of_words-more (signed_decimal f.low.x) (codes "at") (signed_decimal f.low.y ∷ signed_decimal f.high.x ∷ signed_decimal f.high.y ∷ []) (signed_decimal s.x ∷ signed_decimal s.y ∷ signed_decimal s.m ∷ [])

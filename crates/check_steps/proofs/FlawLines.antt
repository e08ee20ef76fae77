-- The lines of verdicts, as they are printed piece by piece.
use Rattle.std.proofs.Common.{◌≡◌, ℕ, ℤ, List, [], ◌∷◌, ◌++◌, codes, Option, ap}
use Rattle.std.specs.Fmt.{decimal, signed_decimal}
use Rattle.agg_base.specs.Texts.{text_of_words}
use Rattle.plane_edge.specs.declared.edge.Edge.{Edge}
use Rattle.row_laws.specs.declared.bound.Entry.{Entry}
use Rattle.row_laws.specs.declared.bound.Entry.TheVariants.{Choice, Across, TotalArea, TotalLink}
use Rattle.cert_text.specs.Lines.{status_word, number_or_dash}
use Rattle.cert_text.specs.declared.certificate.Certificate.{Certificate}
use Rattle.generalise_steps.specs.FaultLines.{edge_words}
use Rattle.generalise_steps.proofs.LineLemmas.{two, three}
use Rattle.check_steps.specs.VerdictLines.{entry_words, flaw_line, valid_line as valid_line_of}

pub number_line : (name : List ℕ) (n : ℕ) → codes "invalid " ++ (name ++ (32 ∷ (decimal n ++ 10 ∷ []))) ≡ flaw_line (name ∷ decimal n ∷ [])
number_line name n = ap (λ t. codes "invalid " ++ t) (two name (decimal n))

pub node_line : (name : List ℕ) (n m : ℕ) → codes "invalid " ++ (name ++ (32 ∷ (decimal n ++ (32 ∷ (decimal m ++ 10 ∷ []))))) ≡ flaw_line (name ∷ decimal n ∷ decimal m ∷ [])
node_line name n m = ap (λ t. codes "invalid " ++ t) (three name (decimal n) (decimal m))

pub due_line : (name : List ℕ) (due : Option ℤ) → codes "invalid " ++ (name ++ (32 ∷ (number_or_dash due ++ 10 ∷ []))) ≡ flaw_line (name ∷ number_or_dash due ∷ [])
due_line name due = ap (λ t. codes "invalid " ++ t) (two name (number_or_dash due))

pub total_line : (n : ℕ) (total : ℤ) → codes "invalid NotVoid " ++ (decimal n ++ (32 ∷ (signed_decimal total ++ 10 ∷ []))) ≡ flaw_line (codes "NotVoid" ∷ decimal n ∷ signed_decimal total ∷ [])
total_line n total = ap (λ t. codes "invalid NotVoid " ++ t) (two (decimal n) (signed_decimal total))

pub wide_line : (n : ℕ) (e : Entry) → codes "invalid Wide " ++ (decimal n ++ (32 ∷ (text_of_words (entry_words e) ++ 10 ∷ []))) ≡ flaw_line (codes "Wide" ∷ decimal n ∷ entry_words e)
wide_line n (Choice area class) = ap (λ t. codes "invalid Wide " ++ t) (two (decimal n) (text_of_words (entry_words (Choice area class))))
wide_line n (Across link) = ap (λ t. codes "invalid Wide " ++ t) (two (decimal n) (text_of_words (entry_words (Across link))))
wide_line n (TotalArea area) = ap (λ t. codes "invalid Wide " ++ t) (two (decimal n) (text_of_words (entry_words (TotalArea area))))
wide_line n (TotalLink link) = ap (λ t. codes "invalid Wide " ++ t) (two (decimal n) (text_of_words (entry_words (TotalLink link))))

pub edge_line : (r : ℕ) (e : Edge) → codes "invalid DrawnEdges " ++ (decimal r ++ (32 ∷ (text_of_words (edge_words e) ++ 10 ∷ []))) ≡ flaw_line (codes "DrawnEdges" ∷ decimal r ∷ edge_words e)
edge_line r e = ap (λ t. codes "invalid DrawnEdges " ++ t) (two (decimal r) (text_of_words (edge_words e)))

pub valid_line : (c : Certificate) → codes "valid " ++ (status_word c.status ++ (32 ∷ (number_or_dash c.cost ++ (32 ∷ (number_or_dash c.bound ++ 10 ∷ []))))) ≡ valid_line_of c
valid_line c = ap (λ t. codes "valid " ++ t) (three (status_word c.status) (number_or_dash c.cost) (number_or_dash c.bound))

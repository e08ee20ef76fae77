-- Texts that break a rule at a known line.
use Rattle.std.proofs.Common.{◌≡◌, List, [], ◌∷◌, ◌++◌, Some, refl}
use Rattle.std.specs.Prelude.{codes}
use Rattle.cert_text.specs.declared.fault.CertFault.TheVariants.{Line}
use Rattle.cert_reader.specs.LineReading.{line_in, words_in, line_of_words, plain_line, head_line, version_line}
use Rattle.cert_reader.specs.Faults.{texts_in, first_fault}
use Rattle.cert_reader.specs.FirstFaults.{IsFirstFault}
use Rattle.cert_reader.proofs.FirstFaultLemmas.{first_is}

-- the first line of a text without bytes is missing
nothing : IsFirstFault [] (Line 1)
unfolding texts_in
nothing = refl

walked : first_fault (codes "aggregation 1" ++ 10 ∷ []) ≡ Some (Line 2)
unfolding first_fault texts_in line_in words_in line_of_words plain_line head_line version_line
walked = refl

-- behind the first line the second one is missing
one_line : IsFirstFault (codes "aggregation 1" ++ 10 ∷ []) (Line 2)
one_line = first_is (codes "aggregation 1" ++ 10 ∷ []) (Line 2) walked

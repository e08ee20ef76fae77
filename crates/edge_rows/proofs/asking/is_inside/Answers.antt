use Rattle.std.proofs.Common.{◌∙◌, ap, sym, eqb}
use Rattle.edge_rows.specs.Whole.{pieces_of_bank}
use Rattle.edge_rows.proofs.CrossLemmas.{parity-flat}
use Rattle.edge_rows.proofs.asking.is_inside.Goals as goal

pub returns : goal.returns
returns c = c.is_in_odd_banks.ensures ∙ ap (λ n. eqb n 1) (sym (parity-flat pieces_of_bank c.args.spot.now c.args.banks.now))

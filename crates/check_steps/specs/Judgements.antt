-- The case that is judged, by the values that were read.
use Rattle.std.specs.Prelude.{Option}
use Rattle.plane_edge.specs.declared.coverage.Coverage.{Coverage}
use Rattle.cert_text.specs.declared.certificate.Certificate.{Certificate}
use Rattle.generalise_steps.specs.declared.loading.Loaded.{Loaded}
use Rattle.check_steps.specs.Cases.{Case}

abbrev pub case_of : Loaded → Certificate → Option Coverage → Case
case_of loaded certificate drawn = record {
  checked = loaded.checked;
  classes = loaded.table;
  problem = loaded.problem;
  certificate = certificate;
  drawn = drawn;
}

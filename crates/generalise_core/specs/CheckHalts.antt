-- Why a check gives no verdict, by why a text was not taken.
use Rattle.generalise_steps.specs.declared.halt.Halt.{Halt}
use Rattle.generalise_steps.specs.declared.halt.Halt.TheVariants as halt
use Rattle.generalise_core.specs.declared.check_stop.CheckStop.TheVariants.{Refused}
use Rattle.generalise_core.specs.declared.check_stop.NoVerdict.{NoVerdict}
use Rattle.generalise_core.specs.declared.check_stop.NoVerdict.TheVariants.{Stopped, Memory}

abbrev pub none_of : Halt → NoVerdict
none_of (halt.Refused line) = Stopped (Refused line)
none_of halt.Memory = Memory

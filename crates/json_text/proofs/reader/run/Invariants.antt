use Rattle.std.proofs.Common.{◌≡◌, true, drop}
use Rattle.json_text.specs.Modes.{is_sound_mode}
use Rattle.json_text.specs.Steps.{progress_of, nothing, run}
use Rattle.json_text.proofs.reader.run.Given as goal

abbrev pub invariant-loop-at : goal.invariant-loop-at
invariant-loop-at l = (run 64 l.at (drop l.at l.bytes) (progress_of l.machine) ≡ run 64 0 l.bytes nothing) × (is_sound_mode l.machine.mode ≡ true)

use Rattle.std.proofs.Common.{refl, arith}
use Rattle.cert_text.proofs.tests.hopeless.Goals as goal

pub returns : goal.returns
returns c = record {
  cost = record { there = refl; fits = λ n none. (cc) };
  bound = record { there = refl; fits = λ n none. (cc) };
  areas = omega arith;
  few = rw c.requires.regions (omega arith);
  classes = rw c.requires.regions (λ k d h. absurd (omega arith));
  regions = rw c.requires.areas (λ k d h. absurd (omega arith));
  one_each = rw c.requires.areas refl;
  none = λ is. rw c.requires.regions refl;
  tree = record { in_range = tt; depth = omega arith; splits = omega arith; marks = omega arith };
}

-- From what a plan says of two texts to what it says of the files that hold them.
use Rattle.std.proofs.Common.{◌≡◌, ◌≤◌, ℕ, List, length, Result, Ok, Err, IfSome, refl, sym, ◌∙◌, ap, subst}
use Rattle.agg_base.specs.declared.limits.TheConstants.{MAP_BYTES, TABLE_BYTES}
use Rattle.shelf_io.specs.Files.{text_at}
use Rattle.shelf_io.specs.Causes.{HasRisen}
use Rattle.shelf_io.specs.State.{ShelfState}
use Rattle.generalise_core.specs.Words.{Request}
use Rattle.generalise_core.specs.FileTexts.{IsText, IsTooLong}
use Rattle.generalise_core.specs.States.{OnlyFetches}
use Rattle.generalise_core.specs.Plans.{PlansTexts, StopsFiles, Decides}
use Rattle.generalise_core.specs.declared.plan.NoPlan.{NoPlan}
use Rattle.generalise_core.specs.declared.plan.NoPlan.TheVariants.{Stopped, Memory}
use Rattle.generalise_core.specs.declared.plan.Plan.{Plan}
use Rattle.generalise_core.specs.declared.stop.Stop.TheVariants as stop

-- a shelf that is as it was
pub unchanged : (old new : ShelfState) → new ≡ old → OnlyFetches old new
unchanged old new same = subst (λ n. n ≡ record old { fetch_faults = n.fetch_faults; missed = n.missed }) (sym same) refl

pub files_planned : (old new : ShelfState) (r : Request) (map table : List ℕ) (result : Result Plan NoPlan)
    → IsText old.files r.map MAP_BYTES map → IsText old.files r.table TABLE_BYTES table → new ≡ old → PlansTexts r.format map table r.splits result
    → Decides old new r result
files_planned old new r map table (Ok plan) m t same planned = (
  record {
    stated = planned.0;
    answers = record { map = map; table = table; map_is = m; table_is = t; answers = planned.1 };
    writes = planned.2;
  },
  same,
)
files_planned old new r map table (Err (Stopped (stop.Refused line))) m t same planned = ((map, table, m, t, planned, same), unchanged old new same)
files_planned old new r map table (Err (Stopped stop.Usage)) m t same planned = absurd planned
files_planned old new r map table (Err (Stopped stop.MapMissed)) m t same planned = absurd planned
files_planned old new r map table (Err (Stopped stop.TableMissed)) m t same planned = absurd planned
files_planned old new r map table (Err (Stopped stop.MapTooLong)) m t same planned = absurd planned
files_planned old new r map table (Err (Stopped stop.TableTooLong)) m t same planned = absurd planned
files_planned old new r map table (Err Memory) m t same planned = same

-- bytes that a fetch gave, by a shelf that was still the same
pub text_fetched : (old later : ShelfState) (name : List ℕ) (limit : ℕ) (bytes items : List ℕ)
    → later ≡ old → bytes ≡ items → length items ≤ limit → IfSome later.files (λ m. items ≡ text_at m name) → IsText old.files name limit bytes
text_fetched old later name limit bytes items same e fits told =
    subst (λ b. IsText old.files name limit b) (sym e) (record { fits = fits; told = subst (λ s. IfSome s.files (λ m. items ≡ text_at m name)) same told })

-- a fetch that failed, by a shelf that was still the same
pub name_missed : (old later new : ShelfState) (name : List ℕ) → later ≡ old → new ≡ record later { fetch_faults = new.fetch_faults; missed = name }
    → HasRisen later.fetch_faults new.fetch_faults → HasRisen old.fetch_faults new.fetch_faults × (new.missed ≡ name) × OnlyFetches old new
name_missed old later new name same is rose =
    let named : new.missed ≡ name = ap (λ s. s.missed) is in (
      subst (λ s. HasRisen s.fetch_faults new.fetch_faults) same rose,
      named,
      subst (λ s. new ≡ record s { fetch_faults = new.fetch_faults; missed = new.missed }) same
          (is ∙ ap (λ m. record later { fetch_faults = new.fetch_faults; missed = m }) (sym named)),
    )

-- the table is too long, once the map was fetched
pub table_too_long : (old between new : ShelfState) (r : Request) (map : List ℕ) → IsText old.files r.map MAP_BYTES map → between ≡ old → new ≡ between
    → IsTooLong between.files r.table TABLE_BYTES → StopsFiles old new r stop.TableTooLong × OnlyFetches old new
table_too_long old between new r map is same later long =
    ((map, is, subst (λ s. IsTooLong s.files r.table TABLE_BYTES) same long, later ∙ same), unchanged old new (later ∙ same))

pub map_too_long : (old new : ShelfState) (r : Request) → new ≡ old → IsTooLong old.files r.map MAP_BYTES → StopsFiles old new r stop.MapTooLong × OnlyFetches old new
map_too_long old new r same long = ((long, same), unchanged old new same)

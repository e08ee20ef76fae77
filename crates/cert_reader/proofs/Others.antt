-- Lines that are not the one that is due.
use Rattle.std.proofs.Common.{◌≡◌, Bool, true, false, cond, ℕ, List, Option, None, Some, refl, ap, not}
use Rattle.std.specs.Prelude.{ℤ, is_none}
use Rattle.row_laws.specs.declared.row.Row.{Row as RowValue}
use Rattle.cert_reader.specs.Due.{Due, fits_status, after_version, after_status, after_cost, after_bound, after_areas, after_regions, after_class, after_region, after_node, after_row, after_end}
use Rattle.cert_text.specs.declared.certificate.CertStatus.{CertStatus}
use Rattle.cert_reader.specs.declared.line.Line.{Line}
use Rattle.cert_reader.specs.declared.line.Line.TheVariants.{Version, Status, Cost, Bound, Areas, Regions, Class, Region, Split, Fixed, Sum, Void, Row, End}

pub other_than_version : (said : Line) → (said ≡ Version → ⊥) → after_version said ≡ None
other_than_version Version never = absurd (never refl)
other_than_version said never = refl

pub other_than_status : (said : Line) → ((s : CertStatus) → said ≡ Status s → ⊥) → after_status said ≡ None
other_than_status (Status s) never = absurd (never s refl)
other_than_status said never = refl

pub other_than_cost : (hopeless : Bool) (said : Line) → ((o : Option ℤ) → said ≡ Cost o → ⊥) → after_cost hopeless said ≡ None
other_than_cost hopeless (Cost o) never = absurd (never o refl)
other_than_cost hopeless said never = refl

pub other_than_bound : (hopeless : Bool) (said : Line) → ((o : Option ℤ) → said ≡ Bound o → ⊥) → after_bound hopeless said ≡ None
other_than_bound hopeless (Bound o) never = absurd (never o refl)
other_than_bound hopeless said never = refl

pub other_than_areas : (hopeless : Bool) (said : Line) → ((n : ℕ) → said ≡ Areas n → ⊥) → after_areas hopeless said ≡ None
other_than_areas hopeless (Areas n) never = absurd (never n refl)
other_than_areas hopeless said never = refl

pub other_than_regions : (hopeless : Bool) (areas : ℕ) (said : Line) → ((n : ℕ) → said ≡ Regions n → ⊥) → after_regions hopeless areas said ≡ None
other_than_regions hopeless areas (Regions n) never = absurd (never n refl)
other_than_regions hopeless areas said never = refl

pub other_than_class : (said : Line) → ((k : ℕ) → said ≡ Class k → ⊥) → after_class said ≡ None
other_than_class (Class k) never = absurd (never k refl)
other_than_class said never = refl

pub other_than_region : (said : Line) → ((r : ℕ) → said ≡ Region r → ⊥) → after_region said ≡ None
other_than_region (Region r) never = absurd (never r refl)
other_than_region said never = refl

pub other_than_row : (said : Line) → ((row : RowValue) (m : ℤ) → said ≡ Row row m → ⊥) → after_row said ≡ None
other_than_row (Row row m) never = absurd (never row m refl)
other_than_row said never = refl

pub other_than_end : (said : Line) → (said ≡ End → ⊥) → after_end said ≡ None
other_than_end End never = absurd (never refl)
other_than_end said never = refl

pub other_than_node : (depth : ℕ) (said : Line) → ((v k : ℕ) → said ≡ Split v k → ⊥) → (said ≡ Fixed → ⊥) → ((q n : ℕ) → said ≡ Sum q n → ⊥) → ((n : ℕ) → said ≡ Void n → ⊥) → after_node depth said ≡ None
other_than_node depth (Split v k) a b c d = absurd (a v k refl)
other_than_node depth Fixed a b c d = absurd (b refl)
other_than_node depth (Sum q n) a b c d = absurd (c q n refl)
other_than_node depth (Void n) a b c d = absurd (d n refl)
other_than_node depth said a b c d = refl

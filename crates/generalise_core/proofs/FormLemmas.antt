-- What an order of words asks for.
use Rattle.std.proofs.Common.{◌≡◌, ◌≢◌, ℕ, ◌<◌, ◌≤◌, List, [], ◌∷◌, get_or, Option, Some, None, codes, refl, sym, ◌∙◌, ap, subst, arith}
use Rattle.generalise_steps.specs.declared.map_format.Format.{Format}
use Rattle.generalise_steps.specs.declared.map_format.Format.TheVariants.{Grid, TopoJson, GeoJson}
use Rattle.topo_reader.specs.declared.pick.Pick.{Pick}
use Rattle.agg_base.specs.declared.limits.TheConstants.{SPLITS}
use Rattle.generalise_core.specs.Words.{Request, Draft, SaysSplits, SaysFormat, SaysNames, IsForm}

-- ---- formats

pub unequal : (m n : ℕ) → m < n → m ≡ n → ⊥
unequal m n h e = omega arith

grid_topojson : ¬ (codes "grid" ≡ codes "topojson")
grid_topojson e = unequal 103 116 (omega arith) (ap (λ (w : List ℕ). get_or w 0 0) e)

grid_geojson : ¬ (codes "grid" ≡ codes "geojson")
grid_geojson e = unequal 101 114 (omega arith) (sym (ap (λ (w : List ℕ). get_or w 1 0) e))

geojson_topojson : ¬ (codes "geojson" ≡ codes "topojson")
geojson_topojson e = unequal 103 116 (omega arith) (ap (λ (w : List ℕ). get_or w 0 0) e)

same_pick : (p q : Pick) → p.class ≡ q.class → p.object ≡ q.object → p ≡ q
same_pick p q c o = ap (λ (x : List ℕ). record { class = x; object = p.object }) c ∙ ap (λ (x : Option (List ℕ)). record { class = q.class; object = x }) o

-- a word and two values say one format
one_format : (word : List ℕ) (class object : Option (List ℕ)) (f g : Format) → SaysFormat word class object f → SaysFormat word class object g → f ≡ g
one_format word class object Grid Grid h k = refl
one_format word class object Grid (TopoJson p) h k = absurd (grid_topojson (sym h.0 ∙ k.0))
one_format word class object Grid (GeoJson b) h k = absurd (grid_geojson (sym h.0 ∙ k.0))
one_format word class object (TopoJson p) Grid h k = absurd (grid_topojson (sym k.0 ∙ h.0))
one_format word class object (TopoJson p) (TopoJson q) h k = ap TopoJson (same_pick p q (h.1 ∙ sym k.1) (h.2 ∙ sym k.2))
one_format word class object (TopoJson p) (GeoJson b) h k = absurd (geojson_topojson (sym k.0 ∙ h.0))
one_format word class object (GeoJson a) Grid h k = absurd (grid_geojson (sym k.0 ∙ h.0))
one_format word class object (GeoJson a) (TopoJson q) h k = absurd (geojson_topojson (sym h.0 ∙ k.0))
one_format word class object (GeoJson a) (GeoJson b) h k = ap GeoJson (h.1 ∙ sym k.1)

-- a word and two values that say no format
pub no_format : (word : List ℕ) (class object : Option (List ℕ)) → word ≢ codes "topojson" → (word ≡ codes "geojson" → object ≢ None)
    → (word ≡ codes "grid" → class ≡ None → object ≢ None) → (f : Format) → ¬ SaysFormat word class object f
no_format word class object topojson geojson grid Grid h = grid h.0 h.1 h.2
no_format word class object topojson geojson grid (TopoJson p) h = topojson h.0
no_format word class object topojson geojson grid (GeoJson name) h = geojson h.0 h.2

-- ---- splits

one_number : (value : Option (List ℕ)) (m n : ℕ) → SaysSplits value m → SaysSplits value n → m ≡ n
one_number None m n h k = h ∙ sym k
one_number (Some digits) m n h k = sym h.value ∙ k.value

most_splits : (value : Option (List ℕ)) (n : ℕ) → SaysSplits value n → n ≤ SPLITS
most_splits None n h = subst (λ m. m ≤ SPLITS) (sym h) (omega arith)
most_splits (Some digits) n h = h.within

-- a form says no more splits than a tree may have
pub form_splits : (said : Draft) (r : Request) → IsForm said r → r.splits ≤ SPLITS
form_splits said r form = most_splits said.splits r.splits form.splits

-- ---- names

-- the names that a draft says
pub record SameNames (w m t o c v n u p d : List ℕ) : Type 0 where
  pub word : w ≡ v
  pub map : m ≡ n
  pub table : t ≡ u
  pub out : o ≡ p
  pub certificate : c ≡ d

five_equal : (w m t o c v n u p d : List ℕ) → w ∷ m ∷ t ∷ o ∷ c ∷ [] ≡ v ∷ n ∷ u ∷ p ∷ d ∷ [] → SameNames w m t o c v n u p d
five_equal w m t o c v n u p d e = record { word = (cc); map = (cc); table = (cc); out = (cc); certificate = (cc) }

one_names : (said : Draft) (w m t o c v n u p d : List ℕ) → SaysNames said w m t o c → SaysNames said v n u p d → SameNames w m t o c v n u p d
one_names said w m t o c v n u p d h k = five_equal w m t o c v n u p d (sym h.operands_are ∙ k.operands_are)

-- ---- forms

same_request : (r s : Request) → r.format ≡ s.format → r.map ≡ s.map → r.table ≡ s.table → r.out ≡ s.out → r.certificate ≡ s.certificate → r.splits ≡ s.splits → r ≡ s
same_request r s f m t o c n =
    ap (λ (x : Format). record { format = x; map = r.map; table = r.table; out = r.out; certificate = r.certificate; splits = r.splits }) f
    ∙ ap (λ (x : List ℕ). record { format = s.format; map = x; table = r.table; out = r.out; certificate = r.certificate; splits = r.splits }) m
    ∙ ap (λ (x : List ℕ). record { format = s.format; map = s.map; table = x; out = r.out; certificate = r.certificate; splits = r.splits }) t
    ∙ ap (λ (x : List ℕ). record { format = s.format; map = s.map; table = s.table; out = x; certificate = r.certificate; splits = r.splits }) o
    ∙ ap (λ (x : List ℕ). record { format = s.format; map = s.map; table = s.table; out = s.out; certificate = x; splits = r.splits }) c
    ∙ ap (λ (x : ℕ). record { format = s.format; map = s.map; table = s.table; out = s.out; certificate = s.certificate; splits = x }) n

pub one_form : (said : Draft) (r s : Request) → IsForm said r → IsForm said s → r ≡ s
one_form said r s h k =
    let same = one_names said h.word r.map r.table r.out r.certificate k.word s.map s.table s.out s.certificate h.names k.names in
    let other : SaysFormat h.word said.class said.object s.format = subst (λ w. SaysFormat w said.class said.object s.format) (sym same.word) k.format in
    same_request r s (one_format h.word said.class said.object r.format s.format h.format other) same.map same.table same.out same.certificate
    (one_number said.splits r.splits s.splits h.splits k.splits)

-- names without a format are no form
pub no_form : (said : Draft) (w m t o c : List ℕ) → SaysNames said w m t o c → ((f : Format) → ¬ SaysFormat w said.class said.object f) → (r : Request) → ¬ IsForm said r
no_form said w m t o c names never r h =
    let same = one_names said w m t o c h.word r.map r.table r.out r.certificate names h.names in
    never r.format (subst (λ x. SaysFormat x said.class said.object r.format) (sym same.word) h.format)

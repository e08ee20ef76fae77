-- What the head of a topology says, and what it does not.
use Rattle.std.proofs.Common.{◌≡◌, ◌∙◌, ◌<◌, ◌≤◌, ◌+◌, refl, sym, ap, subst, ℕ, List, [], ◌∷◌, length, take, drop, get_or, Bor}
use Rattle.std.specs.Prelude.{Option, Some, None, IfSome, IfNone, codes, slice_get}
use Rattle.std.specs.Option.{option_map}
use Rattle.std.specs.List.{AllByRecursion}
use Rattle.json_text.specs.Tree.{Json, Number, array, object, member_of}
use Rattle.json_text.specs.Values.{json_of, pairs_of}
use Rattle.json_text.specs.declared.tree.Tree.{Tree}
use Rattle.map_values.specs.Members.{HasType}
use Rattle.map_values.proofs.Values.{some_same, one_answer, one_array}
use Rattle.plane_edge.specs.declared.frame.Frame.{Frame}
use Rattle.topo_reader.specs.Arcs.{SpellsFrame}
use Rattle.topo_reader.specs.Names.{BeginWith}
use Rattle.topo_reader.specs.Topology.{IsPicked, ArePlaces}
use Rattle.topo_reader.proofs.DecideHead.{frame_parts, picked_first, none_picked, collection_only}
use Rattle.topo_reader.proofs.TreeLists.{all_push, all_inside, mapped_more, mapped_at, mapped_all}

abbrev pub NoPair : Json → List ℕ → Type 0
NoPair tree name = (a b : List ℕ) → ¬ (member_of tree name ≡ Some (array (Number a ∷ Number b ∷ [])))

pub no_scale : (tree transform : Json) → member_of tree (codes "transform") ≡ Some transform → NoPair transform (codes "scale") → (frame : Frame) → ¬ SpellsFrame tree frame
no_scale tree transform is none frame s = let parts = frame_parts tree transform frame is s in none parts.0.0 parts.0.1 parts.2

pub no_translate : (tree transform : Json) → member_of tree (codes "transform") ≡ Some transform → NoPair transform (codes "translate") → (frame : Frame) → ¬ SpellsFrame tree frame
no_translate tree transform is none frame s = let parts = frame_parts tree transform frame is s in none parts.1.0 parts.1.1 parts.3

-- a member that is no list, or a list of other values, is no pair
pub no_list : (tree value : Json) (name : List ℕ) → member_of tree name ≡ Some value → ((trees : List Json) → ¬ (value ≡ array trees)) → NoPair tree name
no_list tree value name is none a b s = none (Number a ∷ Number b ∷ []) (one_answer (member_of tree name) value (array (Number a ∷ Number b ∷ [])) is s)

pub no_pair : (tree value : Json) (name : List ℕ) (trees : List Json) → member_of tree name ≡ Some value → value ≡ array trees → ((a b : List ℕ) → ¬ (trees ≡ Number a ∷ Number b ∷ [])) → NoPair tree name
no_pair tree value name trees is list none a b s = none a b (one_array value trees (Number a ∷ Number b ∷ []) list (one_answer (member_of tree name) value (array (Number a ∷ Number b ∷ [])) is s))

-- ---- names

abbrev pair_of : List ℕ × Tree → List ℕ × Json
pair_of m = (m.0, json_of m.1)

pub named_more : (members : List (List ℕ × Tree)) (name : List ℕ) (i : ℕ) (m : List ℕ × Tree) → i < length members → m ≡ get_or members i m → AllByRecursion (λ pair. pair.0 ≡ name) (pairs_of (take i members)) → m.0 ≡ name
    → AllByRecursion (λ pair. pair.0 ≡ name) (pairs_of (take (i + 1) members))
named_more members name i m low is all here =
    subst (λ (ps : List (List ℕ × Json)). AllByRecursion (λ pair. pair.0 ≡ name) ps) (sym (mapped_more pair_of members i m low is)) (all_push (λ pair. pair.0 ≡ name) (pairs_of (take i members)) (pair_of m) all here)

pub named_there : (members : List (List ℕ × Tree)) (name : List ℕ) (i : ℕ) (m : List ℕ × Tree) → i < length members → m ≡ get_or members i m → AllByRecursion (λ pair. pair.0 ≡ name) (pairs_of members) → m.0 ≡ name
named_there members name i m low is all =
    all_inside (λ pair. pair.0 ≡ name) (pairs_of (take i members)) (pair_of m) (pairs_of (drop (i + 1) members)) (subst (λ (ps : List (List ℕ × Json)). AllByRecursion (λ pair. pair.0 ≡ name) ps) (mapped_at pair_of members i m low is) all)

pub named_done : (members : List (List ℕ × Tree)) (name : List ℕ) (i : ℕ) → length members ≤ i → AllByRecursion (λ pair. pair.0 ≡ name) (pairs_of (take i members)) → AllByRecursion (λ pair. pair.0 ≡ name) (pairs_of members)
named_done members name i long all = subst (λ (ps : List (List ℕ × Json)). AllByRecursion (λ pair. pair.0 ≡ name) ps) (mapped_all pair_of members i long) all

-- ---- the only object

pub begin_with : (members : List (List ℕ × Tree)) (m : List ℕ × Tree) (name : List ℕ) → Some m ≡ slice_get members 0 → name ≡ m.0 → BeginWith (pairs_of members) name
begin_with [] m name is name_is = absurd (let never : Some m ≡ None = is in cc)
begin_with (x ∷ xs) m name is name_is =
    record { member = pair_of m; more = pairs_of xs; begins = ap (λ (y : List ℕ × Tree). pair_of y ∷ pairs_of xs) (sym (some_same m x is)); name_is = name_is }

pub begin_none : (members : List (List ℕ × Tree)) → None ≡ slice_get members 0 → pairs_of members ≡ []
begin_none [] is = refl
begin_none (x ∷ xs) is = absurd (let never : None ≡ Some x = is in cc)

pub only_found : (objects tree : Json) (pairs : List (List ℕ × Json)) (name : List ℕ) → objects ≡ object pairs → AllByRecursion (λ pair. pair.0 ≡ name) pairs → member_of objects name ≡ Some tree → IsPicked objects None tree
only_found objects tree pairs name is all there = (name, (pairs, is, all), there)

first_of_name : (objects tree : Json) (pairs : List (List ℕ × Json)) (name : List ℕ) → objects ≡ object pairs → BeginWith pairs name → IsPicked objects None tree → AllByRecursion (λ pair. pair.0 ≡ name) pairs × (member_of objects name ≡ Some tree)
first_of_name objects tree pairs name is begins s =
    let first = picked_first objects begins.member begins.more tree (is ∙ ap object begins.begins) s in (
      subst (λ (ps : List (List ℕ × Json)). AllByRecursion (λ pair. pair.0 ≡ name) ps) (sym begins.begins) (subst (λ (n : List ℕ). AllByRecursion (λ pair. pair.0 ≡ n) (begins.member ∷ begins.more)) (sym begins.name_is) first.0),
      ap (λ (n : List ℕ). member_of objects n) begins.name_is ∙ first.1,
    )

pub other_names : (objects tree : Json) (pairs : List (List ℕ × Json)) (name : List ℕ) → objects ≡ object pairs → BeginWith pairs name → ¬ AllByRecursion (λ pair. pair.0 ≡ name) pairs → ¬ IsPicked objects None tree
other_names objects tree pairs name is begins other s = other (first_of_name objects tree pairs name is begins s).0

pub no_member : (objects tree : Json) (pairs : List (List ℕ × Json)) (name : List ℕ) → objects ≡ object pairs → BeginWith pairs name → None ≡ member_of objects name → ¬ IsPicked objects None tree
no_member objects tree pairs name is begins none s = let never : None ≡ Some tree = none ∙ (first_of_name objects tree pairs name is begins s).1 in cc

pub no_members : (objects tree : Json) (pairs : List (List ℕ × Json)) → objects ≡ object pairs → pairs ≡ [] → ¬ IsPicked objects None tree
no_members objects tree pairs is empty s = none_picked objects tree (is ∙ ap object empty) s

pub no_object : (objects tree : Json) → ((pairs : List (List ℕ × Json)) → ¬ (objects ≡ object pairs)) → ¬ IsPicked objects None tree
no_object objects tree none s = none s.1.0 s.1.1

-- ---- the geometries

pub no_collection : (picked value : Json) → HasType picked (codes "GeometryCollection") → member_of picked (codes "geometries") ≡ Some value → ((trees : List Json) → ¬ (value ≡ array trees)) → (places : List Json) → ¬ ArePlaces picked places
no_collection picked value type is none places s =
    none places (one_answer (member_of picked (codes "geometries")) value (array places) is (collection_only picked places type s))

pub no_geometries : (picked : Json) → HasType picked (codes "GeometryCollection") → None ≡ member_of picked (codes "geometries") → (places : List Json) → ¬ ArePlaces picked places
no_geometries picked type none places s = let never : None ≡ Some (array places) = none ∙ collection_only picked places type s in cc

-- ---- answers that may be none

pub only_some : (o : Option (Bor Tree)) (objects : Json) (pairs : List (List ℕ × Json)) (name : List ℕ) → objects ≡ object pairs → AllByRecursion (λ pair. pair.0 ≡ name) pairs → option_map (λ tree. json_of tree.now) o ≡ member_of objects name
    → IfSome o (λ tree. IsPicked objects None (json_of tree.now))
only_some None objects pairs name is all there = tt
only_some (Some tree) objects pairs name is all there = only_found objects (json_of tree.now) pairs name is all (sym there)

pub only_none : (o : Option (Bor Tree)) (objects : Json) (pairs : List (List ℕ × Json)) (name : List ℕ) → objects ≡ object pairs → BeginWith pairs name → option_map (λ tree. json_of tree.now) o ≡ member_of objects name
    → IfNone o ((tree : Json) → ¬ IsPicked objects None tree)
only_none None objects pairs name is begins there = λ tree. no_member objects tree pairs name is begins there
only_none (Some tree) objects pairs name is begins there = tt

pub pair_none : {X : Type 0} (o : Option X) (tree value : Json) (name : List ℕ) (trees : List Json) → member_of tree name ≡ Some value → value ≡ array trees → IfNone o ((a b : List ℕ) → ¬ (trees ≡ Number a ∷ Number b ∷ [])) → IfNone o (NoPair tree name)
pair_none None tree value name trees is list none = no_pair tree value name trees is list none
pair_none (Some x) tree value name trees is list none = tt

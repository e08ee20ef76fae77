-- A path that is cut at breaks.
use Rattle.std.proofs.Common.{◌≡◌, ◌⊎◌, inl, inr, ℕ, ◌+◌, ◌-◌, ◌<◌, ◌≤◌, refl, sym, ◌∙◌, ap, subst, arith, Bool, true, false, List, [], ◌∷◌, ◌++◌, length, get_or, take, drop, flat_map, All, Option, Some, slice_get, Vec, Global}
use Rattle.std.proofs.lemmas.List.{append-nil, get_or_read, map_push, get_or-take, get_or-drop, length-take, length-drop, take-take, drop-take, take-append-drop}
use Rattle.std.proofs.lemmas.List.Concat.{flat_map-append}
use Rattle.std.proofs.lemmas.List.Elements.{All-push}
use Rattle.plane_edge.specs.declared.point.Point.{Point}
use Rattle.ring_arcs.specs.Breaks.{is_break}
use Rattle.ring_arcs.specs.Chains.{IsChain, IsCutFrom, IsCovered, AreCuts, AreChainsOf, HasWay, part_of, round_from}
use Rattle.ring_arcs.specs.RingArcs.{without_last, IsTurnOf}
use Rattle.plane_edge.specs.Paths.{first_of, last_of, AreJoined}
use Rattle.agg_base.specs.Lists.{lists_of}
use Rattle.plane_edge.specs.Rings.{IsRing}
use Rattle.ring_arcs.proofs.Points.{true_not_false}
use Rattle.ring_arcs.proofs.RoundLemmas.{length-round, round_stepping, round_onward, round_along, round_turn, round_first, round_last}
use Rattle.ring_arcs.proofs.WalkLemmas.{get_at, first_is, last_is, joined_append}

-- ---- parts of a path
pub length-part : (path : List Point) (a b : ℕ) → a ≤ b → b < length path → length (part_of path a b) ≡ b - a + 1
length-part path a b h l = omega (arith, length-take (b - a + 1) (drop a path), length-drop a path)

pub part_at : (path : List Point) (a b k : ℕ) (d : Point) → k ≤ b - a → get_or (part_of path a b) k d ≡ get_or path (a + k) d
part_at path a b k d h = get_or-take (b - a + 1) (drop a path) k d (omega arith) ∙ get_or-drop a path k d

take_split : (a b : ℕ) (path : List Point) → take a path ++ take b (drop a path) ≡ take (a + b) path
take_split a b path =
    ap (λ (t : List Point). t ++ take b (drop a path)) (sym (take-take a (a + b) path (omega arith)))
    ∙ ap (λ (t : List Point). take a (take (a + b) path) ++ t) (sym (drop-take a b path))
    ∙ take-append-drop a (take (a + b) path)

-- up to a part, and the part without its last point
part_more : (path : List Point) (a b : ℕ) → a ≤ b → b < length path → take a path ++ without_last (part_of path a b) ≡ take b path
part_more path a b h l =
    let n : length (part_of path a b) - 1 ≡ b - a = omega (arith, length-part path a b h l) in
    let is : without_last (part_of path a b) ≡ take (b - a) (drop a path) = ap (λ k. take k (part_of path a b)) n ∙ take-take (b - a) (b - a + 1) (drop a path) (omega arith) in
    let e : a + (b - a) ≡ b = omega arith in
    ap (λ (t : List Point). take a path ++ t) is ∙ take_split a (b - a) path ∙ ap (λ k. take k path) e

-- ---- the cut so far
pub record IsCutTo (B : Point → Bool) (path : List Point) (from to : ℕ) (chains : List (List Point)) : Type 0 where
  pub behind : from < to
  pub begins : (d : Point) → B (get_or path from d) ≡ true
  pub through : (i : ℕ) (d : Point) → from < i → i < to → B (get_or path i d) ≡ false
  pub parts : All (IsCutFrom B path) chains
  pub joined : AreJoined (first_of path) chains (slice_get path from)
  pub met : flat_map without_last chains ≡ take from path

pub cut_past : (B : Point → Bool) (path : List Point) (from to : ℕ) (chains : List (List Point)) → ((d : Point) → B (get_or path to d) ≡ false) → IsCutTo B path from to chains → IsCutTo B path from (to + 1) chains
cut_past B path from to chains h c = record {
  behind = omega (arith, c.behind);
  begins = c.begins;
  through = λ i d l m. (elim (before_or_at i m) [
    | inl k ↦ c.through i d l k
    | inr k ↦ ap (λ n. B (get_or path n d)) k ∙ h d
  ]);
  parts = c.parts;
  joined = c.joined;
  met = c.met;
}
  where
    before_or_at : (i : ℕ) → i < to + 1 → (i < to) ⊎ (i ≡ to)
    before_or_at i m = grind arith

pub cut_there : (B : Point → Bool) (path : List Point) (from to : ℕ) (chains : List (List Point)) (e : Point) → to < length path → ((d : Point) → B (get_or path to d) ≡ true) → IsCutTo B path from to chains → IsCutTo B path to (to + 1) (chains ++ part_of path from to ∷ [])
cut_there B path from to chains e l h c =
    let part : List Point = part_of path from to in
    let n : length part ≡ to - from + 1 = length-part path from to (omega (arith, c.behind)) l in
    let one : IsCutFrom B path part = record { first = from; last = to; rising = c.behind; within = l; is = refl; begins = c.begins; ends = h; through = c.through } in
    let z : from + 0 ≡ from = omega arith in
    let y : from + (length part - 1) ≡ to = omega (arith, c.behind) in
    let head : first_of part ≡ slice_get path from = first_is part e (omega arith) ∙ ap (λ (p : Point). Some p) (part_at path from to 0 e (omega arith) ∙ ap (λ k. get_or path k e) z) ∙ sym (get_at path from e (omega (arith, c.behind))) in
    let tail : last_of part ≡ slice_get path to = last_is part e (omega arith) ∙ ap (λ (p : Point). Some p) (part_at path from to (length part - 1) e (omega arith) ∙ ap (λ k. get_or path k e) y) ∙ sym (get_at path to e l) in
    record {
      behind = omega arith;
      begins = h;
      through = λ i d a b. absurd (omega arith);
      parts = All-push (IsCutFrom B path) chains part c.parts one;
      joined = joined_append (first_of path) chains (slice_get path from) (part ∷ []) (slice_get path to) c.joined (head, tail);
      met = flat_map-append without_last chains (part ∷ []) ∙ ap (λ (t : List Point). t ++ (without_last part ++ [])) c.met ∙ ap (λ (t : List Point). take from path ++ t) (append-nil (without_last part)) ∙ part_more path from to (omega (arith, c.behind)) l;
    }

pub cut_end : (B : Point → Bool) (path : List Point) (from : ℕ) (chains : List (List Point)) (e : Point) → 2 ≤ length path → B (get_or path (length path - 1) e) ≡ true → IsCutTo B path from (length path) chains → from ≡ length path - 1
cut_end B path from chains e l h c = elim (cases from (length path - 1)) [
  | inl k ↦ true_not_false (B (get_or path (length path - 1) e)) h (c.through (length path - 1) e k (omega arith))
  | inr k ↦ (let b : from < length path = c.behind in omega arith)
]
  where
    cases : (m n : ℕ) → (m < n) ⊎ (n ≤ m)
    cases m n = grind arith

-- ---- the chains of a ring
chain_of_cut : (ways : List (Point × Point)) (loops ring : List Point) (at : ℕ) (chain : List Point) → IsRing ring → IsCovered ways ring → at < length ring → IsCutFrom (is_break ways loops) (round_from ring at) chain → IsChain (HasWay ways) (is_break ways loops) chain
chain_of_cut ways loops ring at chain r v l c = subst (IsChain (HasWay ways) (is_break ways loops)) (sym c.is) (record {
  long = omega (arith, n, c.rising);
  along = λ i d m. (
      let w = round_along ways ring at (c.first + i) d v r l (omega (arith, n, c.within)) in
      let a = inside i (c.first + i) d (omega (arith, n)) refl in
      let b = inside (i + 1) (c.first + i + 1) d (omega (arith, n)) (omega arith) in
      subst (λ (p : Point). HasWay ways p (get_or part (i + 1) d)) (sym a) (subst (λ (q : Point). HasWay ways (get_or path (c.first + i) d) q) (sym b) w));
  stepping = λ i d m e. (
      let a = inside i (c.first + i) d (omega (arith, n)) refl in
      let b = inside (i + 1) (c.first + i + 1) d (omega (arith, n)) (omega arith) in
      round_stepping ring at r l (c.first + i) d (omega (arith, n, c.within)) (sym a ∙ e ∙ b));
  onward = λ i d m e. (
      let a = inside i (c.first + i) d (omega (arith, n)) refl in
      let b = inside (i + 2) (c.first + i + 2) d (omega (arith, n)) (omega arith) in
      round_onward ring at (c.first + i) d r l (omega (arith, n, c.within)) (sym a ∙ e ∙ b));
  begins = λ d. ap (is_break ways loops) (inside 0 c.first d (omega arith) (omega arith)) ∙ c.begins d;
  ends = λ d. ap (is_break ways loops) (inside (length part - 1) c.last d (omega (arith, n)) (omega (arith, n, c.rising))) ∙ c.ends d;
  through = λ i d m k. ap (is_break ways loops) (inside i (c.first + i) d (omega (arith, n)) refl) ∙ c.through (c.first + i) d (omega arith) (omega (arith, n));
})
  where
    path : List Point
    path = round_from ring at

    part : List Point
    part = part_of path c.first c.last

    n : length part ≡ c.last - c.first + 1
    n = length-part path c.first c.last (omega (arith, c.rising)) c.within

    inside : (i j : ℕ) (d : Point) → i ≤ c.last - c.first → c.first + i ≡ j → get_or part i d ≡ get_or path j d
    inside i j d h e = part_at path c.first c.last i d h ∙ ap (λ k. get_or path k d) e

pub chains_are : (ways : List (Point × Point)) (loops ring : List Point) (at : ℕ) (chains : List (List Point)) (e : Point) → IsRing ring → IsCovered ways ring → at < length ring → AreCuts (is_break ways loops) (round_from ring at) chains → AreChainsOf ways loops ring chains
chains_are ways loops ring at chains e r v l c =
    let n : length (round_from ring at) ≡ length ring + 1 = length-round ring at l in
    let head : first_of (round_from ring at) ≡ Some (get_or ring at e) = first_is (round_from ring at) e (omega arith) ∙ ap (λ (p : Point). Some p) (round_first ring at e l) in
    let tail : last_of (round_from ring at) ≡ Some (get_or ring at e) = last_is (round_from ring at) e (omega arith) ∙ ap (λ (p : Point). Some p) (round_last ring at e l) in
    record {
      walk = record {
        begin = get_or ring at e;
        joined = subst (λ (o : Option Point). AreJoined (Some (get_or ring at e)) chains o) tail (subst (λ (o : Option Point). AreJoined o chains (last_of (round_from ring at))) head c.joined);
        met = subst (IsTurnOf ring) (sym c.met) (round_turn ring at e l);
      };
      each = λ k d m. chain_of_cut ways loops ring at (get_or chains k d) r v l (c.parts k d m);
    }

-- ---- what the loop does
pub cut_pushed : (B : Point → Bool) (path : List Point) (from to : ℕ) (q : Point) (old : List (Vec Point Global)) (v : Vec Point Global) (new : List (Vec Point Global)) → to < length path → q ≡ get_or path to q → B q ≡ true → v.items ≡ part_of path from to → new ≡ old ++ v ∷ [] → IsCutTo B path from to (lists_of old) → IsCutTo B path to (to + 1) (lists_of new)
cut_pushed B path from to q old v new l e b is n c =
    let there : (d : Point) → B (get_or path to d) ≡ true = (λ d. ap B (sym (get_or_read path to q l e d)) ∙ b) in
    let lists : lists_of new ≡ lists_of old ++ part_of path from to ∷ [] =
    ap (λ (vs : List (Vec Point Global)). lists_of vs) n ∙ map_push (λ (w : Vec Point Global). w.items) old v ∙ ap (λ (p : List Point). lists_of old ++ p ∷ []) is in
    subst (IsCutTo B path to (to + 1)) (sym lists) (cut_there B path from to (lists_of old) q l there c)

pub cut_passed : (B : Point → Bool) (path : List Point) (from to : ℕ) (q : Point) (chains : List (List Point)) → to < length path → q ≡ get_or path to q → B q ≡ false → IsCutTo B path from to chains → IsCutTo B path from (to + 1) chains
cut_passed B path from to q chains l e b c = cut_past B path from to chains (λ d. ap B (sym (get_or_read path to q l e d)) ∙ b) c

-- at the end the last cut is at the last point
pub cut_done : (B : Point → Bool) (path : List Point) (from to : ℕ) (chains : List (List Point)) → 2 ≤ length path → ((d : Point) → B (get_or path (length path - 1) d) ≡ true) → to ≡ length path → IsCutTo B path from to chains → AreCuts B path chains
cut_done B [] from to chains l h e c = absurd (omega arith)
cut_done B (p ∷ ps) from to chains l h e c =
    let n : from ≡ length (p ∷ ps) - 1 = cut_end B (p ∷ ps) from chains p l (h p) (subst (λ (k : ℕ). IsCutTo B (p ∷ ps) from k chains) e c) in
    record { parts = c.parts; joined = subst (λ (k : ℕ). AreJoined (first_of (p ∷ ps)) chains (slice_get (p ∷ ps) k)) n c.joined; met = c.met ∙ ap (λ k. take k (p ∷ ps)) n }

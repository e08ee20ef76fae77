use Rattle.std.proofs.Common.{◌≡◌, sym, ◌∙◌, FitsSigned, pos, ◌*ℤ◌, ◌<ℤ◌}
use Rattle.std.specs.Int.{w128}
use Rattle.std.proofs.lemmas.Int.{to_z-of_z}
use Rattle.plane_edge.specs.Plane.{along, are_meeting_parts, Same}
use Rattle.plane_edge.proofs.AcrossLemmas.{Steps, found_by, none_by}
use Rattle.plane_edge.proofs.BoundLemmas.{bounded_meeting}
use Rattle.plane_edge.proofs.meeting.meet_across.Goals as goal

pub lowest-requires-clause-real : goal.lowest-requires-clause-real
lowest-requires-clause-real c =
    let e = c.args.e.now in
    let f = c.args.f.now in
    let det = c.args.turning in
    let sign = c.sign_of-sign.result in
    let m = c.times_sign-m.result in
    let a = c.offset_of.result in
    let n = c.times_sign-part.result in
    let b = c.offset_of-2.result in
    let k = c.times_sign-other_part.result in
    let f0 : FitsSigned w128 det = c.ranges.turning in
    let f1 : FitsSigned w128 sign = record { sfits = c.sign_of-sign.type_inv } in
    let f2 : FitsSigned w128 m = record { sfits = c.times_sign-m.type_inv } in
    let f3 : FitsSigned w128 a = record { sfits = c.offset_of.type_inv } in
    let f4 : FitsSigned w128 n = record { sfits = c.times_sign-part.type_inv } in
    let f5 : FitsSigned w128 b = record { sfits = c.offset_of-2.type_inv } in
    let f6 : FitsSigned w128 k = record { sfits = c.times_sign-other_part.type_inv } in
    let positive : pos 0 <ℤ (sign *ℤ det) = simp to_z-of_z at c.sign_of-sign.ensures.positive in
    let m_is : m ≡ sign *ℤ det = simp to_z-of_z at c.times_sign-m.ensures.value in
    let n_is : n ≡ sign *ℤ a = simp to_z-of_z at c.times_sign-part.ensures.value in
    let k_is : k ≡ sign *ℤ b = simp to_z-of_z at c.times_sign-other_part.ensures.value in
    let steps : Steps e f det sign m a n b k = record { det_is = c.requires.is_turn; positive = positive; m_is = m_is; a_is = c.offset_of.ensures.value; n_is = n_is; b_is = c.offset_of-2.ensures.value; k_is = k_is } in
    let test : c.are_meeting_parts.result ≡ are_meeting_parts n k m = simp to_z-of_z at c.are_meeting_parts.ensures in
    let at : c.spot_along.result ≡ along e n m = simp to_z-of_z at c.spot_along.ensures in
    rw (at, m_is) positive

pub returns-then-are_meeting_parts-clause-found : goal.returns-then-are_meeting_parts-clause-found
returns-then-are_meeting_parts-clause-found c =
    let e = c.args.e.now in
    let f = c.args.f.now in
    let det = c.args.turning in
    let sign = c.sign_of-sign.result in
    let m = c.times_sign-m.result in
    let a = c.offset_of.result in
    let n = c.times_sign-part.result in
    let b = c.offset_of-2.result in
    let k = c.times_sign-other_part.result in
    let f0 : FitsSigned w128 det = c.ranges.turning in
    let f1 : FitsSigned w128 sign = record { sfits = c.sign_of-sign.type_inv } in
    let f2 : FitsSigned w128 m = record { sfits = c.times_sign-m.type_inv } in
    let f3 : FitsSigned w128 a = record { sfits = c.offset_of.type_inv } in
    let f4 : FitsSigned w128 n = record { sfits = c.times_sign-part.type_inv } in
    let f5 : FitsSigned w128 b = record { sfits = c.offset_of-2.type_inv } in
    let f6 : FitsSigned w128 k = record { sfits = c.times_sign-other_part.type_inv } in
    let positive : pos 0 <ℤ (sign *ℤ det) = simp to_z-of_z at c.sign_of-sign.ensures.positive in
    let m_is : m ≡ sign *ℤ det = simp to_z-of_z at c.times_sign-m.ensures.value in
    let n_is : n ≡ sign *ℤ a = simp to_z-of_z at c.times_sign-part.ensures.value in
    let k_is : k ≡ sign *ℤ b = simp to_z-of_z at c.times_sign-other_part.ensures.value in
    let steps : Steps e f det sign m a n b k = record { det_is = c.requires.is_turn; positive = positive; m_is = m_is; a_is = c.offset_of.ensures.value; n_is = n_is; b_is = c.offset_of-2.ensures.value; k_is = k_is } in
    let test : c.are_meeting_parts.result ≡ are_meeting_parts n k m = simp to_z-of_z at c.are_meeting_parts.ensures in
    let at : c.spot_along.result ≡ along e n m = simp to_z-of_z at c.spot_along.ensures in
    let same : Same (along e n m) c.lowest.result = rw at at c.lowest.ensures.same in
    record {
      meeting = found_by e f det sign m a n b k c.lowest.result steps (sym test ∙ c.if-are_meeting_parts.true) same c.lowest.ensures.real;
      lowest = c.lowest.ensures.is_lowest;
      chosen = λ z. absurd (c.requires.across (c.requires.is_turn ∙ z));
    }

pub returns-then-are_meeting_parts-clause-bounded : goal.returns-then-are_meeting_parts-clause-bounded
returns-then-are_meeting_parts-clause-bounded c =
    let e = c.args.e.now in
    let f = c.args.f.now in
    let det = c.args.turning in
    let sign = c.sign_of-sign.result in
    let m = c.times_sign-m.result in
    let a = c.offset_of.result in
    let n = c.times_sign-part.result in
    let b = c.offset_of-2.result in
    let k = c.times_sign-other_part.result in
    let f0 : FitsSigned w128 det = c.ranges.turning in
    let f1 : FitsSigned w128 sign = record { sfits = c.sign_of-sign.type_inv } in
    let f2 : FitsSigned w128 m = record { sfits = c.times_sign-m.type_inv } in
    let f3 : FitsSigned w128 a = record { sfits = c.offset_of.type_inv } in
    let f4 : FitsSigned w128 n = record { sfits = c.times_sign-part.type_inv } in
    let f5 : FitsSigned w128 b = record { sfits = c.offset_of-2.type_inv } in
    let f6 : FitsSigned w128 k = record { sfits = c.times_sign-other_part.type_inv } in
    let positive : pos 0 <ℤ (sign *ℤ det) = simp to_z-of_z at c.sign_of-sign.ensures.positive in
    let m_is : m ≡ sign *ℤ det = simp to_z-of_z at c.times_sign-m.ensures.value in
    let n_is : n ≡ sign *ℤ a = simp to_z-of_z at c.times_sign-part.ensures.value in
    let k_is : k ≡ sign *ℤ b = simp to_z-of_z at c.times_sign-other_part.ensures.value in
    let steps : Steps e f det sign m a n b k = record { det_is = c.requires.is_turn; positive = positive; m_is = m_is; a_is = c.offset_of.ensures.value; n_is = n_is; b_is = c.offset_of-2.ensures.value; k_is = k_is } in
    let test : c.are_meeting_parts.result ≡ are_meeting_parts n k m = simp to_z-of_z at c.are_meeting_parts.ensures in
    let at : c.spot_along.result ≡ along e n m = simp to_z-of_z at c.spot_along.ensures in
    let same : Same (along e n m) c.lowest.result = rw at at c.lowest.ensures.same in
    bounded_meeting e f c.lowest.result (found_by e f det sign m a n b k c.lowest.result steps (sym test ∙ c.if-are_meeting_parts.true) same c.lowest.ensures.real) c.lowest.ensures.fine

pub returns-else-are_meeting_parts-clause-nowhere : goal.returns-else-are_meeting_parts-clause-nowhere
returns-else-are_meeting_parts-clause-nowhere c =
    let e = c.args.e.now in
    let f = c.args.f.now in
    let det = c.args.turning in
    let sign = c.sign_of-sign.result in
    let m = c.times_sign-m.result in
    let a = c.offset_of.result in
    let n = c.times_sign-part.result in
    let b = c.offset_of-2.result in
    let k = c.times_sign-other_part.result in
    let f0 : FitsSigned w128 det = c.ranges.turning in
    let f1 : FitsSigned w128 sign = record { sfits = c.sign_of-sign.type_inv } in
    let f2 : FitsSigned w128 m = record { sfits = c.times_sign-m.type_inv } in
    let f3 : FitsSigned w128 a = record { sfits = c.offset_of.type_inv } in
    let f4 : FitsSigned w128 n = record { sfits = c.times_sign-part.type_inv } in
    let f5 : FitsSigned w128 b = record { sfits = c.offset_of-2.type_inv } in
    let f6 : FitsSigned w128 k = record { sfits = c.times_sign-other_part.type_inv } in
    let positive : pos 0 <ℤ (sign *ℤ det) = simp to_z-of_z at c.sign_of-sign.ensures.positive in
    let m_is : m ≡ sign *ℤ det = simp to_z-of_z at c.times_sign-m.ensures.value in
    let n_is : n ≡ sign *ℤ a = simp to_z-of_z at c.times_sign-part.ensures.value in
    let k_is : k ≡ sign *ℤ b = simp to_z-of_z at c.times_sign-other_part.ensures.value in
    let steps : Steps e f det sign m a n b k = record { det_is = c.requires.is_turn; positive = positive; m_is = m_is; a_is = c.offset_of.ensures.value; n_is = n_is; b_is = c.offset_of-2.ensures.value; k_is = k_is } in
    let test : c.are_meeting_parts.result ≡ are_meeting_parts n k m = simp to_z-of_z at c.are_meeting_parts.ensures in
    none_by e f det sign m a n b k steps (sym test ∙ c.if-are_meeting_parts.false)

use Rattle.std.proofs.Common.{◌↔◌, IsTrue}
use Rattle.plane_edge.specs.Line.{whole}
use Rattle.plane_edge.specs.Plane.{On, IsEnd}
use Rattle.plane_edge.proofs.LineLemmas.{is_meeting_test, is_end_test}
use Rattle.plane_edge.proofs.level.is_meeting_at.Goals as goal

pub returns : goal.returns
returns c =
    let e = c.args.e.now in
    let f = c.args.f.now in
    let p = c.args.p in
    let on_e : IsTrue c.on-on_e.result ↔ On e (whole p) = rw c.spot_of-spot.ensures at c.on-on_e.ensures in
    let on_f : IsTrue c.on-on_f.result ↔ On f (whole p) = rw c.spot_of-spot.ensures at c.on-on_f.ensures in
    let end_e : IsTrue c.is_end-end_of_e.result ↔ IsEnd e (whole p) = rw c.is_end-end_of_e.ensures (is_end_test e p) in
    let end_f : IsTrue c.is_end-end_of_f.result ↔ IsEnd f (whole p) = rw c.is_end-end_of_f.ensures (is_end_test f p) in
    rw c.are_met.ensures (is_meeting_test e f p c.on-on_e.result c.on-on_f.result c.is_end-end_of_e.result c.is_end-end_of_f.result on_e on_f end_e end_f)

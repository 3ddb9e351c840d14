use Rattle.std.proofs.Common.{◌≡◌, ◌+◌, ◌*◌, ◌/◌, ◌<◌, length, take, sym, ap, ◌∙◌, arith}
use Rattle.std.proofs.lemmas.List.{length-set, take_all}
use Rattle.xs_markers.specs.Reading.{weights_of}
use Rattle.xs_markers.proofs.Weights.{weights_more, weights_count}
use Rattle.xs_markers.proofs.Refusals.{if_ok}
use Rattle.xs_markers.proofs.read.weights_of.Goals as goal

pub bands-preserved : goal.bands-preserved
bands-preserved c =
    let room = c.bands.invariant.room in
    let before : c.bands.band < length c.bands.weights = omega (arith, room, c.bands-test.true, c.requires.few) in
    let inside : 2 * c.bands.band + 1 < length c.args.body.now = omega (arith, c.bands-test.true) in
    record {
      room = length-set c.bands.weights c.bands.band _ ∙ room;
      same = weights_more c.bands.weights c.args.body.now c.bands.band before inside c.bands.invariant.same;
    }

pub returns : goal.returns
returns c =
    let body = c.args.body.now in
    let last : c.bands.band ≡ length body / 2 = omega (arith, c.bands-test.false, c.bands.auto.band-end) in
    let all : take (length body / 2) c.bands.weights ≡ weights_of body =
    ap (λ n. take n c.bands.weights) (sym last) ∙ c.bands.invariant.same ∙ take_all c.bands.band (weights_of body) (omega (arith, last, weights_count body)) in
    record { weights = if_ok c.from_slice.result (take (length body / 2) c.bands.weights) (weights_of body) c.from_slice.ensures.copied all }

use Rattle.std.proofs.Common.{ap, not, ◌∙◌, nat_eq, bit_and, get_or}
use Rattle.xs_lane_core.specs.Places.{word_of, place_bit, has}
use Rattle.xs_lane_core.proofs.Kept.{mask_test}
use Rattle.xs_lane_core.proofs.lane.LaneState.is_taken.Goals as goal

pub returns : goal.returns
returns c = (λ i. not (nat_eq (bit_and (get_or c.self.inside.taken (c.word_of.ensures.word i) 0) (c.own_bit.ensures i)) 0))
    ∙ (ap not (mask_test (get_or c.self.inside.taken (word_of c.args.place) 0) (place_bit c.args.place)) ∙ ap (λ x. not (nat_eq (has x.taken c.args.place) 0)) c.self.view_is)

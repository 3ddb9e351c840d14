use Rattle.xs_codec_tests.proofs.Both.{rows_of_both, first_shown, second_shown}
use Rattle.xs_codec_tests.proofs.stripe.two_stripes.Goals as goal

pub returns : goal.returns
returns c =
    let h = c.args.header.now in
    let first = c.args.first.now.rows in
    let second = c.args.second.now.rows in
    let rows = rows_of_both h first second in
    let above = first_shown h first second c.requires.first.lines in
    let below = second_shown h first second c.requires.second.lines in
    (rows, c.in_ok-top.ensures rows above _ (c.requires.shows_up rows below), c.in_ok-bottom.ensures rows below (c.requires.shows_down rows above) _)

use Rattle.std.proofs.Common.{◌+◌, ◌<◌, length, get_or, ap, subst, ◌∙◌, arith}
use Rattle.std.proofs.lemmas.List.{get_or_default}
use Rattle.xs_grammar.specs.Precinct.{coded_line}
use Rattle.xs_precinct_write.specs.Outgoing.{Outgoing, IsAlike, IsSentAs, no_outgoing}
use Rattle.xs_precinct_write.specs.Sent.{content_in}
use Rattle.xs_precinct_write.proofs.Alikes.{alike_set, set_each}
use Rattle.xs_precinct_write.proofs.write.slice.load_lines.Goals as goal

pub bands-preserved : goal.bands-preserved
bands-preserved c =
    let s = c.args.at.now in
    let old = c.args.lines.now in
    let lines = c.bands.lines in
    let k = c.bands.band in
    let new = c.load_line.new.line in
    let inside : k < length lines = omega (arith, c.bands-test.true, c.requires.end, c.requires.room.count, c.bands.invariant.alike.count) in
    let same = get_or_default lines k c.index-lines-band.result no_outgoing inside in
    let is : IsAlike (get_or lines k no_outgoing) new = subst (λ (x : Outgoing). IsAlike x new) same c.load_line.ensures.alike in
    let mode = ap (λ (x : Outgoing). x.mode) same ∙ (c.bands.invariant.alike.each k).mode in
    let here = subst (λ m. IsSentAs (coded_line s.header.now (content_in s) m k c.args.number) new) mode c.load_line.ensures.sent in
    record {
      alike = alike_set old lines k new inside c.bands.invariant.alike is;
      sent = λ band from less.
          set_each (λ b x. b < k + 1 → IsSentAs (coded_line s.header.now (content_in s) (get_or old b no_outgoing).mode b c.args.number) x) lines k new inside (λ below. here) band
          (λ other below. c.bands.invariant.sent band from (omega (arith, other, below))) less;
    }

pub returns-clause-sent : goal.returns-clause-sent
returns-clause-sent c = λ band from to. c.bands.invariant.sent band from (omega (arith, to, c.bands-test.false))

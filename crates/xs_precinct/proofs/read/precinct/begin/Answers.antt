use Rattle.std.proofs.Common.{◌≡◌, ◌+◌, ◌-◌, ◌/◌, ◌<◌, length, get_or, sym, ap, subst, ◌∙◌, arith}
use Rattle.std.specs.Prelude.{true}
use Rattle.xs_lists.specs.Bits.{bits_of_bytes}
use Rattle.xs_layout.specs.declared.Weight.{Weight}
use Rattle.xs_layout.specs.Geometry.{groups_of}
use Rattle.xs_layout.specs.Weighting.{truncation_of}
use Rattle.xs_params.specs.declared.header.Header.{Header}
use Rattle.xs_params.specs.Geometry.{band_width_of}
use Rattle.xs_grammar.specs.Precinct.{weight_of}
use Rattle.xs_reading.specs.Packet.{field_at}
use Rattle.xs_reading.specs.Precinct.{mode_at, q_at, r_at}
use Rattle.xs_precinct.specs.Bands.{Band, IsBegun, last_of, no_band}
use Rattle.xs_precinct.proofs.Pairs.{element, later_more}
use Rattle.xs_precinct.proofs.Windows.{index_more}
use Rattle.xs_precinct.proofs.read.precinct.begin.Goals as goal

pub begin-requires-clause-room : goal.begin-requires-clause-room
begin-requires-clause-room c =
    let h = c.args.place.now.header.now in
    let k = c.bands.k in
    let here : k < length c.args.bands.now = omega (arith, c.bands-test.true, c.bands.auto.bands) in
    let there : k < length c.bands.bands = omega (arith, c.bands-test.true, c.bands.auto.bands) in
    let width = c.band_width.ensures.columns ∙ ap (λ (g : Header). band_width_of g k) c.requires.geometry in
    let round : c.band_width.result + 3 ≡ band_width_of h k + 4 - 1 = omega (arith, width) in
    subst (λ (b : Band). b.there ≡ true → length b.counts ≡ (c.band_width.result + 3) / 4) (sym (element c.args.bands.now c.bands.bands k c.index-bands-k.result no_band there c.bands.invariant.later))
    (λ t. c.requires.room k here t ∙ sym (ap (λ n. n / 4) round))

pub bands-preserved : goal.bands-preserved
bands-preserved c =
    let h = c.args.place.now.header.now in
    let head = c.args.head.now in
    let init = c.args.bands.now in
    let bands = c.bands.bands in
    let k = c.bands.k in
    let b = c.begin.new.self in
    let there : k < length bands = omega (arith, c.bands-test.true, c.bands.auto.bands) in
    let is = element init bands k c.index-bands-k.result no_band there c.bands.invariant.later in
    let width = c.band_width.ensures.columns ∙ ap (λ (g : Header). band_width_of g k) c.requires.geometry in
    let round : c.band_width.result + 3 ≡ band_width_of h k + 4 - 1 = omega (arith, width) in
    let groups : (c.band_width.result + 3) / 4 ≡ groups_of (band_width_of h k) = ap (λ n. n / 4) round in
    let mode : c.next-mode.result ≡ mode_at head k = c.next-mode.ensures.field ∙ ap (λ b. field_at b c.bands.input.place 2) c.bands.invariant.bits ∙ ap (λ p. field_at (bits_of_bytes head) p 2) c.bands.invariant.place in
    let zero : Weight = record { gain = 0; priority = 0 } in
    let cut = c.truncation.ensures ∙ ap (λ l. truncation_of c.next-q.result c.next-r.result (get_or l k zero)) c.as_slice-weights.ensures.items in
    let begun = c.in_ok-begin.ensures.begun in
    record {
      place = omega (arith, c.next-mode.ensures.moved, c.bands.invariant.place);
      bits = c.next-mode.ensures.same ∙ c.bands.invariant.bits;
      room = omega (arith, c.bands.invariant.room, c.next-mode.ensures.left);
      later = later_more init bands k b c.bands.invariant.later;
      begun = index_more (λ band state. IsBegun (get_or init band no_band) state (groups_of (band_width_of h band)) (mode_at head band) (truncation_of c.next-q.result c.next-r.result (weight_of h band))) bands k b no_band there c.bands.invariant.begun
          (record { last = begun.last ∙ ap last_of is; groups = begun.groups ∙ groups; mode = begun.mode ∙ mode; cut = begun.cut ∙ cut });
    }

pub returns : goal.returns
returns c =
    let h = c.args.place.now.header.now in
    let head = c.args.head.now in
    let bits = bits_of_bytes head in
    let b1 = c.next-size.ensures.same ∙ c.fields_of-input.ensures.bits in
    let b2 = c.next-q.ensures.same ∙ b1 in
    let p1 : c.next-size.new.input.place ≡ 24 = omega (arith, c.next-size.ensures.moved, c.fields_of-input.ensures.start) in
    let p2 : c.next-q.new.input.place ≡ 32 = omega (arith, c.next-q.ensures.moved, p1) in
    let q : c.next-q.result ≡ q_at head = c.next-q.ensures.field ∙ ap (λ b. field_at b c.next-size.new.input.place 8) b1 ∙ ap (λ p. field_at bits p 8) p1 in
    let r : c.next-r.result ≡ r_at head = c.next-r.ensures.field ∙ ap (λ b. field_at b c.next-q.new.input.place 8) b2 ∙ ap (λ p. field_at bits p 8) p2 in
    record {
      begun = record {
        count = c.bands.auto.bands;
        begun = λ band inside.
            let begun = c.bands.invariant.begun band (omega (arith, inside, c.bands-test.false)) in
            record {
              last = begun.last;
              groups = begun.groups;
              mode = begun.mode;
              cut = begun.cut ∙ ap (λ n. truncation_of n c.next-r.result (weight_of h band)) q ∙ ap (λ n. truncation_of (q_at head) n (weight_of h band)) r;
            };
      };
    }

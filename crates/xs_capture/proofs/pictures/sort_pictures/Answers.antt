use Rattle.std.proofs.Common.{length, arith, ap, subst, ◌∙◌}
use Rattle.xs_capture.specs.Pictures.{AreTimestamps}
use Rattle.xs_capture.proofs.Finding.{few_offers}
use Rattle.xs_capture.proofs.pictures.sort_pictures.Goals as goal

pub overflow_cast-result : goal.overflow_cast-result
overflow_cast-result c =
    let few = few_offers c.args.bytes.now c.in_ok-found.found.packets.items c.in_ok-found.found.stepped c.in_ok-found.ensures.found in
    omega (arith, few, c.in_ok-timestamps.ensures.few, ap length c.as_slice.ensures.value, c.in_ok-timestamps.timestamps.ok.0, c.requires, c.len-then-len-gt-MOST_PICTURES.ensures)

pub returns-then-len-gt-MOST_PICTURES : goal.returns-then-len-gt-MOST_PICTURES
returns-then-len-gt-MOST_PICTURES c =
    let found = c.in_ok-found.ensures.found in
    record {
      sorted = record {
        packets = found.packets;
        whole = found.whole;
        timestamps = c.in_ok-timestamps.timestamps.items;
        sorted = subst (λ l. AreTimestamps l c.in_ok-timestamps.timestamps.items) (c.as_slice.ensures.value ∙ found.those) c.in_ok-timestamps.ensures.list;
        counted = c.len-then-len-gt-MOST_PICTURES.ensures ∙ c.in_ok-timestamps.timestamps.ok.0;
        many = omega (arith, c.len.ensures, c.len-then-len-gt-MOST_PICTURES.ensures, c.if-len-gt-MOST_PICTURES.true);
      };
    }

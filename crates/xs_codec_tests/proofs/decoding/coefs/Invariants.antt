use Rattle.std.proofs.Common.{◌≡◌, ℕ, [], ◌<◌, length, get_or}
use Rattle.xs_codec_tests.specs.Made.{IsMade}
use Rattle.xs_codec_tests.proofs.decoding.coefs.Given as goal

abbrev pub invariant-slices : goal.invariant-slices
invariant-slices l = record {
  header : l.coefs.header ≡ l.fn.header;
  count : length l.coefs.slices ≡ l.slice;
  made : (slice : ℕ) → slice < l.slice → IsMade l.fn.header slice (get_or l.coefs.slices slice []);
}

-- What is written of a packet is in the grammar.
use Rattle.std.proofs.Common.{◌≡◌, ℕ, List, [], ◌++◌, length, refl}
use Rattle.std.specs.Prelude.{Bool, true, false, IsTrue, if◌then◌else◌}
use Rattle.std.specs.List.{flat_map, list_all}
use Rattle.std.specs.Bool.{MatchBool}
use Rattle.xs_lists.specs.Bits.{bits_of_bytes, bits_of_fields, FieldsFit}
use Rattle.xs_lists.specs.Spelling.{SpellsBits, SpellsPadded}
use Rattle.xs_lists.proofs.Each.{each-tested}
use Rattle.xs_spelling.proofs.Written.{raw_written, counts_written, data_written}
use Rattle.xs_spelling.specs.Counts.{Line, SpellsCounts, SpellsRawCounts, flag_bits}
use Rattle.xs_spelling.specs.Data.{SpellsData, sign_bits}
use Rattle.xs_grammar.specs.Packet.{IsPacket, packet_fields, SpellsBandCounts}
use Rattle.xs_params.specs.declared.header.Header.{Header}
use Rattle.xs_spelling.specs.Written.{line_count_bits, has_line_bits, line_data_bits, has_small_data}

-- the counts of bands
pub band_counts_written : (raw : Bool) (run_mode : ℕ) (bands : List ℕ) (line : ℕ → Line) (flag : ℕ → ℕ → ℕ) → IsTrue (list_all (λ band. has_line_bits raw run_mode (line band) (flag band)) bands)
    → SpellsBandCounts raw run_mode bands line flag (flat_map (λ band. line_count_bits raw (line band) (flag band)) bands)
band_counts_written true run_mode bands line flag h =
    each-tested (λ band. SpellsRawCounts (line band)) (λ band. line_count_bits true (line band) (flag band)) (λ band. has_line_bits true run_mode (line band) (flag band)) (λ band. raw_written (line band)) bands h
band_counts_written false run_mode bands line flag h =
    each-tested (λ band. SpellsCounts run_mode (line band) (flag band)) (λ band. line_count_bits false (line band) (flag band)) (λ band. has_line_bits false run_mode (line band) (flag band))
    (λ band. counts_written run_mode (line band) (flag band)) bands h

-- What a writer of a packet has to see to: the flags are its choice, and each part begins with its bits.
pub record Parts (h : Header) (bands : List ℕ) (line : ℕ → Line) (raw : Bool) (flag : ℕ → ℕ → ℕ) (stated : ℕ) (head significance counts planes signs : List ℕ) : Type 0 where
  pub room : FieldsFit (packet_fields h.long_heads raw (length planes) (length counts) stated)
  pub headed : bits_of_bytes head ≡ bits_of_fields (packet_fields h.long_heads raw (length planes) (length counts) stated)
  pub flagged : SpellsPadded significance (if raw then [] else flat_map (λ band. flag_bits (line band) (flag band)) bands)
  pub counted : SpellsBits counts (flat_map (λ band. line_count_bits raw (line band) (flag band)) bands)
  pub filled : SpellsBits planes (flat_map (λ band. line_data_bits h.signs_apart (line band)) bands)
  pub signed : MatchBool h.signs_apart ((stated ≡ length signs) × SpellsBits signs (flat_map (λ band. sign_bits (line band)) bands)) (signs ≡ [])
  pub has_counts : IsTrue (list_all (λ band. has_line_bits raw h.run_mode (line band) (flag band)) bands)
  pub has_data : IsTrue (list_all (λ band. has_small_data (line band)) bands)

pub packet_written : (h : Header) (bands : List ℕ) (line : ℕ → Line) (raw : Bool) (flag : ℕ → ℕ → ℕ) (stated : ℕ) (head significance counts planes signs : List ℕ)
    → Parts h bands line raw flag stated head significance counts planes signs → IsPacket h bands line (head ++ (significance ++ (counts ++ (planes ++ signs))))
packet_written h bands line raw flag stated head significance counts planes signs p = record {
  raw = raw;
  head = head;
  significance = significance;
  counts = counts;
  planes = planes;
  signs = signs;
  joined = refl;
  stated = stated;
  room = p.room;
  headed = p.headed;
  flag = flag;
  flagged = p.flagged;
  counted = (flat_map (λ band. line_count_bits raw (line band) (flag band)) bands, p.counted.0, p.counted.1, band_counts_written raw h.run_mode bands line flag p.has_counts);
  filled = (flat_map (λ band. line_data_bits h.signs_apart (line band)) bands, p.filled.0, p.filled.1, each-tested (λ band. SpellsData h.signs_apart (line band)) (λ band. line_data_bits h.signs_apart (line band)) (λ band. has_small_data (line band)) (λ band. data_written h.signs_apart (line band)) bands p.has_data);
  signed = p.signed;
}

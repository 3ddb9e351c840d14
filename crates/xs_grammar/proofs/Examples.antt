-- Worked examples, by computing.
use Rattle.std.proofs.Common.{◌≡◌, ℕ, List, [], ◌∷◌, ◌++◌, map, length, refl, replicate}
use Rattle.std.proofs.Common.{arith}
use Rattle.std.specs.Prelude.{Bool, true, false, nat_eq, ◌||◌, if◌then◌else◌, pos}
use Rattle.xs_lists.specs.Bits.{bits_of}
use Rattle.xs_spelling.specs.Counts.{SpellsResidual, unary}
use Rattle.xs_grammar.specs.Packet.{IsPacket}
use Rattle.xs_grammar.specs.Precinct.{Content, IsPrecinct, coded_line}
use Rattle.xs_grammar.specs.Slice.{IsSliceUnit}
use Rattle.xs_spelling.specs.Written.{ones_of}
use Rattle.xs_grammar.proofs.Written.{Parts, packet_written}
use Rattle.xs_layout.specs.declared.Format.TheVariants.{Mono}
use Rattle.xs_layout.specs.declared.Quant.TheVariants.{DeadZone}
use Rattle.xs_layout.specs.declared.Weight.{Weight}
use Rattle.xs_params.specs.declared.header.Header.{Header}
use Rattle.xs_lists.specs.Spelling.{upto}
use Rattle.xs_layout.specs.Geometry.{PacketPlace, band_types, BandType}
use Rattle.xs_params.specs.Geometry.{bands_of, band_height_of, band_width_of, precinct_count, slice_count, precincts_of, packets_of, lines_of}
use Rattle.xs_layout.specs.Weighting.{truncation_of}

abbrev place_of : PacketPlace → ℕ × ℕ
place_of place = (place.first_type, place.line)

abbrev parts_of : BandType → ℕ × ℕ × Bool × Bool
parts_of t = (t.across, t.down, t.high_across, t.high_down)

abbrev weights : List (ℕ × ℕ) → List Weight
weights rows = map (λ (row : ℕ × ℕ). record { gain = row.0; priority = row.1 }) rows

-- one component, 32 by 17, two levels in both directions, four precincts a slice
abbrev tall : Header
tall = record {
  lcod = 0;
  shape = record { width = 32; height = 17; format = Mono; depth = 8 };
  hsl = 4;
  bw = 20;
  fq = 8;
  colour = false;
  nlx = 2;
  nly = 2;
  long_heads = false;
  quant = DeadZone;
  signs_apart = false;
  run_mode = 0;
  weights = weights ((2, 0) ∷ (1, 1) ∷ (1, 2) ∷ (1, 3) ∷ (0, 4) ∷ (0, 5) ∷ (0, 6) ∷ []);
}

tall-heights : map (band_height_of tall) (upto (bands_of tall)) ≡ 5 ∷ 5 ∷ 4 ∷ 4 ∷ 9 ∷ 8 ∷ 8 ∷ []
tall-heights = refl

tall-widths : map (band_width_of tall) (upto (bands_of tall)) ≡ 8 ∷ 8 ∷ 8 ∷ 8 ∷ 16 ∷ 16 ∷ 16 ∷ []
tall-widths = refl

tall-slices : map (precincts_of tall) (upto (slice_count tall)) ≡ (0 ∷ 1 ∷ 2 ∷ 3 ∷ []) ∷ (4 ∷ []) ∷ []
tall-slices = refl

tall-packets : map (λ p. length (packets_of tall p)) (upto (precinct_count tall)) ≡ 10 ∷ 10 ∷ 10 ∷ 10 ∷ 3 ∷ []
tall-packets = refl

-- the lines of precinct 4 in each band: one of LL, of HL at level 2 and of HL at level 1
tall-lines : map (lines_of tall 4) (upto (bands_of tall)) ≡ (4, 5) ∷ (4, 5) ∷ (4, 4) ∷ (4, 4) ∷ (8, 9) ∷ (8, 8) ∷ (8, 8) ∷ []
tall-lines = refl

-- band type and line: LL line 4, HL at level 2 line 4, HL at level 1 line 8
tall-last : map place_of (packets_of tall 4) ≡ (0, 4) ∷ (1, 4) ∷ (4, 8) ∷ []
tall-last = refl

tall-first : map place_of (packets_of tall 1)
    ≡ (0, 1) ∷ (1, 1) ∷ (2, 1) ∷ (3, 1) ∷ (4, 2) ∷ (5, 2) ∷ (6, 2) ∷ (4, 3) ∷ (5, 3) ∷ (6, 3) ∷ []
tall-first = refl

tall-types : map parts_of (band_types 2 2)
    ≡ (2, 2, false, false) ∷ (2, 2, true, false) ∷ (2, 2, false, true) ∷ (2, 2, true, true) ∷ (1, 1, true, false) ∷ (1, 1, false, true) ∷ (1, 1, true, true) ∷ []
tall-types = refl

deep-types : map parts_of (band_types 5 1)
    ≡ (5, 1, false, false) ∷ (5, 1, true, false) ∷ (4, 1, true, false) ∷ (3, 1, true, false) ∷ (2, 1, true, false) ∷ (1, 1, true, false) ∷ (1, 1, false, true) ∷ (1, 1, true, true) ∷ []
deep-types = refl

-- Q, R, gain, priority
truncations : truncation_of 5 0 (record { gain = 2; priority = 0 }) ∷ truncation_of 5 1 (record { gain = 2; priority = 0 }) ∷ truncation_of 1 0 (record { gain = 2; priority = 0 })
    ∷ truncation_of 40 0 (record { gain = 2; priority = 0 }) ∷ truncation_of 2 9 (record { gain = 2; priority = 8 }) ∷ [] ≡ 3 ∷ 2 ∷ 0 ∷ 15 ∷ 0 ∷ []
truncations = refl

-- with the prediction 5 and the truncation 3, so many ones and a zero spell these counts
ones_5_3 : SpellsResidual 5 3 5 (unary 0) × SpellsResidual 5 3 4 (unary 1) × SpellsResidual 5 3 6 (unary 2) × SpellsResidual 5 3 3 (unary 3) × SpellsResidual 5 3 7 (unary 4) × SpellsResidual 5 3 8 (unary 5)
ones_5_3 =
    ((0, refl, omega arith), (1, refl, omega arith), (2, refl, omega arith), (3, refl, omega arith), (4, refl, omega arith), (5, refl, omega arith))

-- and they are what is written
written_5_3 : map (ones_of 2 5) (5 ∷ 4 ∷ 6 ∷ 3 ∷ 7 ∷ 8 ∷ []) ≡ upto 6
written_5_3 = refl

-- Slice 1 of the tall picture, where all is 0: three packets, with significance flags for each band that has a line.

abbrev zero : Content
zero = record { q = λ _. 0; r = λ _. 0; count = λ _ _ _. 0; value = λ _ _ _. pos 0 }

abbrev zero_mode : ℕ → ℕ
zero_mode band = if nat_eq band 0 || nat_eq band 1 || nat_eq band 4 then 2 else 0

abbrev zero_packet : List ℕ
zero_packet = (0 ∷ 0 ∷ 0 ∷ 0 ∷ 0 ∷ []) ++ ((0x80 ∷ []) ++ ([] ++ ([] ++ [])))

zero_is : (band line : ℕ) → Parts tall (band ∷ []) (λ b. coded_line tall zero (zero_mode b) b line) false (λ _ _. 1) 0 (0 ∷ 0 ∷ 0 ∷ 0 ∷ 0 ∷ []) (0x80 ∷ []) [] [] []
    → IsPacket tall (band ∷ []) (λ b. coded_line tall zero (zero_mode b) b line) zero_packet
zero_is band line parts = packet_written tall (band ∷ []) (λ b. coded_line tall zero (zero_mode b) b line) false (λ _ _. 1) 0 (0 ∷ 0 ∷ 0 ∷ 0 ∷ 0 ∷ []) (0x80 ∷ []) [] [] [] parts

abbrev tall_end : List ℕ
tall_end = 0xff ∷ 0x20 ∷ 0 ∷ 4 ∷ 0 ∷ 1 ∷ 0 ∷ 0 ∷ 0x12 ∷ 0 ∷ 0 ∷ 0xa0 ∷ 0x80 ∷ zero_packet ++ (zero_packet ++ zero_packet)

zero_precinct : IsPrecinct tall zero 4 (0 ∷ 0 ∷ 0x12 ∷ 0 ∷ 0 ∷ 0xa0 ∷ 0x80 ∷ zero_packet ++ (zero_packet ++ zero_packet))
unfolding bits_of
zero_precinct = record {
  head = 0 ∷ 0 ∷ 0x12 ∷ 0 ∷ 0 ∷ 0xa0 ∷ 0x80 ∷ [];
  body = zero_packet ++ (zero_packet ++ zero_packet);
  joined = refl;
  mode = zero_mode;
  room = omega arith;
  headed = record { begin = (0 ∷ 0 ∷ [], refl); size = refl };
  filled = (zero_packet ++ (zero_packet ++ zero_packet), [], refl, (zero_packet, zero_packet ++ zero_packet, refl, zero_is 0 4 parts_0, (zero_packet, zero_packet, refl, zero_is 1 4 parts_1, (zero_packet, [], refl, zero_is 4 8 parts_4, refl))));
}
  where
    parts_0 : Parts tall (0 ∷ []) (λ b. coded_line tall zero (zero_mode b) b 4) false (λ _ _. 1) 0 (0 ∷ 0 ∷ 0 ∷ 0 ∷ 0 ∷ []) (0x80 ∷ []) [] [] []
    parts_0 = record { room = omega arith; headed = refl; flagged = record { begin = (replicate 7 0, refl); size = refl }; counted = ([], refl); filled = ([], refl); signed = refl; has_counts = refl; has_data = refl }

    parts_1 : Parts tall (1 ∷ []) (λ b. coded_line tall zero (zero_mode b) b 4) false (λ _ _. 1) 0 (0 ∷ 0 ∷ 0 ∷ 0 ∷ 0 ∷ []) (0x80 ∷ []) [] [] []
    parts_1 = record { room = omega arith; headed = refl; flagged = record { begin = (replicate 7 0, refl); size = refl }; counted = ([], refl); filled = ([], refl); signed = refl; has_counts = refl; has_data = refl }

    parts_4 : Parts tall (4 ∷ []) (λ b. coded_line tall zero (zero_mode b) b 8) false (λ _ _. 1) 0 (0 ∷ 0 ∷ 0 ∷ 0 ∷ 0 ∷ []) (0x80 ∷ []) [] [] []
    parts_4 = record { room = omega arith; headed = refl; flagged = record { begin = (replicate 7 0, refl); size = refl }; counted = ([], refl); filled = ([], refl); signed = refl; has_counts = refl; has_data = refl }

tall_end-is : IsSliceUnit tall zero 1 (tall_end ++ (0xff ∷ 0x11 ∷ []))
tall_end-is = (
  tall_end,
  refl,
  record {
    index = omega arith;
    body = 0 ∷ 0 ∷ 0x12 ∷ 0 ∷ 0 ∷ 0xa0 ∷ 0x80 ∷ zero_packet ++ (zero_packet ++ zero_packet);
    joined = refl;
    spelled = (0 ∷ 0 ∷ 0x12 ∷ 0 ∷ 0 ∷ 0xa0 ∷ 0x80 ∷ zero_packet ++ (zero_packet ++ zero_packet), [], refl, zero_precinct, refl);
  },
)

tall_end-size : length tall_end ≡ 31
tall_end-size = refl
